-- Laws of finite sums, once for every carrier: adding, swapping, picking one term, reindexing by a bijection, splitting by a label, pairing 2e and 2e+1.
use mathlib.Core.Path.{◌≡◌, refl, sym, ◌∙◌, ap, ap₂}
use mathlib.Core.Logic.{◌≢◌}
use mathlib.Core.Bool.{cond}
use Prim.Native.Nat.{ℕ, zero, suc, ◌+◌, ◌*◌, ◌<◌}
use native.Mathlib.Omega.{arith}
use native.Mathlib.Decide.{ℕ_discrete}
use native.Mathlib.Numerals.{add-one}
use lib.Dec.{eqb}
use Rattle.integers.specs.Sum.{Monoid, sum}
use Rattle.integers.proofs.Tests.{eqb_true, eqb_false}

module _ (𝓜 : Monoid) where
  pub sum_zero : (f : ℕ → 𝓜.Carrier) → sum 𝓜 0 f ≡ 𝓜.nil
  unfolding sum
  sum_zero f = refl

  pub sum_suc : (n : ℕ) (f : ℕ → 𝓜.Carrier) → sum 𝓜 (suc n) f ≡ 𝓜.add (sum 𝓜 n f) (f n)
  unfolding sum
  sum_suc n f = refl

  -- the step of a loop that adds up
  pub sum_more : (n : ℕ) (f : ℕ → 𝓜.Carrier) → sum 𝓜 (n + 1) f ≡ 𝓜.add (sum 𝓜 n f) (f n)
  sum_more n f = rw (add-one n) (sum_suc n f)

  nil_add : (a : 𝓜.Carrier) → 𝓜.add 𝓜.nil a ≡ a
  nil_add a = 𝓜.commutes 𝓜.nil a ∙ 𝓜.add_nil a

  left_commutes : (a b c : 𝓜.Carrier) → 𝓜.add a (𝓜.add b c) ≡ 𝓜.add b (𝓜.add a c)
  left_commutes a b c = sym (𝓜.associates a b c) ∙ ap (λ x. 𝓜.add x c) (𝓜.commutes a b) ∙ 𝓜.associates b a c

  interchange : (a b c d : 𝓜.Carrier) → 𝓜.add (𝓜.add a b) (𝓜.add c d) ≡ 𝓜.add (𝓜.add a c) (𝓜.add b d)
  interchange a b c d = simp (𝓜.associates, left_commutes)

  pub sum_ext : (n : ℕ) (f g : ℕ → 𝓜.Carrier) → ((i : ℕ) → i < n → f i ≡ g i) → sum 𝓜 n f ≡ sum 𝓜 n g
  unfolding sum
  sum_ext zero f g h = refl
  sum_ext (suc n) f g h = ap₂ 𝓜.add (sum_ext n f g (λ i l. h i (omega arith))) (h n (omega arith))

  pub sum_nil : (n : ℕ) (f : ℕ → 𝓜.Carrier) → ((i : ℕ) → i < n → f i ≡ 𝓜.nil) → sum 𝓜 n f ≡ 𝓜.nil
  unfolding sum
  sum_nil zero f h = refl
  sum_nil (suc n) f h = ap₂ 𝓜.add (sum_nil n f (λ i l. h i (omega arith))) (h n (omega arith)) ∙ 𝓜.add_nil 𝓜.nil

  pub sum_add : (n : ℕ) (f g : ℕ → 𝓜.Carrier) → sum 𝓜 n (λ i. 𝓜.add (f i) (g i)) ≡ 𝓜.add (sum 𝓜 n f) (sum 𝓜 n g)
  unfolding sum
  sum_add zero f g = sym (𝓜.add_nil 𝓜.nil)
  sum_add (suc n) f g = ap (λ x. 𝓜.add x (𝓜.add (f n) (g n))) (sum_add n f g) ∙ interchange (sum 𝓜 n f) (sum 𝓜 n g) (f n) (g n)

  pub sum_swap : (n m : ℕ) (f : ℕ → ℕ → 𝓜.Carrier) → sum 𝓜 n (λ i. sum 𝓜 m (λ j. f i j)) ≡ sum 𝓜 m (λ j. sum 𝓜 n (λ i. f i j))
  unfolding sum
  sum_swap zero m f = sym (sum_nil m (λ j. 𝓜.nil) (λ j l. refl))
  sum_swap (suc n) m f =
      ap (λ x. 𝓜.add x (sum 𝓜 m (λ j. f n j))) (sum_swap n m f) ∙ sym (sum_add m (λ j. sum 𝓜 n (λ i. f i j)) (λ j. f n j))

  -- only the term at k may differ from nil
  pub sum_one : (n k : ℕ) (f : ℕ → 𝓜.Carrier) → k < n → ((i : ℕ) → i < n → i ≢ k → f i ≡ 𝓜.nil) → sum 𝓜 n f ≡ f k
  unfolding sum
  sum_one zero k f l h = absurd (omega arith)
  sum_one (suc n) k f l h = go (ℕ_discrete k n) (sum_one n k f)
    where
      go : Dec (k ≡ n) → (k < n → ((i : ℕ) → i < n → i ≢ k → f i ≡ 𝓜.nil) → sum 𝓜 n f ≡ f k) → 𝓜.add (sum 𝓜 n f) (f n) ≡ f k
      go (yes e) r = ap₂ 𝓜.add (sum_nil n f (λ i m. h i (omega arith) (omega arith))) (ap f (sym e)) ∙ nil_add (f k)
      go (no c) r = ap₂ 𝓜.add (r (omega arith) (λ i m. h i (omega arith))) (h n (omega arith) (λ p. c (sym p))) ∙ 𝓜.add_nil (f k)

  pub sum_pick : (n k : ℕ) (f : ℕ → 𝓜.Carrier) → k < n → sum 𝓜 n (λ i. cond (eqb i k) (f i) 𝓜.nil) ≡ f k
  sum_pick n k f l =
      sum_one n k (λ i. cond (eqb i k) (f i) 𝓜.nil) l (λ i m c. rw (eqb_false i k c)) ∙ rw (eqb_true k k refl)

  -- reindexing by a bijection p with its inverse q
  pub sum_bijection : (n : ℕ) (p q : ℕ → ℕ) (f : ℕ → 𝓜.Carrier)
      → ((i : ℕ) → i < n → p i < n) → ((i : ℕ) → i < n → q i < n)
      → ((i : ℕ) → i < n → q (p i) ≡ i) → ((i : ℕ) → i < n → p (q i) ≡ i)
      → sum 𝓜 n (λ i. f (p i)) ≡ sum 𝓜 n f
  sum_bijection n p q f p_in q-in qp pq =
      sum_ext n (λ i. f (p i)) (λ i. sum 𝓜 n (λ j. cond (eqb j (p i)) (f j) 𝓜.nil)) (λ i l. sym (sum_pick n (p i) f (p_in i l)))
      ∙ sum_swap n n (λ i j. cond (eqb j (p i)) (f j) 𝓜.nil)
      ∙ sum_ext n (λ j. sum 𝓜 n (λ i. cond (eqb j (p i)) (f j) 𝓜.nil)) f inner
    where
      inner : (j : ℕ) → j < n → sum 𝓜 n (λ i. cond (eqb j (p i)) (f j) 𝓜.nil) ≡ f j
      inner j l =
          sum_one n (q j) (λ i. cond (eqb j (p i)) (f j) 𝓜.nil) (q-in j l)
          (λ i m c. rw (eqb_false j (p i) (λ e. c (sym (qp i m) ∙ ap q (sym e)))))
          ∙ rw (eqb_true j (p (q j)) (sym (pq j l)))

  -- splitting by a label: the sum over 0..n-1 is the sum, over the labels, of the sums of what has that label
  pub sum_by_label : (n m : ℕ) (label : ℕ → ℕ) (f : ℕ → 𝓜.Carrier) → ((i : ℕ) → i < n → label i < m)
      → sum 𝓜 n f ≡ sum 𝓜 m (λ v. sum 𝓜 n (λ i. cond (eqb v (label i)) (f i) 𝓜.nil))
  sum_by_label n m label f b =
      sum_ext n f (λ i. sum 𝓜 m (λ v. cond (eqb v (label i)) (f i) 𝓜.nil)) (λ i l. sym (sum_pick m (label i) (λ v. f i) (b i l)))
      ∙ sum_swap n m (λ i v. cond (eqb v (label i)) (f i) 𝓜.nil)

  -- 0..2n-1 in pairs 2e, 2e+1
  pub sum_pairs : (n : ℕ) (f : ℕ → 𝓜.Carrier) → sum 𝓜 (2 * n) f ≡ sum 𝓜 n (λ e. 𝓜.add (f (2 * e)) (f (2 * e + 1)))
  unfolding sum
  sum_pairs zero f = refl
  sum_pairs (suc n) f =
      rw two
      (𝓜.associates (sum 𝓜 (2 * n) f) (f (2 * n)) (f (suc (2 * n)))
      ∙ ap₂ (λ x y. 𝓜.add x (𝓜.add (f (2 * n)) (f y))) (sum_pairs n f) (sym (add-one (2 * n))))
    where
      two : 2 * suc n ≡ suc (suc (2 * n))
      two = omega arith
