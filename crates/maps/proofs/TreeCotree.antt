-- Tree and cotree: two graphs on the same edges 0..n-1, with places s e, t e below N and faces l e, r e below F. If every difference of face values is
-- closed in the first graph and the counts are as Euler's formula has them, then every closed function is a difference of face values.
-- A forest T of the places leaves, by the counts, just enough edges for a forest of the faces; potentials laid along that one are right on all edges.
use mathlib.Core.Path.{◌≡◌, refl, sym, ◌∙◌, ap, ap₂}
use mathlib.Core.Logic.{◌⊎◌, inl, inr}
use mathlib.Core.Bool.{Bool, true, false, cond, not, false≢true}
use Prim.Native.Nat.{ℕ, ◌+◌, ◌*◌, ◌≤◌, ◌<◌}
use native.Mathlib.Omega.{arith}
use lib.Dec.{eqb}
use lib.IntN.{ℤ, pos, ◌+ℤ◌, neg_ℤ, ◌-ℤ◌, +ℤ_invr, nat_abs}
use Rattle.integers.specs.Sum.{Integers, Naturals, sumℤ, sumℕ, bit, count}
use Rattle.integers.proofs.Omega.{atoms₂, parts, equal}
use Rattle.integers.proofs.Laws.{equal_of_sub}
use Rattle.integers.proofs.Tests.{either, eqb_true, eqb_eq}
use Rattle.integers.proofs.Sums.{sum_ext, sum_add}
use Rattle.integers.proofs.IntegerSums.{sum_neg}
use Rattle.integers.proofs.Counting.{bit_le, bit_one, sum_full, sum_le_size, sum_le_sum, sum_ones}
use Rattle.maps.proofs.Forest.{carried, label, taken, taken_allowed, label_closed, forest_zero, height, height_taken}
use Rattle.maps.proofs.ForestCount.{forest_count, class_one, classes_le}

abbrev one : Bool → ℤ
one b = cond b (pos 1) (pos 0)

one_injective : (x y : Bool) → one x -ℤ one y ≡ pos 0 → x ≡ y
one_injective true true e = refl
one_injective true false e = absurd (omega (arith, ap nat_abs e))
one_injective false true e = absurd (omega (arith, ap nat_abs e))
one_injective false false e = refl

carried_sub : (b c : Bool) (x y : ℤ) → carried b c (x -ℤ y) ≡ carried b c x +ℤ neg_ℤ (carried b c y)
carried_sub true true x y = let a = atoms₂ x y in equal (search parts depth 8) (omega arith)
carried_sub true false x y = let a = atoms₂ x y in equal (search parts depth 8) (omega arith)
carried_sub false true x y = let a = atoms₂ x y in equal (search parts depth 8) (omega arith)
carried_sub false false x y = refl

-- a Boolean set that no edge leaves holds, with a place, all places of its component
abbrev pub Joined : ℕ → (ℕ → ℕ) → (ℕ → ℕ) → ℕ → (ℕ → ℕ) → Type 0
Joined n a b N part = (S : ℕ → Bool) → ((e : ℕ) → e < n → S (a e) ≡ S (b e)) → (v w : ℕ) → v < N → w < N → part v ≡ part w → S v ≡ S w

-- nothing leaves any set of places
abbrev pub Closed : ℕ → (ℕ → ℕ) → (ℕ → ℕ) → (ℕ → ℤ) → Type 0
Closed n a b φ = (S : ℕ → Bool) → sumℤ n (λ e. carried (S (a e)) (S (b e)) (φ e)) ≡ pos 0

pub record TwoGraphs (n N F k : ℕ) (s t l r partN partF partE : ℕ → ℕ) : Type 0 where
  pub s_in : (e : ℕ) → e < n → s e < N
  pub t_in : (e : ℕ) → e < n → t e < N
  pub l_in : (e : ℕ) → e < n → l e < F
  pub r_in : (e : ℕ) → e < n → r e < F
  pub part_n_in : (v : ℕ) → v < N → partN v < k
  pub part_f_in : (f : ℕ) → f < F → partF f < k
  pub s_part : (e : ℕ) → e < n → partN (s e) ≡ partE e
  pub t_part : (e : ℕ) → e < n → partN (t e) ≡ partE e
  pub l_part : (e : ℕ) → e < n → partF (l e) ≡ partE e
  pub r_part : (e : ℕ) → e < n → partF (r e) ≡ partE e
  pub joined_n : Joined n s t N partN
  pub joined_f : Joined n l r F partF
  pub closed : (ρ : ℕ → ℤ) → Closed n s t (λ e. ρ (l e) -ℤ ρ (r e))

module _ {n N F k : ℕ} {s t l r partN partF partE : ℕ → ℕ} (𝓖 : TwoGraphs n N F k s t l r partN partF partE) where
  all : ℕ → Bool
  all e = true

  in_tree : ℕ → Bool
  in_tree = taken all s t

  off_tree : ℕ → Bool
  off_tree e = not (in_tree e)

  in_cotree : ℕ → Bool
  in_cotree = taken off_tree l r

  same_node : (v w : ℕ) → v < N → w < N → partN v ≡ partN w → label all s t n v ≡ label all s t n w
  unfolding all
  same_node v w lv lw c =
      sym (eqb_eq (label all s t n w) (label all s t n v)
      (sym (𝓖.joined_n (λ x. eqb (label all s t n x) (label all s t n v)) shut v w lv lw c) ∙ eqb_true (label all s t n v) (label all s t n v) refl))
    where
      shut : (e : ℕ) → e < n → eqb (label all s t n (s e)) (label all s t n v) ≡ eqb (label all s t n (t e)) (label all s t n v)
      shut e l = ap (λ x. eqb x (label all s t n v)) (label_closed all s t e n l refl)

  -- a class of faces under crossing non-tree edges is shut under all crossings: its boundary runs on the tree only and leaves no set of nodes
  same_face : (f g : ℕ) → f < F → g < F → partF f ≡ partF g → label off_tree l r n f ≡ label off_tree l r n g
  unfolding off_tree in_tree
  same_face f g lf lg c =
      sym (eqb_eq (label off_tree l r n g) (label off_tree l r n f)
      (sym (𝓖.joined_f B shut f g lf lg c) ∙ eqb_true (label off_tree l r n f) (label off_tree l r n f) refl))
    where
      B : ℕ → Bool
      B x = eqb (label off_tree l r n x) (label off_tree l r n f)

      φ : ℕ → ℤ
      φ e = one (B (l e)) -ℤ one (B (r e))

      off : (e : ℕ) → e < n → taken all s t e ≡ false → φ e ≡ pos 0
      off e m h = rw (label_closed off_tree l r e n m (rw h)) (+ℤ_invr (one (B (r e))))

      shut : (e : ℕ) → e < n → B (l e) ≡ B (r e)
      shut e m = one_injective (B (l e)) (B (r e)) (forest_zero all s t n φ off (𝓖.closed (λ x. one (B x))) e m)

  -- no edge is in both
  at_most_one : (e : ℕ) → e < n → bit (in_tree e) + bit (in_cotree e) ≤ 1
  unfolding in_tree in_cotree off_tree
  at_most_one e m = go (either (in_tree e))
    where
      other : (t : Bool) → (in_cotree e ≡ t) → in_tree e ≡ true → bit t ≡ 0
      other true q p = absurd (false≢true (ap not (sym p) ∙ taken_allowed off_tree l r e q))
      other false q p = refl

      go : (in_tree e ≡ true) ⊎ (in_tree e ≡ false) → bit (in_tree e) + bit (in_cotree e) ≤ 1
      go (inl p) = omega (arith, bit_le (in_tree e), other (in_cotree e) refl p)
      go (inr p) = rw p (omega (arith, bit_le (in_cotree e)))

  -- tree and cotree are at least so many edges
  both : N + F ≤ sumℕ n (λ e. bit (in_tree e) + bit (in_cotree e)) + 2 * k
  unfolding in_tree in_cotree off_tree
  both =
      rw (sum_add Naturals n (λ e. bit (in_tree e)) (λ e. bit (in_cotree e)))
      (omega (
        arith,
        forest_count all s t N (λ v. 1) n (λ e m. refl) 𝓖.s_in 𝓖.t_in,
        forest_count off_tree l r F (λ f. 1) n (λ e m. refl) 𝓖.l_in 𝓖.r_in,
        classes_le all s t N n partN same_node k 𝓖.part_n_in,
        classes_le off_tree l r F n partF same_face k 𝓖.part_f_in,
        sum_ones N,
        sum_ones F,
      ))

  -- Euler's count is a bound in any case
  pub euler_bound : N + F ≤ n + 2 * k
  euler_bound = omega (arith, both, sum_le_size n (λ e. bit (in_tree e) + bit (in_cotree e)) at_most_one)

  -- and so it is in each component
  pub part_bound : (c : ℕ) → count N (λ v. eqb c (partN v)) + count F (λ f. eqb c (partF f)) ≤ count n (λ e. eqb c (partE e)) + 2
  unfolding in_tree in_cotree off_tree
  part_bound c =
      omega (
        arith,
        forest_count all s t N (λ v. bit (eqb c (partN v))) n (λ e m. ap (λ x. bit (eqb c x)) (𝓖.s_part e m ∙ sym (𝓖.t_part e m))) 𝓖.s_in 𝓖.t_in,
        forest_count off_tree l r F (λ f. bit (eqb c (partF f))) n (λ e m. ap (λ x. bit (eqb c x)) (𝓖.l_part e m ∙ sym (𝓖.r_part e m))) 𝓖.l_in 𝓖.r_in,
        class_one all s t N n partN same_node c,
        class_one off_tree l r F n partF same_face c,
        sum_add Naturals n tree cotree,
        sum_le_sum n (λ e. tree e + cotree e) (λ e. bit (eqb c (partE e))) shared,
      )
    where
      tree : ℕ → ℕ
      tree e = cond (in_tree e) (bit (eqb c (partN (s e)))) 0

      cotree : ℕ → ℕ
      cotree e = cond (in_cotree e) (bit (eqb c (partF (l e)))) 0

      once : (p q : Bool) (x : ℕ) → bit p + bit q ≤ 1 → cond p x 0 + cond q x 0 ≤ x
      once true true x h = absurd (omega arith)
      once true false x h = omega arith
      once false true x h = omega arith
      once false false x h = omega arith

      shared : (e : ℕ) → e < n → tree e + cotree e ≤ bit (eqb c (partE e))
      shared e m = rw (𝓖.s_part e m, 𝓖.l_part e m) (once (in_tree e) (in_cotree e) (bit (eqb c (partE e))) (at_most_one e m))

  -- by Euler's count every edge is in the tree or in the cotree
  cover : n + 2 * k ≤ N + F → (e : ℕ) → e < n → in_tree e ≡ false → in_cotree e ≡ true
  cover euler e m h = bit_one (in_cotree e)
      (omega (arith, rw h at (sum_full n (λ e. bit (in_tree e) + bit (in_cotree e)) at_most_one (omega (arith, both)) e m)))

  pub closed_difference : n + 2 * k ≤ N + F → (φ : ℕ → ℤ) → Closed n s t φ → (ρ : ℕ → ℤ) × ((e : ℕ) → e < n → φ e ≡ ρ (l e) -ℤ ρ (r e))
  unfolding in_tree in_cotree
  closed_difference euler φ shut = (ρ, λ e m. equal_of_sub (φ e) (ρ (l e) -ℤ ρ (r e)) (forest_zero all s t n ψ off still e m))
    where
      ρ : ℕ → ℤ
      ρ = height off_tree l r φ n

      ψ : ℕ → ℤ
      ψ e = φ e -ℤ (ρ (l e) -ℤ ρ (r e))

      off : (e : ℕ) → e < n → taken all s t e ≡ false → ψ e ≡ pos 0
      off e m h = rw (height_taken off_tree l r φ n e m (cover euler e m h)) (+ℤ_invr (φ e))

      still : Closed n s t ψ
      still S =
          sum_ext Integers n (λ e. carried (S (s e)) (S (t e)) (ψ e))
          (λ e. carried (S (s e)) (S (t e)) (φ e) +ℤ neg_ℤ (carried (S (s e)) (S (t e)) (ρ (l e) -ℤ ρ (r e))))
          (λ e m. carried_sub (S (s e)) (S (t e)) (φ e) (ρ (l e) -ℤ ρ (r e)))
          ∙ sum_add Integers n (λ e. carried (S (s e)) (S (t e)) (φ e)) (λ e. neg_ℤ (carried (S (s e)) (S (t e)) (ρ (l e) -ℤ ρ (r e))))
          ∙ ap₂ ◌+ℤ◌ (shut S) (sum_neg n (λ e. carried (S (s e)) (S (t e)) (ρ (l e) -ℤ ρ (r e))) ∙ ap neg_ℤ (𝓖.closed ρ S))
