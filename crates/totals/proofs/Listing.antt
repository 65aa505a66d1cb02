-- The values at the members of a set, listed in a slice: how many they are, one node more, and where a node's value stands.
use mathlib.Core.Path.{◌≡◌, refl, sym, ◌∙◌, ap, ap₂}
use mathlib.Core.Bool.{Bool, true, false, cond}
use mathlib.Core.List.{List, [], ◌∷◌, ◌++◌, append_assoc, append-nil}
use Prim.Native.Nat.{ℕ, zero, suc, ◌+◌, ◌≤◌, ◌<◌}
use native.Mathlib.Omega.{arith}
use native.Mathlib.Decide.{ℕ_discrete}
use native.Mathlib.Nat.{add-zero}
use native.Mathlib.Numerals.{add-one}
use lib.ListN.{length, get_or, set, drop, length-append, length-drop, get_or-append}
use lib.Seq.{get_or_at, drop-cons, set_at}
use Rattle.integers.specs.Sum.{sum, bit, count}
use Rattle.integers.proofs.Counting.{count_lt}
use Rattle.totals.specs.Subtotal.{listed}

-- ── one number more ──
pub count_in : (n : ℕ) (S : ℕ → Bool) → S n ≡ true → count (n + 1) S ≡ count n S + 1
unfolding sum
count_in n S h = ap (λ k. count k S) (add-one n) ∙ ap (λ x. count n S + bit x) h

pub count_out : (n : ℕ) (S : ℕ → Bool) → S n ≡ false → count (n + 1) S ≡ count n S
unfolding sum
count_out n S h = ap (λ k. count k S) (add-one n) ∙ ap (λ x. count n S + bit x) h ∙ omega arith

module _ {A : Type 0} where
  pub listed_in : (n : ℕ) (S : ℕ → Bool) (f : ℕ → A) → S n ≡ true → listed (n + 1) S f ≡ listed n S f ++ (f n ∷ [])
  unfolding listed
  listed_in n S f h = ap (λ k. listed k S f) (add-one n) ∙ ap (λ x. listed n S f ++ cond x (f n ∷ []) []) h

  pub listed_out : (n : ℕ) (S : ℕ → Bool) (f : ℕ → A) → S n ≡ false → listed (n + 1) S f ≡ listed n S f
  unfolding listed
  listed_out n S f h =
      ap (λ k. listed k S f) (add-one n) ∙ ap (λ x. listed n S f ++ cond x (f n ∷ []) []) h ∙ append-nil (listed n S f)

  pub length_listed : (n : ℕ) (S : ℕ → Bool) (f : ℕ → A) → length (listed n S f) ≡ count n S
  unfolding listed sum
  length_listed zero S f = refl
  length_listed (suc n) S f = length-append (listed n S f) (cond (S n) (f n ∷ []) []) ∙ ap₂ ◌+◌ (length_listed n S f) (one (S n))
    where
      one : (b : Bool) → length (cond b (f n ∷ []) []) ≡ bit b
      one true = refl
      one false = refl

  pub listed_ext : (n : ℕ) (S T : ℕ → Bool) (f g : ℕ → A) → ((v : ℕ) → v < n → S v ≡ T v) → ((v : ℕ) → v < n → f v ≡ g v) → listed n S f ≡ listed n T g
  unfolding listed
  listed_ext zero S T f g same h = refl
  listed_ext (suc n) S T f g same h =
      ap₂ ◌++◌ (listed_ext n S T f g (λ v l. same v (omega arith)) (λ v l. h v (omega arith)))
      (ap₂ (λ x y. cond x (y ∷ []) []) (same n (omega arith)) (h n (omega arith)))

  -- an empty set lists nothing
  pub listed_none : (n : ℕ) (S : ℕ → Bool) (f : ℕ → A) (old : List A) → ((v : ℕ) → v < n → S v ≡ false) → listed n S f ++ drop (count n S) old ≡ old
  unfolding listed sum
  listed_none zero S f old h = refl
  listed_none (suc n) S f old h =
      ap (λ k. listed (suc n) S f ++ drop k old) (ap (λ b. count n S + bit b) (h n (omega arith)) ∙ add-zero (count n S))
      ∙ ap (λ b. (listed n S f ++ cond b (f n ∷ []) []) ++ drop (count n S) old) (h n (omega arith))
      ∙ ap (λ xs. xs ++ drop (count n S) old) (append-nil (listed n S f))
      ∙ listed_none n S f old (λ v l. h v (omega arith))

  -- the value at v stands behind those of the members below v
  pub listed_at : (n : ℕ) (S : ℕ → Bool) (f : ℕ → A) (z : A) (v : ℕ) → v < n → S v ≡ true → get_or (listed n S f) (count v S) z ≡ f v
  unfolding listed
  listed_at zero S f z v l h = absurd (omega arith)
  listed_at (suc n) S f z v l h = go (ℕ_discrete v n) (listed_at n S f z v)
    where
      go : Dec (v ≡ n) → (v < n → S v ≡ true → get_or (listed n S f) (count v S) z ≡ f v)
          → get_or (listed n S f ++ cond (S n) (f n ∷ []) []) (count v S) z ≡ f v
      go (yes e) ih =
          ap (λ x. get_or (listed n S f ++ cond x (f n ∷ []) []) (count v S) z) (ap S (sym e) ∙ h)
          ∙ get_or_at (listed n S f) (f n) [] z (count v S) (length_listed n S f ∙ ap (λ k. count k S) (sym e))
          ∙ ap f (sym e)
      go (no e) ih =
          let m : v < n = omega (arith, e) in
          get_or-append (listed n S f) (cond (S n) (f n ∷ []) []) z (count v S) (omega (arith, length_listed n S f, count_lt v n S m h)) ∙ ih m h

  -- ── a slice with the values listed in front, and further on what was there ──
  module _ (S : ℕ → Bool) (f : ℕ → A) (old : List A) where
    abbrev pub Listed : ℕ → List A → Type 0
    Listed n now = now ≡ listed n S f ++ drop (count n S) old

    pub list_start : Listed 0 old
    unfolding listed sum
    list_start = refl

    pub list_put : (n : ℕ) (now : List A) (place : ℕ) (x : A) → Listed n now → S n ≡ true → place ≡ count n S → count n S < length old → x ≡ f n
        → Listed (n + 1) (set now place x)
    list_put n now place x e h p l q =
        ap₂ (λ y k. set y k x) (e ∙ ap (λ y. listed n S f ++ y) (drop-cons old (count n S) x l)) p
        ∙ set_at (listed n S f) (get_or old (count n S) x) (drop (suc (count n S)) old) x (count n S) (length_listed n S f)
        ∙ ap (λ y. listed n S f ++ (y ∷ drop (suc (count n S)) old)) q
        ∙ sym (append_assoc (listed n S f) (f n ∷ []) (drop (suc (count n S)) old))
        ∙ ap₂ (λ y k. y ++ drop k old) (sym (listed_in n S f h)) (sym (add-one (count n S)) ∙ sym (count_in n S h))

    pub list_pass : (n : ℕ) (now : List A) → Listed n now → S n ≡ false → Listed (n + 1) now
    list_pass n now e h = e ∙ ap₂ (λ y k. y ++ drop k old) (sym (listed_out n S f h)) (sym (count_out n S h))

    pub listed_length : (n : ℕ) (now : List A) → Listed n now → count n S ≤ length old → length now ≡ length old
    listed_length n now e l =
        ap length e ∙ length-append (listed n S f) (drop (count n S) old) ∙ ap₂ ◌+◌ (length_listed n S f) (length-drop (count n S) old) ∙ omega arith

    pub listed_front : (n : ℕ) (now : List A) → Listed n now → (z : A) (v : ℕ) → v < n → S v ≡ true → get_or now (count v S) z ≡ f v
    listed_front n now e z v l h =
        ap (λ y. get_or y (count v S) z) e
        ∙ get_or-append (listed n S f) (drop (count n S) old) z (count v S) (omega (arith, length_listed n S f, count_lt v n S l h))
        ∙ listed_at n S f z v l h
