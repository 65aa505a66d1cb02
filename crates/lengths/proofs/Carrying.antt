-- A value taken over one edge: two stores, one for each of its darts.
use mathlib.Core.Path.{◌≡◌, refl, sym, ◌∙◌, ap}
use mathlib.Core.Logic.{◌≢◌}
use mathlib.Core.List.{List}
use Prim.Native.Nat.{ℕ, ◌<◌}
use native.Mathlib.Omega.{arith}
use native.Mathlib.Decide.{ℕ_discrete}
use lib.Dec.{eqb}
use lib.IntN.{ℤ, pos, ◌+ℤ◌, ◌-ℤ◌, ◌*ℤ◌}
use lib.ListN.{length, set, length-set}
use lib.Seq.{get_or-set_same, get_or-set_other}
use Rattle.integers.specs.Sum.{when}
use Rattle.integers.proofs.Omega.{atoms₂, parts, equal}
use Rattle.integers.proofs.Tests.{eqb_true, eqb_false}
use Rattle.arrays.specs.At.{atℤ}
use Rattle.lengths.proofs.Limits.{less_nothing}

pub carried : (l : List ℤ) (p x : ℕ) (value a b : ℤ) → length l ≡ 1024 → p < 1024 → x < 1024 → x ≢ p → a ≡ atℤ l p -ℤ value → b ≡ atℤ l x +ℤ value
    → (length (set (set l p a) x b) ≡ 1024)
    × ((d : ℕ) → atℤ (set (set l p a) x b) d ≡ atℤ l d -ℤ value *ℤ (when (eqb d p) (pos 1) -ℤ when (eqb d x) (pos 1)))
carried l p x value a b long p_in x-in apart is-a is_b = (long₂, λ d. go d (ℕ_discrete d x) (ℕ_discrete d p))
  where
    long₁ : length (set l p a) ≡ 1024
    long₁ = length-set l p a ∙ long

    long₂ : length (set (set l p a) x b) ≡ 1024
    long₂ = length-set (set l p a) x b ∙ long₁

    longer : (c : ℤ) → c +ℤ value ≡ c -ℤ value *ℤ (pos 0 -ℤ pos 1)
    longer c = let t = atoms₂ c value in equal (search parts) (omega arith)

    shorter : (c : ℤ) → c -ℤ value ≡ c -ℤ value *ℤ (pos 1 -ℤ pos 0)
    shorter c = let t = atoms₂ c value in equal (search parts) (omega arith)

    go : (d : ℕ) → Dec (d ≡ x) → Dec (d ≡ p) → atℤ (set (set l p a) x b) d ≡ atℤ l d -ℤ value *ℤ (when (eqb d p) (pos 1) -ℤ when (eqb d x) (pos 1))
    go d (yes e) q =
        ap (atℤ (set (set l p a) x b)) e
        ∙ get_or-set_same (set l p a) x b (pos 0) (omega (arith, long₁))
        ∙ is_b
        ∙ ap (λ y. atℤ l y +ℤ value) (sym e)
        ∙ longer (atℤ l d)
        ∙ (rw (eqb_false d p (λ r. apart (sym e ∙ r)), eqb_true d x e) refl)
    go d (no e) (yes q) =
        get_or-set_other (set l p a) x d b (pos 0) e
        ∙ ap (atℤ (set l p a)) q
        ∙ get_or-set_same l p a (pos 0) (omega (arith, long))
        ∙ is-a
        ∙ ap (λ y. atℤ l y -ℤ value) (sym q)
        ∙ shorter (atℤ l d)
        ∙ (rw (eqb_true d p q, eqb_false d x e) refl)
    go d (no e) (no q) =
        get_or-set_other (set l p a) x d b (pos 0) e
        ∙ get_or-set_other l p d a (pos 0) q
        ∙ sym (less_nothing (atℤ l d) value)
        ∙ (rw (eqb_false d p q, eqb_false d x e) refl)
