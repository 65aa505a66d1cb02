-- One dart crossed: two stores, one more for the dart and one less for its reverse.
use mathlib.Core.Path.{◌≡◌, refl, sym, ◌∙◌, ap, subst}
use mathlib.Core.List.{List}
use Prim.Native.Nat.{ℕ, ◌<◌}
use native.Mathlib.Omega.{arith}
use native.Mathlib.Decide.{ℕ_discrete}
use lib.IntN.{ℤ, pos, ◌+ℤ◌, ◌-ℤ◌}
use lib.ListN.{length, set, length-set}
use lib.Seq.{get_or-set_same, get_or-set_other}
use mir.Syntax.{w16}
use mir.Val.{to_z, of_z, SFits}
use Rattle.integers.specs.inner.Limited.{Limited}
use Rattle.integers.proofs.Limits.{limited_plus, limited_minus}
use Rattle.integers.proofs.Omega.{atoms₁, parts, equal, at_most}
use Rattle.integers.proofs.Tests.{eqb_true, eqb_false}
use Rattle.signed.proofs.Limits.{limited_fits16, same_bits16}
use Rattle.maps.specs.Dart.{rev}
use Rattle.maps.proofs.Darts.{rev_apart}
use Rattle.flows.specs.inner.UnitFlow.{single}
use Rattle.arrays.specs.At.{atℤ}

limited_one : Limited 1 (pos 1)
limited_one = record { low = at_most (search parts) (omega arith); high = at_most (search parts) (omega arith) }

-- one step of the machine, on a winding so far
module _ {x : ℤ} (h : Limited 1024 x) where
  pub plus_read : to_z w16 (of_z w16 x) +ℤ pos 1 ≡ x +ℤ pos 1
  plus_read = ap (λ a. a +ℤ pos 1) (same_bits16 (omega arith) h)

  pub minus_read : to_z w16 (of_z w16 x) -ℤ pos 1 ≡ x -ℤ pos 1
  minus_read = ap (λ a. a -ℤ pos 1) (same_bits16 (omega arith) h)

  pub plus_fits : SFits w16 (to_z w16 (of_z w16 x) +ℤ pos 1)
  plus_fits = subst (SFits w16) (sym plus_read) (limited_fits16 1025 (x +ℤ pos 1) (omega arith) (limited_plus h limited_one))

  pub minus_fits : SFits w16 (to_z w16 (of_z w16 x) -ℤ pos 1)
  minus_fits = subst (SFits w16) (sym minus_read) (limited_fits16 1025 (x -ℤ pos 1) (omega arith) (limited_minus h limited_one))

pub crossed_once : (l : List ℤ) (p x : ℕ) (a b : ℤ) → length l ≡ 1024 → p < 1024 → x < 1024 → x ≡ rev p → a ≡ atℤ l p +ℤ pos 1 → b ≡ atℤ l x -ℤ pos 1
    → (length (set (set l p a) x b) ≡ 1024) × ((d : ℕ) → atℤ (set (set l p a) x b) d ≡ single p d +ℤ atℤ l d)
crossed_once l p x a b long p_in x-in is_x is-a is_b = (long₂, λ d. go d (ℕ_discrete d x) (ℕ_discrete d p))
  where
    long₁ : length (set l p a) ≡ 1024
    long₁ = length-set l p a ∙ long

    long₂ : length (set (set l p a) x b) ≡ 1024
    long₂ = length-set (set l p a) x b ∙ long₁

    more : (c : ℤ) → c +ℤ pos 1 ≡ (pos 1 -ℤ pos 0) +ℤ c
    more c = let t = atoms₁ c in equal (search parts) (omega arith)

    fewer : (c : ℤ) → c -ℤ pos 1 ≡ (pos 0 -ℤ pos 1) +ℤ c
    fewer c = let t = atoms₁ c in equal (search parts) (omega arith)

    same : (c : ℤ) → c ≡ (pos 0 -ℤ pos 0) +ℤ c
    same c = let t = atoms₁ c in equal (search parts) (omega arith)

    go : (d : ℕ) → Dec (d ≡ x) → Dec (d ≡ p) → atℤ (set (set l p a) x b) d ≡ single p d +ℤ atℤ l d
    go d (yes e) q =
        ap (atℤ (set (set l p a) x b)) e
        ∙ get_or-set_same (set l p a) x b (pos 0) (omega (arith, long₁))
        ∙ is_b
        ∙ ap (λ y. atℤ l y -ℤ pos 1) (sym e)
        ∙ fewer (atℤ l d)
        ∙ (rw (eqb_false d p (λ r. rev_apart p (sym is_x ∙ sym e ∙ r)), eqb_true d (rev p) (e ∙ is_x)) refl)
    go d (no e) (yes q) =
        get_or-set_other (set l p a) x d b (pos 0) e
        ∙ ap (atℤ (set l p a)) q
        ∙ get_or-set_same l p a (pos 0) (omega (arith, long))
        ∙ is-a
        ∙ ap (λ y. atℤ l y +ℤ pos 1) (sym q)
        ∙ more (atℤ l d)
        ∙ (rw (eqb_true d p q, eqb_false d (rev p) (λ r. e (r ∙ sym is_x))) refl)
    go d (no e) (no q) =
        get_or-set_other (set l p a) x d b (pos 0) e
        ∙ get_or-set_other l p d a (pos 0) q
        ∙ same (atℤ l d)
        ∙ (rw (eqb_false d p q, eqb_false d (rev p) (λ r. e (r ∙ sym is_x))) refl)
