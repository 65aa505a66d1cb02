-- The mark of a face without a level, as the machine compares it.
use mathlib.Core.Path.{◌≡◌, sym, ◌∙◌, ap}
use mathlib.Core.Bool.{true, false}
use native.Mathlib.Omega.{arith}
use lib.Dec.{eqb}
use lib.IntN.{ℤ}
use mir.Syntax.{w64}
use mir.Val.{to_z, of_z, SFits}
use mir.ValLaws.{to_z-of_z, to_z_pos}
use Rattle.integers.proofs.Tests.{eqb_eq, eqb_ne}
use Rattle.search.specs.Level.{far}

pub same_far : (x : ℤ) → SFits w64 x → eqb (of_z w64 x) 2000000000000000 ≡ true → x ≡ far
same_far x f e = sym (to_z-of_z w64 x f) ∙ ap (to_z w64) (eqb_eq (of_z w64 x) 2000000000000000 e) ∙ to_z_pos w64 2000000000000000 (omega arith)

pub apart_far : (x : ℤ) → eqb (of_z w64 x) 2000000000000000 ≡ false → x ≡ far → ⊥
apart_far x e q = eqb_ne (of_z w64 x) 2000000000000000 e (ap (of_z w64) q)
