-- Worked examples: the bounds themselves are levels, 19 comes before 20, and the flow of an edge is the level left of it less the level right of it.
use mathlib.Core.Path.{◌≡◌, refl}
use mathlib.Core.Logic.{inl, inr}
use mathlib.Core.List.{[], ◌∷◌}
use native.Mathlib.Omega.{arith}
use lib.IntN.{pos, negsuc}
use lib.Signed.{lt_z_yes}
use Rattle.refusals.specs.Order.{FirstOf, Judged}
use Rattle.refusals.specs.Refused.{refused}
use Rattle.refusals.proofs.Order.{neither}
use Rattle.maps.specs.Dart.{rev}
use Rattle.arrays.specs.At.{at, atℤ}
use Rattle.levels.specs.Level.{LevelOutside, level_checks}
use Rattle.levels.specs.inner.Across.{across}

bounds_inside : (LevelOutside (negsuc 599999999) → ⊥) × (LevelOutside (pos 600000000) → ⊥)
bounds_inside = (neither (λ h. h.lt) (λ h. h.lt), neither (λ h. h.lt) (λ h. h.lt))

beyond_outside : LevelOutside (negsuc 600000000) × LevelOutside (pos 600000001)
beyond_outside = (inl (lt_z_yes tt), inr (lt_z_yes tt))

-- face 0 is not at 0, and face 1 is beyond: refused by 19
beyond_first : Judged (level_checks 2 (λ f. f ≡ 0) (atℤ (pos 1 ∷ pos 600000001 ∷ []))) (refused 19 0)
unfolding level_checks FirstOf
beyond_first = inl ((1, omega arith, inr (lt_z_yes tt)), refl, refl)

-- dart 0 of edge 0 has face 1 on its left and face 0 on its right: at 7 and at 0, the edge's flow is 7
left_less_right : across (at (1 ∷ 0 ∷ [])) (atℤ (pos 0 ∷ pos 7 ∷ [])) 0 ≡ pos 7
unfolding rev
left_less_right = refl
