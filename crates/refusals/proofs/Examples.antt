-- Worked examples of the order: "for each channel in turn" goes edge by edge, and the lowest is the one that is named.
use Prim.Native.Nat.{ℕ}
use mathlib.Core.Path.{◌≡◌, refl}
use mathlib.Core.Logic.{inl, inr}
use mathlib.Core.List.{List, [], ◌∷◌}
use native.Mathlib.Omega.{arith}
use Rattle.refusals.specs.Order.{Check, ◌at◌when◌, ◌when◌, FirstOf, in_turn, Judged}
use Rattle.refusals.specs.Refused.{refused}

-- of three edges that all fail, edge 0 is named
lowest : Judged (in_turn 3 (λ e. (17 at e when Unit) ∷ [])) (refused 17 0)
unfolding FirstOf in_turn
lowest = inl (tt, refl, refl)

-- edge 2 fails check 5 and edge 1 fails check 6: refused 6, since edge 1 comes first
unfoldable five_then_six : ℕ → List Check
five_then_six e = (5 when e ≡ 2) ∷ (6 when e ≡ 1) ∷ []

edge_by_edge : Judged (in_turn 3 five_then_six) (refused 6 0)
unfolding FirstOf in_turn five_then_six
edge_by_edge = inr (λ h. omega arith, inr (λ h. omega arith, inr (λ h. omega arith, inl (refl, refl, refl))))
