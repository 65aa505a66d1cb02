-- Worked examples: the least i32 is refused, an edge from a node to itself cancels, and the lowest node off balance is named past the excused ones.
use mathlib.Core.Path.{◌≡◌, refl, sym}
use mathlib.Core.Logic.{inl, inr}
use mathlib.Core.List.{[], ◌∷◌}
use native.Mathlib.Omega.{arith}
use lib.IntN.{pos, negsuc, pos-ne-negsuc}
use lib.Signed.{lt_z_yes}
use Rattle.integers.specs.Sum.{sum}
use Rattle.refusals.specs.Order.{FirstOf, in_turn, Judged}
use Rattle.refusals.specs.Refused.{refused}
use Rattle.refusals.proofs.Order.{neither}
use Rattle.flows.specs.Settings.{on_darts}
use Rattle.flows.specs.Check.{within_checks}
use Rattle.arrays.specs.At.{at, atℤ}
use Rattle.balance.specs.inner.NetUpTo.{net_up_to}
use Rattle.balance.specs.inner.Check.{off_checks}

-- a flow of -2^31 on an edge of capacities 1,000,000
least_refused : Judged (within_checks 1 (atℤ (pos 1000000 ∷ pos 1000000 ∷ [])) (atℤ (negsuc 2147483647 ∷ []))) (refused 17 0)
unfolding within_checks in_turn FirstOf
least_refused = inl (inr (lt_z_yes tt), refl, refl)

-- edge 0 from node 0 to node 1 with 7, edge 1 from node 1 to itself with 5: node 1 takes in 7
loop-cancels : net_up_to (at (0 ∷ 1 ∷ 1 ∷ 1 ∷ [])) (atℤ (pos 7 ∷ pos 5 ∷ [])) 4 1 ≡ negsuc 6
unfolding net_up_to sum on_darts
loop-cancels = refl

-- nodes 0 and 2 are excused, nodes 1 and 3 are off balance: node 1 is named
lowest_named : Judged (off_checks 4 2 0 (atℤ (pos 7 ∷ negsuc 0 ∷ pos 1 ∷ pos 2 ∷ []))) (refused 18 1)
unfolding off_checks in_turn FirstOf
lowest_named = inr ((λ p. p.0 (inr refl)), inl ((neither (λ e. omega arith) (λ e. omega arith), (λ e. pos-ne-negsuc 0 0 (sym e))), refl, refl))
