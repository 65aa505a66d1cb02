-- The sums are the net flows of the map, whatever its rotations, and no node is numbered `nodes`.
use mathlib.Core.Path.{◌∙◌, refl}
use lib.IntN.{pos}
use native.Mathlib.Omega.{arith}
use Rattle.maps.specs.Map.{Map}
use Rattle.arrays.specs.At.{at, atℤ}
use Rattle.arrays.proofs.FillLoops.{same_everywhere}
use Rattle.balance.proofs.Nets.{up_to_all}
use Rattle.balance.proofs.Balance.{judged_all}
use Rattle.balance.proofs.check_all_balanced.Goals as goal

pub fill_nets-requires : goal.fill_nets-requires
fill_nets-requires c = (c.requires.1, c.requires.2, refl, c.requires.3, c.requires.4, same_everywhere 1024 (pos 0))

pub returns : goal.returns
returns c rotation =
    let a = c.args in
    let filled = c.fill_nets in
    let 𝓜 : Map = record { nodes = a.nodes; edges = a.edges; tail = at a.tails.now; rotation = rotation } in
    judged_all 𝓜 (atℤ a.flows.now) (atℤ filled.new.nets)
    (λ v l. filled.ensures.1 v (omega (arith, l, c.requires.0)) ∙ up_to_all 𝓜 (atℤ a.flows.now) v)
    a.nodes a.nodes c.check_balance.result (omega arith) (omega arith) c.check_balance.ensures
