-- Worked examples: a map that passes, one that is refused by the last check, and one that two checks refuse, where the first is named.
use mathlib.Core.Path.{refl}
use mathlib.Core.Logic.{inl, inr}
use native.Mathlib.Omega.{arith}
use Rattle.integers.proofs.Tests.{every, every_below}
use Rattle.refusals.specs.Order.{FirstOf, Judged}
use Rattle.std.specs.Prelude.{ℕ, Ok}
use Rattle.refusals.specs.Refused.{refused}
use Rattle.maps.specs.Map.{Map}
use Rattle.maps.specs.Face.{faces, left}
use Rattle.maps.specs.Check.{NodeFault}
use Rattle.maps.proofs.Examples.{A, a_sound, a_flat, twisted_a, twisted_sound, twisted_not_flat}
use Rattle.rotations.specs.MapChecks.{map_checks, MapJudged}
use Rattle.rotations.proofs.Accepted.{no_rotation_fault, no_node_fault, passes}

-- drawing A
a_passes : (parts : ℕ) → MapJudged A (left A) (Ok (record { faces = faces A; parts = parts }))
a_passes parts = (passes a_sound a_flat, (λ d l. refl), refl)

-- "A with turns 1→3→5→1 at node 1": one face only
twisted_refused : Judged (map_checks twisted_a) (refused 12 0)
unfolding FirstOf map_checks
twisted_refused =
    inr (
      no_rotation_fault twisted_sound,
      inr (no_node_fault twisted_sound, inl (twisted_not_flat, refl, refl)),
    )

-- A with a node 2 that no dart leaves: a part without channels, refused 10
abbrev with_bare_node : Map
with_bare_node = record { nodes = 3; edges = A.edges; tail = A.tail; rotation = A.rotation }

bare_node : NodeFault with_bare_node
unfolding every
bare_node = (2, omega arith, inl (λ d l e. omega (arith, every_below 6 A.tail (λ d. 2) refl d l)))

bare_refused : Judged (map_checks with_bare_node) (refused 10 0)
unfolding FirstOf map_checks
bare_refused = inr (no_rotation_fault a_sound, inl (bare_node, refl, refl))
