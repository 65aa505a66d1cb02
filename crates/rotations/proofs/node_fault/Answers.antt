-- The rounds of the rotation are numbered, and each node is entered with the number of its darts: two numbers, or none, are a fault.
use mathlib.Core.Path.{◌∙◌, ap}
use native.Mathlib.Omega.{arith}
use Rattle.maps.proofs.Checks.{rotation_permutes}
use Rattle.arrays.specs.At.{at}
use Rattle.arrays.proofs.FillLoops.{same_everywhere}
use Rattle.rotations.proofs.Numbering.{number_small}
use Rattle.rotations.proofs.Register.{two_rounds, no_dart, nodes_good}
use Rattle.refusals.proofs.Decisions.{decides_by}
use Rattle.rotations.proofs.node_fault.Goals as goal

pub enter_all-requires : goal.enter_all-requires
enter_all-requires c =
    let p = c.requires in
    let e = c.fill.ensures.after (λ y h. h) in (
      omega (arith, p.0),
      omega (arith, c.fill.ensures.len),
      (λ k. ap (λ l. at l k) e ∙ same_everywhere _ 0 k),
      (λ d l. omega (arith, p.1, p.2.tail_in d l)),
      (λ d l. omega (arith, c.number_orbits.ensures.2 d l, number_small (omega (arith, p.0)) (rotation_permutes p.2 p.3) d l)),
    )

pub returns-then-enter_all : goal.returns-then-enter_all
returns-then-enter_all c =
    let p = c.requires in
    let e = c.enter_all.ensures in
    (two_rounds p.2 (rotation_permutes p.2 p.3) c.number_orbits.ensures.2 (rw c.if-enter_all.true at e.1), c.number_orbits.ensures.0, e.0)

pub returns : goal.returns
returns c =
    let p = c.requires in
    let n = c.number_orbits.ensures in
    let e = c.enter_all.ensures in
    let π = rotation_permutes p.2 p.3 in
    let ρ = rw c.if-enter_all.false at e.1 in
    (decides_by c.some_empty.result (no_dart p.2 π n.2 ρ) (nodes_good p.2 π n.2 ρ) c.some_empty.ensures, n.0, e.0)
