-- "a ", both ends, and the capacity.
use mathlib.Core.Path.{◌∙◌, ap}
use Prim.Native.Nat.{◌+◌}
use native.Mathlib.Omega.{arith}
use Rattle.signed.proofs.Laws.{number_of_bits}
use Rattle.texts.proofs.Joined.{placed_as, four_placed}
use Rattle.dimacs.specs.Text.{natural}
use Rattle.dimacs.proofs.Length.{long, arc_length}
use Rattle.dimacs.proofs.Joined.{ended, ended_length, arc_joined}
use Rattle.dimacs.proofs.put_arc.Goals as goal

pub put_bytes-first-requires : goal.put_bytes-first-requires
put_bytes-first-requires c = let line = arc_length c.args.tail c.args.head c.args.capacity in omega arith

pub put_field-second-requires : goal.put_field-second-requires
put_field-second-requires c =
    let line = arc_length c.args.tail c.args.head c.args.capacity in
    let tail = ap long c.node_number.ensures in
    omega arith

pub put_field-third-requires : goal.put_field-third-requires
put_field-third-requires c =
    let line = arc_length c.args.tail c.args.head c.args.capacity in
    let tail = ap long c.node_number.ensures in
    let head = ap long c.node_number-2.ensures in
    omega (arith, ended_length c.node_number.result 32)

pub put_field-requires : goal.put_field-requires
put_field-requires c =
    let line = arc_length c.args.tail c.args.head c.args.capacity in
    let tail = ap long c.node_number.ensures in
    let head = ap long c.node_number-2.ensures in
    let capacity = ap long (c.capacity_number.ensures ∙ ap natural (number_of_bits _ c.ranges.capacity)) in
    omega (arith, ended_length c.node_number.result 32, ended_length c.node_number-2.result 32)

pub returns : goal.returns
returns c =
    let a = c.args in
    let line = arc_length a.tail a.head a.capacity in
    let capacity = c.capacity_number.ensures ∙ ap natural (number_of_bits _ c.ranges.capacity) in
    placed_as (λ r. r) _ _ _ _ (arc_joined a.tail a.head a.capacity)
    (four_placed _ _ _ _ _ _ _ _ _ _ _ _ _ _ c.put_bytes-first.ensures
    (placed_as (λ k. ended k 32) _ _ _ _ c.node_number.ensures c.put_field-second.ensures)
    (placed_as (λ k. ended k 32) _ _ _ _ c.node_number-2.ensures c.put_field-third.ensures)
    (placed_as (λ k. ended k 10) _ _ _ _ capacity c.put_field.ensures)
    (omega (arith, ended_length (a.tail + 1) 32, ended_length (a.head + 1) 32, ended_length (natural a.capacity) 10)))
