-- Four numbers of at most ten digits, the arcs, and eighteen bytes more.
use mathlib.Core.Path.{refl}
use native.Mathlib.Omega.{arith}
use Rattle.arrays.specs.At.{atℤ}
use Rattle.arrays.specs.Maps.{map_of}
use Rattle.dimacs.proofs.Length as measure
use Rattle.dimacs.proofs.Length.{counted}
use Rattle.dimacs.proofs.text_length.Goals as goal

pub overflow_add-counts : goal.overflow_add-counts
overflow_add-counts c =
    let nodes = counted c.digit_count.ensures refl (omega arith) in
    let arcs = counted c.digit_count-2.ensures refl (omega arith) in
    record { fits = omega arith }

pub overflow_add-counts-2 : goal.overflow_add-counts-2
overflow_add-counts-2 c =
    let nodes = counted c.digit_count.ensures refl (omega arith) in
    let arcs = counted c.digit_count-2.ensures refl (omega arith) in
    record { fits = omega arith }

pub overflow_add-ends : goal.overflow_add-ends
overflow_add-ends c =
    let source = counted c.digit_count-3.ensures c.node_number.ensures (omega arith) in
    let sink = counted c.digit_count-4.ensures c.node_number-2.ensures (omega arith) in
    record { fits = omega arith }

pub overflow_add-ends-2 : goal.overflow_add-ends-2
overflow_add-ends-2 c =
    let source = counted c.digit_count-3.ensures c.node_number.ensures (omega arith) in
    let sink = counted c.digit_count-4.ensures c.node_number-2.ensures (omega arith) in
    record { fits = omega arith }

pub overflow_add-result : goal.overflow_add-result
overflow_add-result c =
    let nodes = counted c.digit_count.ensures refl (omega arith) in
    let arcs = counted c.digit_count-2.ensures refl (omega arith) in
    let source = counted c.digit_count-3.ensures c.node_number.ensures (omega arith) in
    let sink = counted c.digit_count-4.ensures c.node_number-2.ensures (omega arith) in
    record { fits = omega arith }

pub overflow_add-result-2 : goal.overflow_add-result-2
overflow_add-result-2 c =
    let nodes = counted c.digit_count.ensures refl (omega arith) in
    let arcs = counted c.digit_count-2.ensures refl (omega arith) in
    let source = counted c.digit_count-3.ensures c.node_number.ensures (omega arith) in
    let sink = counted c.digit_count-4.ensures c.node_number-2.ensures (omega arith) in
    record { fits = omega arith }

pub returns : goal.returns
returns c =
    let a = c.args in
    let source = counted c.digit_count-3.ensures c.node_number.ensures (omega arith) in
    let sink = counted c.digit_count-4.ensures c.node_number-2.ensures (omega arith) in
    omega (arith, measure.text_length (map_of a.nodes a.edges a.tails.now a.rotations.now) (atℤ a.capacities.now) a.source a.sink)
