-- Three numbers of at most ten digits, and five bytes more.
use mathlib.Core.Path.{◌∙◌, ap}
use native.Mathlib.Omega.{arith}
use Rattle.signed.proofs.Laws.{number_of_bits}
use Rattle.dimacs.specs.Text.{natural}
use Rattle.dimacs.proofs.Length.{counted, arc_length}
use Rattle.dimacs.proofs.arc_length.Goals as goal

pub overflow_add-ends : goal.overflow_add-ends
overflow_add-ends c =
    let tail = counted c.digit_count.ensures c.node_number.ensures (omega arith) in
    let head = counted c.digit_count-2.ensures c.node_number-2.ensures (omega arith) in
    record { fits = omega arith }

pub overflow_add-result : goal.overflow_add-result
overflow_add-result c =
    let tail = counted c.digit_count.ensures c.node_number.ensures (omega arith) in
    let head = counted c.digit_count-2.ensures c.node_number-2.ensures (omega arith) in
    let capacity = counted c.digit_count-3.ensures c.capacity_number.ensures (omega arith) in
    record { fits = omega arith }

pub overflow_add-result-2 : goal.overflow_add-result-2
overflow_add-result-2 c =
    let tail = counted c.digit_count.ensures c.node_number.ensures (omega arith) in
    let head = counted c.digit_count-2.ensures c.node_number-2.ensures (omega arith) in
    let capacity = counted c.digit_count-3.ensures c.capacity_number.ensures (omega arith) in
    record { fits = omega arith }

pub returns : goal.returns
returns c =
    let tail = counted c.digit_count.ensures c.node_number.ensures (omega arith) in
    let head = counted c.digit_count-2.ensures c.node_number-2.ensures (omega arith) in
    let capacity =
    counted c.digit_count-3.ensures (c.capacity_number.ensures ∙ ap natural (number_of_bits _ c.ranges.capacity)) (omega arith) in
    let line = arc_length c.args.tail c.args.head c.args.capacity in
    (omega arith, omega arith)
