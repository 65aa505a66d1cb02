-- The four pieces of an edge's line, one behind another; together they are at most 13 bytes.
use mathlib.Core.Path.{ap}
use native.Mathlib.Omega.{arith}
use lib.ListN.{length}
use Rattle.signed.proofs.Laws.{number_of_bits}
use Rattle.texts.specs.Decimal.{number}
use Rattle.texts.proofs.Length.{decimal_length, number_length}
use Rattle.texts.proofs.Joined.{four_placed, placed_as}
use Rattle.key_text.specs.Text.{edge_line}
use Rattle.key_text.proofs.put_edge.Goals as goal

pub put_decimal-first-requires : goal.put_decimal-first-requires
put_decimal-first-requires c = let digits = decimal_length 2 c.args.e (omega arith) in omega arith

pub put_bytes-second-requires : goal.put_bytes-second-requires
put_bytes-second-requires c = let digits = decimal_length 2 c.args.e (omega arith) in omega arith

pub put_number-end-requires : goal.put_number-end-requires
put_number-end-requires c =
    let digits = decimal_length 2 c.args.e (omega arith) in
    let more = number_length 6 1000000 c.args.flow (omega arith) c.requires.2 in
    omega (arith, ap (λ x. length (number x)) (number_of_bits _ c.ranges.flow))

pub put_bytes-requires : goal.put_bytes-requires
put_bytes-requires c =
    let digits = decimal_length 2 c.args.e (omega arith) in
    let more = number_length 6 1000000 c.args.flow (omega arith) c.requires.2 in
    omega (arith, ap (λ x. length (number x)) (number_of_bits _ c.ranges.flow))

pub returns : goal.returns
unfolding edge_line
returns c =
    let digits = decimal_length 2 c.args.e (omega arith) in
    let more = number_length 6 1000000 c.args.flow (omega arith) c.requires.2 in
    four_placed _ _ _ _ _ _ _ _ _ _ _ _ _ _ c.put_decimal-first.ensures c.put_bytes-second.ensures
    (placed_as number _ _ _ _ (number_of_bits _ c.ranges.flow) c.put_number-end.ensures) c.put_bytes.ensures (omega arith)
