-- "cannot", the value and the size, five pieces one behind another: the word, the value, a blank, the size, a line feed. The last three are joined first.
use mathlib.Core.Path.{ap}
use mathlib.Core.List.{[], ◌∷◌}
use native.Mathlib.Omega.{arith}
use lib.ListN.{length, length-append}
use Rattle.signed.proofs.Laws.{number_of_bits}
use Rattle.texts.specs.Decimal.{decimal, number}
use Rattle.texts.proofs.Length.{decimal_length, number_length}
use Rattle.texts.proofs.Joined.{three_placed, placed_as}
use Rattle.key_text.specs.Text.{cannot_line}
use Rattle.key_text.proofs.put_cannot_line.Goals as goal

pub put_number-second-requires : goal.put_number-second-requires
put_number-second-requires c =
    let digits = number_length 8 600000000 c.args.value (omega arith) c.requires.1 in
    omega (arith, ap (λ x. length (number x)) (number_of_bits _ c.ranges.value))

pub put_bytes-third-requires : goal.put_bytes-third-requires
put_bytes-third-requires c =
    let digits = number_length 8 600000000 c.args.value (omega arith) c.requires.1 in
    omega (arith, ap (λ x. length (number x)) (number_of_bits _ c.ranges.value))

pub put_decimal-end-requires : goal.put_decimal-end-requires
put_decimal-end-requires c =
    let digits = number_length 8 600000000 c.args.value (omega arith) c.requires.1 in
    let five = decimal_length 4 c.from.result (omega arith) in
    omega (arith, ap (λ x. length (number x)) (number_of_bits _ c.ranges.value))

pub put_bytes-requires : goal.put_bytes-requires
put_bytes-requires c =
    let digits = number_length 8 600000000 c.args.value (omega arith) c.requires.1 in
    let five = decimal_length 4 c.from.result (omega arith) in
    omega (arith, ap (λ x. length (number x)) (number_of_bits _ c.ranges.value))

pub returns : goal.returns
unfolding cannot_line
returns c =
    let digits = number_length 8 600000000 c.args.value (omega arith) c.requires.1 in
    let five = decimal_length 4 c.args.size (omega arith) in
    let same = ap (λ x. length (number x)) (number_of_bits _ c.ranges.value) in
    let size = placed_as decimal _ _ _ _ c.from.ensures c.put_decimal-end.ensures in
    let rest = three_placed _ _ _ _ _ _ _ _ _ _ _ c.put_bytes-third.ensures size c.put_bytes.ensures (omega arith) in
    let more = length-append (decimal c.args.size) (10 ∷ []) in
    three_placed _ _ _ _ _ _ _ _ _ _ _ c.put_bytes-first.ensures (placed_as number _ _ _ _ (number_of_bits _ c.ranges.value) c.put_number-second.ensures) rest
    (omega arith)
