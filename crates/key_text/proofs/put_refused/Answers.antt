-- Three pieces one behind another: the word, the number, which has at most three digits, and a line feed.
use native.Mathlib.Omega.{arith}
use Rattle.texts.specs.Decimal.{decimal}
use Rattle.texts.proofs.Length.{decimal_length}
use Rattle.texts.proofs.Joined.{three_placed, placed_as}
use Rattle.key_text.specs.Text.{refused_text}
use Rattle.key_text.proofs.put_refused.Goals as goal

pub put_decimal-end-requires : goal.put_decimal-end-requires
put_decimal-end-requires c = let digits = decimal_length 2 c.from.result (omega arith) in omega arith

pub put_bytes-requires : goal.put_bytes-requires
put_bytes-requires c = let digits = decimal_length 2 c.from.result (omega arith) in omega arith

pub returns : goal.returns
unfolding refused_text
returns c =
    let digits = decimal_length 2 c.args.k (omega arith) in
    three_placed _ _ _ _ _ _ _ _ _ _ _ c.put_bytes-at.ensures (placed_as decimal _ _ _ _ c.from.ensures c.put_decimal-end.ensures) c.put_bytes.ensures
    (omega arith)
