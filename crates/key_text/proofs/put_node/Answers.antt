-- The test decides whether the node has a line: its number, which has at most three digits, and a line feed.
use mathlib.Core.Path.{sym, ◌∙◌}
use native.Mathlib.Omega.{arith}
use Rattle.texts.proofs.Length.{decimal_length}
use Rattle.texts.proofs.Joined.{placed_none, placed_then, placed_as}
use Rattle.key_text.proofs.Pieces.{in-set, not_in_set}
use Rattle.key_text.proofs.put_node.Goals as goal

pub put_decimal-end-requires : goal.put_decimal-end-requires
put_decimal-end-requires c = let digits = decimal_length 2 c.args.v (omega arith) in omega arith

pub put_bytes-requires : goal.put_bytes-requires
put_bytes-requires c = let digits = decimal_length 2 c.args.v (omega arith) in omega arith

pub returns-then-contains : goal.returns-then-contains
returns-then-contains c =
    let digits = decimal_length 2 c.args.v (omega arith) in
    placed_as (λ t. t) _ _ _ _ (in-set c.args.set.now c.args.v (sym c.contains.ensures ∙ c.if-contains.true))
    (placed_then _ _ _ _ _ _ _ _ c.put_decimal-end.ensures c.put_bytes.ensures (omega arith))

pub returns : goal.returns
returns c =
    placed_as (λ t. t) _ _ _ _ (not_in_set c.args.set.now c.args.v (sym c.contains.ensures ∙ c.if-contains.false))
    (placed_none c.args.at c.args.text.now)
