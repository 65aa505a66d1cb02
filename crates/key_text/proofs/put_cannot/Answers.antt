-- The key of an answer "cannot": the first line and the lines of the nodes, one behind another.
use mathlib.Core.Path.{sym, subst}
use native.Mathlib.Omega.{arith}
use Rattle.integers.specs.inner.Limited.{Limited}
use Rattle.signed.proofs.Laws.{number_of_bits}
use Rattle.texts.proofs.Joined.{placed_then, lines_length, placed_as}
use Rattle.key_text.specs.Text.{node_line, cannot_line, cannot_text}
use Rattle.key_text.proofs.Length.{cannot_line_length, node_line_length}
use Rattle.key_text.proofs.put_cannot.Goals as goal

pub put_cannot_line-at-requires : goal.put_cannot_line-at-requires
put_cannot_line-at-requires c = (omega arith, subst (Limited 600000000) (sym (number_of_bits _ c.ranges.value)) c.requires.1)

pub put_nodes-requires : goal.put_nodes-requires
put_nodes-requires c =
    let first = placed_as (λ x. cannot_line x c.args.size) _ _ _ _ (number_of_bits _ c.ranges.value) c.put_cannot_line-at.ensures in
    let short = cannot_line_length c.args.value c.args.size c.ranges.size.fits c.requires.1 in
    (omega (arith, first.1), c.requires.2)

pub returns : goal.returns
unfolding cannot_text
returns c =
    let set = c.args.set.now in
    let all = lines_length 4 c.args.nodes (node_line set) (λ i h. node_line_length set i (omega arith)) in
    let first = placed_as (λ x. cannot_line x c.args.size) _ _ _ _ (number_of_bits _ c.ranges.value) c.put_cannot_line-at.ensures in
    let short = cannot_line_length c.args.value c.args.size c.ranges.size.fits c.requires.1 in
    placed_then _ _ _ _ _ _ _ _ first c.put_nodes.ensures (omega arith)
