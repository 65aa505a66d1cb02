-- A line has at most four bytes, so those of all nodes have room.
use native.Mathlib.Omega.{arith}
use Rattle.texts.specs.Lines.{lines}
use Rattle.texts.proofs.Joined.{placed_none, lines_more, lines_length}
use Rattle.key_text.specs.Text.{node_line}
use Rattle.key_text.proofs.Length.{node_line_length}
use Rattle.key_text.proofs.put_nodes.Goals as goal

pub loop-v-init : goal.loop-v-init
unfolding lines
loop-v-init c = placed_none _ _

pub put_node-end-requires : goal.put_node-end-requires
put_node-end-requires c =
    let set = c.args.set.now in
    let before = lines_length 4 c.loop-v.v (node_line set) (λ i h. node_line_length set i (omega arith)) in
    (omega arith, omega arith)

pub loop-v-preserved : goal.loop-v-preserved
loop-v-preserved c =
    let set = c.args.set.now in
    let v = c.loop-v.v in
    let before = lines_length 4 v (node_line set) (λ i h. node_line_length set i (omega arith)) in
    let here = node_line_length set v (omega arith) in
    lines_more _ _ _ v (node_line set) _ _ _ c.loop-v.invariant c.put_node-end.ensures (omega arith)
