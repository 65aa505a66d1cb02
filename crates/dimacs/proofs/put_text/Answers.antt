-- The problem line, both node lines and the lines of the arcs, one behind another.
use native.Mathlib.Omega.{arith}
use Rattle.arrays.specs.At.{atℤ}
use Rattle.arrays.specs.Maps.{map_of}
use Rattle.texts.proofs.Joined.{four_placed}
use Rattle.dimacs.specs.Text.{node_line, dimacs_text}
use Rattle.dimacs.proofs.Length.{text_lines}
use Rattle.dimacs.proofs.put_text.Goals as goal

pub put_problem-first-requires : goal.put_problem-first-requires
put_problem-first-requires c =
    let a = c.args in
    let lines = text_lines (map_of a.nodes a.edges a.tails.now a.rotations.now) (atℤ a.capacities.now) a.source a.sink in
    (c.requires.0, omega arith, omega arith)

pub put_node-second-requires : goal.put_node-second-requires
unfolding node_line
put_node-second-requires c =
    let a = c.args in
    let lines = text_lines (map_of a.nodes a.edges a.tails.now a.rotations.now) (atℤ a.capacities.now) a.source a.sink in
    omega arith

pub put_node-third-requires : goal.put_node-third-requires
unfolding node_line
put_node-third-requires c =
    let a = c.args in
    let lines = text_lines (map_of a.nodes a.edges a.tails.now a.rotations.now) (atℤ a.capacities.now) a.source a.sink in
    omega arith

pub put_arcs-requires : goal.put_arcs-requires
unfolding node_line
put_arcs-requires c =
    let a = c.args in
    let lines = text_lines (map_of a.nodes a.edges a.tails.now a.rotations.now) (atℤ a.capacities.now) a.source a.sink in
    (omega arith, omega arith)

pub returns : goal.returns
unfolding dimacs_text node_line
returns c =
    let a = c.args in
    let lines = text_lines (map_of a.nodes a.edges a.tails.now a.rotations.now) (atℤ a.capacities.now) a.source a.sink in
    four_placed _ _ _ _ _ _ _ _ _ _ _ _ _ _ c.put_problem-first.ensures c.put_node-second.ensures c.put_node-third.ensures c.put_arcs.ensures (omega arith)
