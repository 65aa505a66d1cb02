-- Each way out of the checks has its verdict. Where 9 and 10 do not hold the map is sound, and the trees of a walk are its parts.
use Rattle.refusals.proofs.Order.{said_yes, said_no}
use Rattle.maps.proofs.Checks.{sound_of_checks}
use Rattle.arrays.specs.Maps.{map_of}
use Rattle.traversal.proofs.Forests.{tree_of, trees_components}
use Rattle.traversal.proofs.Rooting.{trees_few}
use Rattle.rotations.proofs.Order.{refused_9, refused_10}
use Rattle.rotations.proofs.check_in_turn.Goals as goal

pub returns-then-rotation_fault : goal.returns-then-rotation_fault
returns-then-rotation_fault c =
    let a = c.args in
    let p = c.requires in
    let 𝓜 = map_of a.nodes a.edges a.tails.now a.rotations.now in
    rw c.refused.ensures (p.3, p.4, p.5, p.6, p.7, refused_9 𝓜 (said_yes c.rotation_fault.ensures c.if-rotation_fault.true), tt)

pub returns-then-node_fault : goal.returns-then-node_fault
returns-then-node_fault c =
    let a = c.args in
    let p = c.requires in
    let n = c.node_fault.ensures in
    let 𝓜 = map_of a.nodes a.edges a.tails.now a.rotations.now in
    let ten = refused_10 𝓜 (said_no c.rotation_fault.ensures c.if-rotation_fault.false) (said_yes n.0 c.if-node_fault.true) in
    rw c.refused-then-node_fault.ensures (p.3, p.4, p.5, n.1, n.2, ten, tt)

-- 9 and 10 were passed
pub check_flat-requires : goal.check_flat-requires
check_flat-requires c =
    let p = c.requires in
    let n = c.node_fault.ensures in
    let σ =
    sound_of_checks p.8 (said_no c.rotation_fault.ensures c.if-rotation_fault.false) (said_no n.0 c.if-node_fault.false) in
    let 𝓕 = c.spread_all-parts.ensures.2 in
    (p.0, p.1, p.3, n.1, n.2, σ, trees_few 𝓕, (tree_of σ 𝓕, trees_components σ 𝓕))

pub returns : goal.returns
returns c =
    let p = c.requires in
    let n = c.node_fault.ensures in
    absurd (p.9 (sound_of_checks p.8 (said_no c.rotation_fault.ensures c.if-rotation_fault.false) (said_no n.0 c.if-node_fault.false)))
