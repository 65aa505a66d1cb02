-- Either the walk found the map sound, and its trees are the parts; or the checks are made in turn.
use Rattle.traversal.proofs.Forests.{tree_of, trees_components}
use Rattle.traversal.proofs.Rooting.{trees_few}
use Rattle.rotations.proofs.Walking.{walked_if}
use Rattle.rotations.proofs.check_map.Goals as goal

pub check_flat-requires : goal.check_flat-requires
check_flat-requires c =
    let p = c.requires in
    let w = c.in-Some.ensures in
    let e = w.2 in
    (p.0, p.1, w.3, p.6, p.7, e.0, trees_few e.1, (tree_of e.0 e.1, trees_components e.0 e.1))

pub returns : goal.returns
returns c =
    let walk = c.in-Some.ensures in
    let found = walk.2 in
    let flat = c.check_flat.ensures in
    (flat.0, walk.0, walk.1, flat.1, flat.2, flat.3, walked_if c.args.rotations.now _ _ found.1 found.2 c.check_flat.result _ _ _ flat.4)
