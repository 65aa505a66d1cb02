-- Read: the sheet is accepted, then there is room for two elements to an edge in each slice, then the fields of the network record are copied to them.
use mathlib.Core.Path.{◌∙◌, ap}
use Prim.Native.Nat.{◌*◌}
use native.Mathlib.Omega.{arith}
use lib.IntN.{pos}
use Rattle.sheets.proofs.Accepted.{sheet_counts}
use Rattle.sheets.proofs.Opening.{opens_passed}
use Rattle.sheets.proofs.Reading.{read_whole, part_short, part_copied}
use Rattle.sheets.proofs.read.Goals as goal

-- ── the slices are filled, one after another: the part that is lent has room for every dart and no more ──
pub copy_front-requires : goal.copy_front-requires
copy_front-requires c =
    let o = opens_passed c.args.sheet.now c.open_walked-net.result c.in_ok-sizes.was c.open_walked-net.ensures.4 in
    (omega arith, omega (arith, part_short (2 * c.in_ok-sizes.sizes.edges) c.args.tails.now, o.1.edges_are, sheet_counts _ o.0))

pub copy_front-requires-2 : goal.copy_front-requires-2
copy_front-requires-2 c =
    let o = opens_passed c.args.sheet.now c.open_walked-net.result c.in_ok-sizes.was c.open_walked-net.ensures.4 in
    (omega arith, omega (arith, part_short (2 * c.in_ok-sizes.sizes.edges) c.args.rotations.now, o.1.edges_are, sheet_counts _ o.0))

pub copy_front-requires-3 : goal.copy_front-requires-3
copy_front-requires-3 c =
    let o = opens_passed c.args.sheet.now c.open_walked-net.result c.in_ok-sizes.was c.open_walked-net.ensures.4 in
    (omega arith, omega (arith, part_short (2 * c.in_ok-sizes.sizes.edges) c.args.capacities.now, o.1.edges_are, sheet_counts _ o.0))

pub returns : goal.returns
returns c =
    let o = opens_passed c.args.sheet.now c.open_walked-net.result c.in_ok-sizes.was c.open_walked-net.ensures.4 in
    let e = o.1.edges_are in
    let all = ap (λ n. 2 * n) e in (
      read_whole c.args.sheet.now _ _ _ o.0 (omega (arith, e)) (omega (arith, e)) (omega (arith, e)),
      c.narrow.ensures ∙ o.1.nodes_are,
      c.narrow-2.ensures ∙ e,
      c.narrow-3.ensures ∙ o.1.outer_is,
      part_copied _ _ _ _ _ _ (omega arith) all o.1.tails_are (c.copy_front.ensures 0),
      part_copied _ _ _ _ _ _ (omega arith) all o.1.rotations_are (c.copy_front-2.ensures 0),
      part_copied _ _ _ _ _ _ (omega arith) all o.1.capacities_are (c.copy_front-3.ensures (pos 0)),
    )
