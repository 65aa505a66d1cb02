-- The sheet checks: the head, the edges, then the map that the arrays hold; each way out is the answer of the whole list.
use mathlib.Core.Path.{sym, subst}
use native.Mathlib.Omega.{arith}
use Rattle.std.proofs.lemmas.Result.{err_from_is_err_and}
use Rattle.std.specs.Prelude.{Ok}
use Rattle.refusals.proofs.Order.{none_append, first_left, first_right}
use Rattle.maps.specs.Check.{InRange}
use Rattle.arrays.specs.At.{at}
use Rattle.rotations.specs.MapChecks.{MapJudged}
use Rattle.records.proofs.Bytes.{bytes_range, bytes_outer, refused_head}
use Rattle.sheets.specs.Open.{sheet_checks}
use Rattle.sheets.proofs.Opening.{maps_are, bytes_room}
use Rattle.sheets.proofs.read_sheet.Goals as goal

-- ── the head ──
pub returns-in_err-head : goal.returns-in_err-head
unfolding sheet_checks
returns-in_err-head c =
    let r = c.requires in
    let p = err_from_is_err_and c.from_residual.result c.from_residual.ensures.1 in (
      r.0,
      r.2,
      r.4,
      r.6,
      r.8,
      r.9,
      r.10,
      r.11,
      rw (p.1, p.2) (first_left _ _ _ _ (refused_head _ _ _ c.in_err-head.ensures)),
      rw p.1 tt,
    )

-- ── the records of the edges ──
pub returns-in_err-read_edges : goal.returns-in_err-read_edges
unfolding sheet_checks
returns-in_err-read_edges c =
    let r = c.requires in
    let e = c.in_err-read_edges.ensures in
    let p = err_from_is_err_and c.from_residual-in_err-read_edges.result c.from_residual-in_err-read_edges.ensures.1 in (
      e.0,
      e.1,
      e.2,
      r.6,
      r.8,
      r.9,
      r.10,
      r.11,
      rw (p.1, p.2) (first_left _ _ _ _ e.3),
      rw p.1 tt,
    )

-- ── the map ──
pub check_map-requires : goal.check_map-requires
check_map-requires c =
    let r = c.requires in
    let s = c.args.s.now in
    let h = c.in_ok-head.ensures.1 in
    let e = c.in_ok-read_edges.ensures.3 in
    let room = bytes_room s e.0 in (
      omega (arith, h.edges_are, room.4),
      omega (arith, h.nodes_are, room.2),
      omega (arith, h.edges_are, h.outer_is, bytes_outer s e.0),
      r.6,
      r.8,
      r.9,
      r.10,
      r.11,
      subst InRange (sym (maps_are s _ _ _ _ h.nodes_are h.edges_are e.1.tails_are e.1.rotations_are)) (bytes_range s e.0),
      r.7,
    )

pub returns-in_err-counted : goal.returns-in_err-counted
unfolding sheet_checks
returns-in_err-counted c =
    let h = c.in_ok-head.ensures.1 in
    let e = c.in_ok-read_edges.ensures in
    let m = c.in_err-counted.ensures in
    let p = err_from_is_err_and c.from_residual-in_err-counted.result c.from_residual-in_err-counted.ensures.1 in
    let is = maps_are c.args.s.now _ _ _ _ h.nodes_are h.edges_are e.3.1.tails_are e.3.1.rotations_are in (
      e.0,
      e.1,
      e.2,
      m.0,
      m.1,
      m.2,
      m.3,
      m.4,
      rw (p.1, p.2) (first_right _ _ _ _ e.3.0 (rw is at m.5)),
      rw p.1 tt,
    )

pub returns : goal.returns
unfolding sheet_checks
returns c =
    let h = c.in_ok-head.ensures.1 in
    let e = c.in_ok-read_edges.ensures in
    let m = c.in_ok-counted.ensures in
    let is = maps_are c.args.s.now _ _ _ _ h.nodes_are h.edges_are e.3.1.tails_are e.3.1.rotations_are in
    let judged = subst (λ 𝓜. MapJudged 𝓜 (at c.check_map.new.lefts) (Ok c.in_ok-counted.counted)) is m.5 in (
      e.0,
      e.1,
      e.2,
      m.0,
      m.1,
      m.2,
      m.3,
      m.4,
      (
        none_append _ _ e.3.0 judged.0,
        record {
          nodes_are = h.nodes_are;
          edges_are = h.edges_are;
          faces_are = judged.2;
          outer_is = h.outer_is;
          tails_are = e.3.1.tails_are;
          rotations_are = e.3.1.rotations_are;
          capacities_are = e.3.1.capacities_are;
          lefts_are = judged.1;
        },
      ),
      m.6,
    )
