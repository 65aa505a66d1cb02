-- A question decided: darts at its ends, lengths, search, and the ways out, which are laws of `Deciding`.
use Rattle.std.proofs.Common.{true, false, refl, arith}
use mathlib.Core.Bool.{true≢false}
use Rattle.arrays.specs.At.{at, atℤ}
use Rattle.arrays.specs.Maps.{map_of}
use Rattle.arrays.specs.inner.Flags.{flagged}
use Rattle.lengths.proofs.PathFlow.{treed_of}
use Rattle.solver.specs.inner.Search.{Lengthened}
use Rattle.solver.proofs.Preparing.{same_value, measured_for}
use Rattle.solver.proofs.Deciding.{searchable, decided_can, ringed, decided_cannot, decided_apart, measured_long}
use Rattle.solver.proofs.Naming.{measured_by_for, measured_other, named_of}
use Rattle.traversal.proofs.Rooting.{trees_few}
use Rattle.solver.proofs.decide.Goals as goal
use Rattle.solver.proofs.decide.Goals.{Else-cut_apart}

-- ── source and sink are in different parts ──
pub returns-then-cut_apart : goal.returns-then-cut_apart
returns-then-cut_apart c =
    let a = c.args in
    let p = c.requires in
    let e = c.if-cut_apart.ensures in
    let m = map_of a.sizes.nodes a.sizes.edges a.tails.now a.rotations.now in
    let row = c.cut_apart.new.lengths in
    let flags = c.cut_apart.new.inside in (
      e.1,
      decided_apart m a.sizes.outer (atℤ a.capacities.now) a.demand.source a.demand.sink a.demand.value (atℤ row) a.flows.now flags refl
          (measured_for m (atℤ a.capacities.now) (atℤ row) flags true c.dart_at-start.ensures.1 c.dart_at-finish.ensures.1 (same_value p.1) e.2),
      p.2,
      λ z. named_of a.lefts.now a.order.now a.from.now a.grouped.now a.starts.now p.0.opened.drawn p.0.opened.walked c.dart_at-start.ensures
          c.dart_at-finish.ensures a.parents.now row true
          (measured_by_for m (at a.from.now) (atℤ a.capacities.now) (atℤ row) (flagged flags) true (same_value p.1) e.3) tt,
    )

-- ── the lengths are known ──
known : (c : Else-cut_apart) → Lengthened (map_of c.args.sizes.nodes c.args.sizes.edges c.args.tails.now c.args.rotations.now)
    c.args.demand.source c.args.demand.sink (atℤ c.args.capacities.now) c.args.demand.value (atℤ c.cut_apart.new.lengths)
known c =
    let a = c.args in
    let m = map_of a.sizes.nodes a.sizes.edges a.tails.now a.rotations.now in
    let row = c.cut_apart.new.lengths in
    let flags = c.cut_apart.new.inside in
    measured_long m a.demand.source a.demand.sink (atℤ a.capacities.now) a.demand.value (atℤ row) flags refl
    (measured_for m (atℤ a.capacities.now) (atℤ row) flags false c.dart_at-start.ensures.1 c.dart_at-finish.ensures.1 (same_value c.requires.1)
    c.if-cut_apart.ensures.2)

pub settle_all-settled-requires : goal.settle_all-settled-requires
settle_all-settled-requires c =
    let p = c.requires in
    let o = p.0.opened in
    let lengths = known (goal.at.settle_all-settled-requires c).Else-cut_apart in
    record {
      few_edges = o.drawn.few_edges;
      few_parts = omega (arith, trees_few o.walked.forest, o.drawn.few_edges);
      size_parents = p.2;
      forest = o.walked.forest;
      searchable = λ queue long roots. searchable c.args.lefts.now o.drawn p.0.ends c.cut_apart.new.lengths lengths queue long roots;
      groups = o.walked.groups;
      exact = p.0.exact;
    }

-- ── a ring: the set made from it ──
pub cut_of_ring-requires : goal.cut_of_ring-requires
cut_of_ring-requires c =
    let p = c.requires in
    let o = p.0.opened in
    let q = c.in-Err.ensures.1 in
    let lengths = known (goal.at.cut_of_ring-requires c).Else-cut_apart in (
      c.cut_apart.array_long2,
      treed_of o.drawn.plane.sound o.walked.forest,
      ringed c.args.lefts.now o.drawn p.0.ends c.cut_apart.new.lengths lengths q.0 q.1 q.2 _ c.wide-y.ensures q.3.2,
    )

pub returns-in-Err : goal.returns-in-Err
returns-in-Err c =
    let a = c.args in
    let p = c.requires in
    let o = p.0.opened in
    let m = map_of a.sizes.nodes a.sizes.edges a.tails.now a.rotations.now in
    let row = c.cut_apart.new.lengths in
    let q = c.in-Err.ensures.1 in
    let e = c.cut_of_ring.ensures in
    let lengths = known (goal.at.returns-in-Err c).Else-cut_apart in
    let ok = searchable a.lefts.now o.drawn p.0.ends row lengths q.0 q.1 q.2 in
    let how = measured_by_for m (at a.from.now) (atℤ a.capacities.now) (atℤ row) (flagged c.cut_apart.new.inside) false (same_value p.1)
    c.if-cut_apart.ensures.3 in (
      e.0,
      decided_cannot a.lefts.now o.drawn p.0.ends row lengths q.0 q.1 q.2 _ _ c.cut_of_ring.new.inside q.3.0 e.1,
      c.in-Err.ensures.0,
      λ z. named_of a.lefts.now a.order.now a.from.now a.grouped.now a.starts.now o.drawn o.walked c.dart_at-start.ensures c.dart_at-finish.ensures
          a.parents.now row false (measured_other how)
          (record {
            queue = q.0;
            size = q.1;
            few = omega (arith, trees_few o.walked.forest, o.drawn.few_edges);
            roots = q.4;
            sound = ok.sound;
            joined = ok.joined;
            potentials = q.5.0;
            parents = _;
            closing = c.in-Err.ring.dart;
            closing_in = q.3.1;
            searched = q.5.1;
            made = rw (← c.wide-y.ensures) e.2;
          }),
    )

-- ── settled ──
pub returns : goal.returns
returns c =
    let p = c.requires in
    let e = rw c.in_default.is at c.settle_all-settled.ensures in
    let r = e.1.3 in
    let lengths = known (goal.at.returns c).Else-cut_apart in (
      c.cut_apart.array_long2,
      decided_can c.args.lefts.now p.0.opened.drawn p.0.ends c.cut_apart.new.lengths lengths e.1.0 e.1.1 e.1.2 r.0 r.1 _ _ c.cut_apart.new.inside r.2,
      e.0,
      λ z. absurd (true≢false z),
    )
