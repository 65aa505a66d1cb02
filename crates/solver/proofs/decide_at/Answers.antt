-- A question decided of the drawing with another outer dart: as `decide`, by the same laws of `Deciding`.
use Rattle.std.proofs.Common.{refl, arith, false}
use Rattle.arrays.specs.At.{atℤ}
use Rattle.arrays.specs.Maps.{map_of}
use Rattle.traversal.proofs.Rooting.{roots_few}
use Rattle.solver.specs.inner.Search.{Lengthened}
use Rattle.solver.proofs.Preparing.{same_value, measured_for}
use Rattle.solver.proofs.Deciding.{searchable, decided_can, ringed, decided_cannot, measured_long}
use Rattle.solver.proofs.decide_at.Goals as goal
use Rattle.solver.proofs.decide_at.Goals.{Else-cut_apart}

-- ── the lengths are known ──
known : (c : Else-cut_apart) → Lengthened (map_of c.args.sizes.nodes c.args.sizes.edges c.args.tails.now c.args.rotations.now)
    c.args.demand.source c.args.demand.sink (atℤ c.args.capacities.now) c.args.demand.value (atℤ c.cut_apart.new.lengths)
known c =
    let a = c.args in
    let m = map_of a.sizes.nodes a.sizes.edges a.tails.now a.rotations.now in
    let row = c.cut_apart.new.lengths in
    let flags = c.cut_apart.new.inside in
    measured_long m a.demand.source a.demand.sink (atℤ a.capacities.now) a.demand.value (atℤ row) flags refl
    (measured_for m (atℤ a.capacities.now) (atℤ row) flags false c.dart_at-start.ensures.1 c.dart_at-finish.ensures.1 (same_value c.requires.1)
    c.if-cut_apart.ensures.2)

pub settle-settled-requires : goal.settle-settled-requires
settle-settled-requires c =
    let p = c.requires in
    let o = p.0 in
    let lengths = known (goal.at.settle-settled-requires c).Else-cut_apart in
    record {
      few_edges = o.drawn.few_edges;
      few_roots = omega (arith, roots_few o.roots, o.drawn.few_edges);
      size_parents = refl;
      size_queue = p.2;
      searchable = searchable c.args.lefts.now o.drawn o.ends c.cut_apart.new.lengths lengths c.args.queue.now p.2 o.roots;
      groups = o.groups;
      exact = o.exact;
    }

-- ── a ring ──
pub cut_of_ring-requires : goal.cut_of_ring-requires
cut_of_ring-requires c =
    let p = c.requires in
    let q = c.in-Err.ensures.1 in
    let lengths = known (goal.at.cut_of_ring-requires c).Else-cut_apart in (
      c.cut_apart.array_long2,
      p.0.treed,
      ringed c.args.lefts.now p.0.drawn p.0.ends c.cut_apart.new.lengths lengths c.args.queue.now p.2 p.0.roots _ c.wide-y.ensures q.2,
    )

pub returns-in-Err : goal.returns-in-Err
returns-in-Err c =
    let p = c.requires in
    let q = c.in-Err.ensures.1 in
    let e = c.cut_of_ring.ensures in
    let lengths = known (goal.at.returns-in-Err c).Else-cut_apart in (
      e.0,
      decided_cannot c.args.lefts.now p.0.drawn p.0.ends c.cut_apart.new.lengths lengths c.args.queue.now p.2 p.0.roots _ _ c.cut_of_ring.new.inside q.0 e.1,
    )

-- ── settled ──
pub returns : goal.returns
returns c =
    let p = c.requires in
    let r = (rw c.in_default.is at c.settle-settled.ensures).1 in
    let lengths = known (goal.at.returns c).Else-cut_apart in (
      c.cut_apart.array_long2,
      decided_can c.args.lefts.now p.0.drawn p.0.ends c.cut_apart.new.lengths lengths c.args.queue.now p.2 p.0.roots r.0 r.1 _ _ c.cut_apart.new.inside r.2,
    )
