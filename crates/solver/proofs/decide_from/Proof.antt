-- The roots, and the decision from them.
use mathlib.Core.Path.{refl}
use borrow.Author.Rules.{rules}
use Rattle.lengths.proofs.PathFlow.{treed_of}
use Rattle.solver.proofs.Deciding.{redrawn}
use Rattle.solver.proofs.decide_from.Statement.{statement}
use Rattle.solver.proofs.decide_from.Tie as tie

fill-roots-requires : tie.Need-fill_roots-roots-requires
fill-roots-requires c κs =
    let p = c.requires in
    let o = p.0.opened in
    (refl, o.drawn.few_edges, p.2, o.drawn.plane.sound.range.rotation_in, o.walked.forest)

decide-at-requires : tie.Need-decide_at-requires
decide-at-requires c κs =
    let r = c in
    let p = r.requires in
    let o = p.0.opened in
    let e = r.fill_roots-roots.ensures in (
      record {
        drawn = redrawn o.drawn p.2;
        treed = treed_of o.drawn.plane.sound o.walked.forest;
        groups = o.walked.groups;
        roots = e.1;
        ends = p.0.ends;
        exact = p.0.exact;
      },
      p.1,
      e.0,
      p.3,
    )

returns : tie.Need-returns
returns c = c.decide_at.ensures

pub decide_from_spec : {M : Type 1} → statement M
decide_from_spec = tie.close (tie.spec fill-roots-requires decide-at-requires (λ c. search rules) returns)
