-- The first set lies at the source, and the bounds close in from there.
use Rattle.std.proofs.Common.{sym, subst}
use Rattle.arrays.specs.At.{atℤ}
use Rattle.arrays.specs.Maps.{map_of}
use Rattle.maximum.specs.inner.Bracket.{Bracket}
use Rattle.maximum.proofs.Bracketing.{ground_of, begins}
use Rattle.maximum.proofs.maximize_from.Goals as goal

pub close_in-requires : goal.close_in-requires
close_in-requires c =
    let p = c.requires in
    let a = c.args in
    let r = c.first_bounds-bounds.result in
    let e = c.first_bounds-bounds.ensures in (
      record {
        lent = p.0;
        small = p.1;
        size_a = c.begin-likely.ensures.0;
        size_b = c.flag_one.ensures.0;
        bracket = subst (Bracket (map_of a.sizes.nodes a.sizes.edges a.tails.now a.rotations.now) a.sizes.outer (atℤ a.capacities.now)
            a.terminals.source a.terminals.sink a.flows.now a.flows.now c.begin-likely.new.a c.flag_one.new.inside r.low r.high) (sym e.0)
            (begins a.sizes.outer (ground_of p.0 p.1) a.flows.now c.begin-likely.new.a c.flag_one.new.inside r.low r.high c.begin-likely.ensures.1
            c.flag_one.ensures.1 e.1 e.2);
      },
      p.3,
    )
