use Rattle.std.proofs.Common.{◌≡◌, subst, arith}
use Rattle.arrays.specs.At.{at}
use Rattle.traversal.specs.inner.Spread.{FlagsMet}
use Rattle.traversal.proofs.flag_met.Goals as goal

pub returns : goal.returns
returns c =
    let i = c.loop-d.invariant in
    let all : c.loop-d.d ≡ c.args.darts = omega arith in
    (i.long, subst (λ n. FlagsMet n (at c.args.tails.now) (at c.args.from.now) (at c.loop-d.inside)) all i.flags)
