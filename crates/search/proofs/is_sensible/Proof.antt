-- The second test comes where the first holds.
use mathlib.Core.Path.{ap}
use lib.Dec.{eqb}
use borrow.Author.Rules.{rules}
use Rattle.integers.proofs.Tests.{ltb_true, ltb_false}
use Rattle.search.proofs.is_sensible.Statement.{statement}
use Rattle.search.proofs.is_sensible.Tie as tie

returns : tie.Need-returns-then-p-darts
returns c =
    let t = c in
    rw (ltb_true t.args.p t.args.darts t.if-p-darts.true) (ap (λ x. eqb x t.args.f) c.wide.ensures)

returns-2 : tie.Need-returns-else-p-darts
returns-2 c = rw (ltb_false c.args.p c.args.darts c.if-p-darts.false)

pub is_sensible_spec : {M : Type 1} → statement M
is_sensible_spec = tie.close (tie.spec (λ c. search rules) (λ c. search rules) (λ c κs. search rules) returns returns-2)
