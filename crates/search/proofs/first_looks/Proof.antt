-- `first_looks` meets its contract.
use native.Mathlib.Omega.{arith}
use Rattle.integers.proofs.Tests.{eqb_true, eqb_false}
use Rattle.search.proofs.first_looks.Statement.{statement}
use Rattle.search.proofs.first_looks.Tie as tie

returns : tie.Need-returns-then-taken-eq0
returns c = rw (eqb_true c.args.taken 0 c.if-taken-eq0.true)

returns-2 : tie.Need-returns
returns-2 c = rw (eqb_false c.args.taken 0 c.if-taken-eq0.false)

pub first_looks_spec : {M : Type 1} → statement M
first_looks_spec =
    tie.close
    (tie.spec
    (λ c. record { fits = omega (arith, c.requires) })
    (λ c. record { fits = omega (arith, c.requires) })
    returns
    returns-2)
