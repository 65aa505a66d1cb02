-- A mark is a number.
use Rattle.arrays.specs.At.{at}
use Rattle.traversal.specs.inner.Mark.{unmarked}
use Rattle.refusals.proofs.Decisions.{decides_ne}
use borrow.Author.Rules.{rules}
use Rattle.traversal.proofs.is_met.Statement.{statement}
use Rattle.traversal.proofs.is_met.Tie as tie

returns : tie.Need-returns
returns c = decides_ne (at c.args.from.now c.args.d) unmarked (λ h. h) (λ e h. h e)

pub is_met_spec : {M : Type 1} → statement M
is_met_spec = tie.close (tie.spec (λ c. search rules) (λ c. search rules) returns)
