-- The level has the bits of the mark, or not.
use borrow.Author.Rules.{rules}
use Rattle.search.proofs.Far.{same_far, apart_far}
use Rattle.search.proofs.is_far.Statement.{statement}
use Rattle.search.proofs.is_far.Tie as tie

returns : tie.Need-returns
returns c = (λ e. same_far _ (record { sfits = c.result-1.given }) e, λ e. apart_far _ e)

pub is_far_spec : {M : Type 1} → statement M
is_far_spec = tie.close (tie.spec (λ c. search rules) (λ c. search rules) returns)
