-- `right` meets its contract: an element at the reverse of d.
use mathlib.Core.Path.{ap, ◌∙◌}
use lib.ListN.{get_or}
use borrow.Author.Rules.{rules}
use Rattle.arrays.proofs.right.Statement.{statement}
use Rattle.arrays.proofs.right.Tie as tie

returns : tie.Need-returns
returns c = c.wide.ensures ∙ ap (λ e. get_or c.args.lefts.now e 0) c.reverse-r.ensures.0

pub right_spec : {M : Type 1} → statement M
right_spec =
    tie.close (tie.spec (λ c κs. search rules) (λ c. search rules) (λ c. search rules) (λ c κs. search rules) returns)
