-- `take_proposed` meets its contract.
use borrow.Author.Rules.{rules}
use Rattle.search.proofs.Taking.{taking_none}
use Rattle.search.proofs.take_proposed.Statement.{statement}
use Rattle.search.proofs.take_proposed.Tie as tie

returns : tie.Need-returns-then-none_proposed
returns c =
    let n = c in
    let s = n in
    let p = s.requires in
    taking_none s.args.lefts.now s.args.parents.now p.1 (n.none_proposed.ensures c.if-none_proposed.true) p.0

pub take_proposed_spec : {M : Type 1} → statement M
take_proposed_spec = tie.close (tie.spec (λ c κs. search rules) returns (λ c κs. search rules) (λ c. search rules))
