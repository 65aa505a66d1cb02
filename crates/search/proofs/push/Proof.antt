-- `push` meets its contract: the two cases of `Pushed`.
use mathlib.Core.Path.{refl}
use mathlib.Core.Logic.{inl, inr}
use borrow.Author.Rules.{rules}
use Rattle.search.proofs.push.Statement.{statement}
use Rattle.search.proofs.push.Tie as tie

returns : tie.Need-returns-then-waiting-f-eq1
returns c = inl (c.if-waiting-f-eq1.true, refl, refl, refl)

returns-2 : tie.Need-returns
returns-2 c = inr (c.if-waiting-f-eq1.false, refl, refl, refl)

pub push_spec : {M : Type 1} → statement M
push_spec =
    tie.close
    (tie.spec
    (λ c. search rules)
    returns
    (λ c. search rules)
    (λ c. search rules)
    (λ c. search rules)
    (λ c. search rules)
    (λ c. search rules)
    returns-2)
