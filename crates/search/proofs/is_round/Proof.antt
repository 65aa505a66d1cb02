-- The face is on the way of this ascent, and the level is there.
use mathlib.Core.Path.{sym}
use mathlib.Core.Bool.{true≢false}
use native.Mathlib.Omega.{arith}
use borrow.Author.Rules.{rules}
use borrow.Author.Tests.{not-true, not-false}
use Rattle.search.proofs.is_round.Statement.{statement}
use Rattle.search.proofs.is_round.Tie as tie

returns : tie.Need-returns-then-links-y-lt1024
returns c =
    let e = c.is_far.ensures in
    (λ q. (c.if-links-y-lt1024.true, e.1 (not-true c.is_far.result q)), λ q m h. h (e.0 (not-false c.is_far.result q)))

returns-2 : tie.Need-returns
returns-2 c = (λ q. absurd (true≢false (sym q)), λ q m h. omega (arith, c.if-links-y-lt1024.false, m))

pub is_round_spec : {M : Type 1} → statement M
is_round_spec = tie.close (tie.spec (λ c. search rules) (λ c. search rules) (λ c κs. search rules) returns returns-2)
