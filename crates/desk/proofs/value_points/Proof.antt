-- Claim and set, each by itself: 3 and 3.
use mathlib.Core.Path.{refl}
use borrow.Author.Rules.{rules}
use lib.IntN.{pos, ◌+ℤ◌}
use Rattle.signed.proofs.Laws.{number_of_bits}
use Rattle.refusals.specs.Order.{Decides}
use Rattle.refusals.proofs.Order.{said_yes, said_no}
use Rattle.desk.specs.inner.Judged.{IsValue, ProvesBy}
use Rattle.desk.proofs.Judging.{earned, missed}
use Rattle.desk.proofs.value_points.Statement.{statement}
use Rattle.desk.proofs.value_points.Tie as tie

abbrev begun : tie.After-proves_next-proved → tie.Start
begun c = c.before.before

claimed : (c : tie.After-proves_next-proved) → Decides (IsValue (begun c).args.claim (begun c).args.v) c.claims_value-claimed.result
claimed c = rw (number_of_bits _ (begun c).ranges.v) at c.claims_value-claimed.ensures

proved : (c : tie.After-proves_next-proved)
    → Decides (ProvesBy (begun c).args.total ((begun c).args.v +ℤ pos 1) (begun c).args.from (begun c).args.into) c.proves_next-proved.result
proved c = rw (number_of_bits _ (begun c).ranges.v, number_of_bits _ (begun c).ranges.total) at c.proves_next-proved.ensures

returns : tie.Need-returns-then-proved
returns c =
    let p = c in
    (3, 3, earned 3 (said_yes (claimed p.before.before) c.if-claimed.true), earned 3 (said_yes (proved p.before.before) c.if-proved.true), refl)

returns-2 : tie.Need-returns-then-claimed
returns-2 c =
    let p = c in
    (3, 0, earned 3 (said_yes (claimed p.before.before) c.if-claimed.true), missed 3 (said_no (proved p.before.before) c.if-proved.false), refl)

returns-3 : tie.Need-returns-then-proved-2
returns-3 c =
    let p = c in
    (0, 3, missed 3 (said_no (claimed p.before.before) c.if-claimed.false), earned 3 (said_yes (proved p.before.before) c.if-proved-2.true), refl)

returns-4 : tie.Need-returns
returns-4 c =
    let p = c in
    (0, 0, missed 3 (said_no (claimed p.before.before) c.if-claimed.false), missed 3 (said_no (proved p.before.before) c.if-proved-2.false), refl)

pub value_points_spec : {M : Type 1} → statement M
value_points_spec =
    tie.close
    (tie.spec (λ c κs. search rules) (λ c κs. search rules) returns returns-2 returns-3 returns-4)
