-- A party that is none, or has committed, is refused; else the answer on the limits left is told, and the session after it is by its case.
use mathlib.Core.Path.{refl, sym, ◌∙◌, ap}
use native.Mathlib.Omega.{arith}
use Rattle.std.specs.Prelude.{Ok}
use Rattle.std.proofs.lemmas.Result.{err_from_is_err_and}
use Rattle.signed.proofs.Laws.{number_of_bits}
use Rattle.arrays.specs.At.{at}
use Rattle.arrays.proofs.FillLoops.{filled_length}
use Rattle.sessions.proofs.Asking.{asked_few, asked_room}
use Rattle.parties.specs.Shared.{shared_of, shared_drawing}
use Rattle.parties.proofs.Asking.{no_party, has_committed, left_as, told_as, after_can, after_cannot}
use Rattle.parties.proofs.ask.Goals as goal

pub returns-then-party-ge2 : goal.returns-then-party-ge2
returns-then-party-ge2 c = rw c.refused.ensures (no_party _ _ _ _ _ _ _ c.if-party-ge2.true)

pub returns-then-stands-eq-COMMITTED : goal.returns-then-stands-eq-COMMITTED
returns-then-stands-eq-COMMITTED c =
    let stood = ap (at c.args.standing.now) c.wide-p.ensures in
    rw c.refused-then-stands-eq-COMMITTED.ensures
    (has_committed _ _ _ _ _ _ _ (λ l. absurd (omega (arith, l))) (sym stood ∙ c.if-stands-eq-COMMITTED.true))

-- ── the answer on the limits left ──
pub returns-in_err-solution : goal.returns-in_err-solution
returns-in_err-solution c =
    let a = c.args in
    let stood = ap (at a.standing.now) c.wide-p.ensures in
    let p = err_from_is_err_and c.from_residual.result c.from_residual.ensures.1 in
    rw (p.1, p.2)
    (told_as _ a.party a.source a.sink (number_of_bits _ c.ranges.value) a.flows.now _ a.set.now _ refl (λ l. absurd (omega (arith, l)))
    (λ e. c.if-stands-eq-COMMITTED.false (stood ∙ e)) _ refl c.in_err-solution.ensures)

pub keep_offer-requires : goal.keep_offer-requires
keep_offer-requires c =
    let a = c.args in
    let S = shared_of a.sizes.nodes a.sizes.edges a.sizes.outer a.tails.now a.rotations.now a.limits.now a.left.now a.standing.now a.first.now a.second.now in
    let h = (left_as S a.party a.source a.sink (number_of_bits _ c.ranges.value) a.flows.now _ a.set.now _ (ap Ok c.in-Can.is) c.in_ok-solution.ensures).0 in
    let few = asked_few (shared_drawing S) _ _ _ _ _ h.0 in
    let room = asked_room (shared_drawing S) _ _ _ _ _ h.0 in (
      omega (arith, c.wide-p.ensures),
      omega (arith, c.wide.ensures, filled_length _ _ _ _ h.1.2 room, room),
      omega (arith, c.wide.ensures, few, c.told-first),
      omega (arith, c.wide.ensures, few, c.told-second),
    )

pub returns-in-Can : goal.returns-in-Can
returns-in-Can c =
    let a = c.args in
    let S = shared_of a.sizes.nodes a.sizes.edges a.sizes.outer a.tails.now a.rotations.now a.limits.now a.left.now a.standing.now a.first.now a.second.now in
    let stood = ap (at a.standing.now) c.wide-p.ensures in
    rw c.in-Can.is
    (told_as S a.party a.source a.sink (number_of_bits _ c.ranges.value) a.flows.now _ a.set.now _ (ap Ok c.in-Can.is)
    (λ l. absurd (omega (arith, l))) (λ e. c.if-stands-eq-COMMITTED.false (stood ∙ e)) _
    (after_can S c.wide-p.ensures _ c.wide.ensures _ _ c.stand.ensures c.keep_offer.ensures) c.in_ok-solution.ensures)

pub returns-in-Cannot : goal.returns-in-Cannot
returns-in-Cannot c =
    let a = c.args in
    let S = shared_of a.sizes.nodes a.sizes.edges a.sizes.outer a.tails.now a.rotations.now a.limits.now a.left.now a.standing.now a.first.now a.second.now in
    let stood = ap (at a.standing.now) c.wide-p.ensures in
    rw c.in-Cannot.is
    (told_as S a.party a.source a.sink (number_of_bits _ c.ranges.value) a.flows.now _ a.set.now _ (ap Ok c.in-Cannot.is)
    (λ l. absurd (omega (arith, l))) (λ e. c.if-stands-eq-COMMITTED.false (stood ∙ e)) _
    (after_cannot S c.wide-p.ensures _ c.stand-in-Cannot.ensures) c.in_ok-solution.ensures)
