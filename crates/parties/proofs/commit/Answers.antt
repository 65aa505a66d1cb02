-- Each refusal in turn; then the offer is taken, or it is not.
use mathlib.Core.Path.{refl, sym, ◌∙◌, ap}
use native.Mathlib.Omega.{arith}
use Rattle.arrays.specs.At.{at}
use Rattle.parties.specs.Shared.{shared_of}
use Rattle.parties.proofs.Taking.{
  no_party,
  has_committed,
  no_offer,
  stale_offer,
  too_much,
  lets_in,
  after_commit,
  own_offer,
  taken_yes,
  taken_no,
  offer_lowerable,
  lowerable_offer,
  lowered_offer,
  left_alone,
}
use Rattle.parties.proofs.commit.Goals as goal

pub returns-then-party-ge2 : goal.returns-then-party-ge2
returns-then-party-ge2 c = rw c.refused.ensures (no_party _ _ c.if-party-ge2.true, refl)

-- ── where the party stands ──
pub returns-then-stands-eq-COMMITTED : goal.returns-then-stands-eq-COMMITTED
returns-then-stands-eq-COMMITTED c =
    let stood = ap (at c.args.standing.now) c.wide.ensures in
    rw c.refused-then-stands-eq-COMMITTED.ensures
    (has_committed _ _ (λ l. absurd (omega (arith, l))) (sym stood ∙ c.if-stands-eq-COMMITTED.true), refl)

pub returns-then-stands-eq-STALE : goal.returns-then-stands-eq-STALE
returns-then-stands-eq-STALE c =
    let stood = ap (at c.args.standing.now) c.wide.ensures in
    rw c.refused-then-stands-eq-STALE.ensures (
      stale_offer _ _ (λ l. absurd (omega (arith, l))) (λ e. c.if-stands-eq-COMMITTED.false (stood ∙ e)) (sym stood ∙ c.if-stands-eq-STALE.true),
      refl,
    )

pub returns-then-stands-ne-OFFERED : goal.returns-then-stands-ne-OFFERED
returns-then-stands-ne-OFFERED c =
    let stood = ap (at c.args.standing.now) c.wide.ensures in
    rw c.refused-then-stands-ne-OFFERED.ensures (
      no_offer _ _ (λ l. absurd (omega (arith, l))) (λ e. c.if-stands-eq-COMMITTED.false (stood ∙ e))
          (λ e. c.if-stands-eq-STALE.false (stood ∙ e)) (λ e. c.if-stands-ne-OFFERED.true (stood ∙ e)),
      refl,
    )

-- ── the offer ──
pub returns-then-not-take_of : goal.returns-then-not-take_of
returns-then-not-take_of c =
    let a = c.args in
    let S = shared_of a.nodes a.edges a.outer a.tails.now a.rotations.now a.limits.now a.left.now a.standing.now a.first.now a.second.now in
    let stood = ap (at a.standing.now) c.wide.ensures in
    let h = taken_no c.take_of.ensures c.if-not-take_of.true in
    let e = own_offer a.party a.first.now a.second.now (λ l. absurd (omega (arith, l))) in
    rw c.refused-then-not-take_of.ensures (
      too_much S a.party (λ l. absurd (omega (arith, l))) (sym stood ∙ c.if-stands-ne-OFFERED.false) (λ l. h.0 (lowerable_offer S a.party _ e l)),
      left_alone S _ h.1,
    )

pub returns : goal.returns
returns c =
    let a = c.args in
    let S = shared_of a.nodes a.edges a.outer a.tails.now a.rotations.now a.limits.now a.left.now a.standing.now a.first.now a.second.now in
    let stood = ap (at a.standing.now) c.wide.ensures in
    let h = taken_yes c.take_of.ensures c.if-not-take_of.false in
    let e = own_offer a.party a.first.now a.second.now (λ l. absurd (omega (arith, l))) in (
      lets_in S a.party (λ l. absurd (omega (arith, l))) (sym stood ∙ c.if-stands-ne-OFFERED.false) (offer_lowerable S a.party _ e h.0),
      after_commit S a.party _ _ (lowered_offer S a.party _ e _ h.1) c.stand_committed.ensures.1,
    )
