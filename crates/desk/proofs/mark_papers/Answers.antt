use Prim.Native.Nat.{◌+◌, ◌*◌, ◌-◌}
use mathlib.Core.Path.{refl, ◌∙◌, ap}
use native.Mathlib.Omega.{arith}
use borrow.Author.Rules.{rules}
use Rattle.signed.proofs.Laws.{number_of_bits}
use Rattle.flows.specs.ProvingSet.{words_for}
use Rattle.arrays.specs.At.{at}
use Rattle.desk.specs.Paper.{claim_of}
use Rattle.desk.proofs.Asking.{counts_fit}
use Rattle.desk.proofs.Marking.{halfway_start, halfway_turn, turned, all_marked}
use Rattle.desk.proofs.mark_papers.Goals as goal

pub words_for-words-requires : goal.words_for-words-requires
words_for-words-requires c = omega (arith, c.requires.1, (counts_fit _ c.requires.0.sheet).0)

pub loop-q-init : goal.loop-q-init
loop-q-init c = halfway_start _ _

pub loop-q-preserved : goal.loop-q-preserved
loop-q-preserved c =
    let a = c.args in
    let l = c.loop-q in
    let e = a.edges in
    let w = c.words_for-words.result in
    let claimed = c.claim_of-claim.ensures ∙ ap (claim_of (at a.kinds.now l.q)) (number_of_bits _ (record { sfits = search rules })) in
    halfway_turn _ a.points.now l.q l.points c.paper_points.result l.invariant (omega (arith, c.loop-q-test.true, c.requires.7))
    (turned a.sheet.now _ _ _ _ a.largest a.claims.now a.kinds.now a.settings.now a.sets.now l.q e w (l.q * e + e - l.q * e) (l.q * w + w - l.q * w)
    c.claim_of-claim.result _ c.requires.2 (c.words_for-words.ensures.0 ∙ ap words_for c.requires.1) (omega arith) (omega arith) claimed refl
    c.paper_points.ensures.0)
    c.paper_points.ensures.1

pub returns : goal.returns
returns c =
    let a = c.args in
    let l = c.loop-q in
    all_marked a.sheet.now a.source a.sink a.value _ a.largest a.claims.now a.kinds.now a.settings.now a.sets.now a.points.now l.points l.q (omega arith)
    (number_of_bits _ c.ranges.value) l.invariant
