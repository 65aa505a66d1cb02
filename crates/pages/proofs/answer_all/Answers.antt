-- The list answered question by question: each turn is a step of `Answering`.
use Prim.Native.Nat.{◌-◌, ◌+◌, ◌*◌}
use native.Mathlib.Omega.{arith}
use Rattle.pages.proofs.Stretches.{stretch_room}
use Rattle.pages.proofs.Answering.{halfway_start, halfway_turn, all_answered}
use Rattle.pages.proofs.answer_all.Goals as goal

pub loop-i-init : goal.loop-i-init
loop-i-init c = halfway_start _ _ _ _ _ c.refused-none.ensures

pub loop-i-preserved : goal.loop-i-preserved
loop-i-preserved c =
    let l = c.loop-i in
    let e = c.args.sizes.edges in
    let w = c.words_for-words.result in
    let lent = c.requires.1 in
    halfway_turn e w _ _ _ l.i l.flows l.sets l.answers l.invariant
    (stretch_room e l.i c.args.list.count _ l.flows (omega arith) lent.flows_room l.invariant.flows_behind)
    (stretch_room w l.i c.args.list.count _ l.sets (omega arith) (rw c.words_for-words.ensures lent.sets_room) l.invariant.sets_behind)
    (omega (arith, lent.few)) (l.i * e + e - l.i * e) (l.i * w + w - l.i * w) (omega arith) (omega arith)
    c.ask.new.flows c.ask.new.set c.ask.result c.ask.auto.flows c.ask.auto.set c.ask.ensures

pub returns : goal.returns
returns c =
    let a = c.args in
    let l = c.loop-i in
    let lent = c.requires.1 in
    all_answered a.sizes.nodes a.sizes.edges a.list.count _ l.i _ a.flows.now l.flows a.sets.now l.sets l.answers
    c.words_for-words.ensures l.invariant (omega arith) lent.few lent.flows_room lent.sets_room
