-- The window's records taken one by one. A record that passed its checks is whole, so no other is found.
use mathlib.Core.Path.{refl, ◌∙◌, ap, subst}
use Prim.Native.Nat.{◌*◌, ◌+◌}
use native.Mathlib.Omega.{arith}
use borrow.Author.Rules.{rules}
use Rattle.signed.proofs.Laws.{number_of_bits}
use Rattle.capture.specs.inner.Read.{entry_at}
use Rattle.capture.proofs.Reading.{Whole, found_as}
use Rattle.capture.proofs.Checking.{passed_read, passed_channel}
use Rattle.capture.proofs.Taking.{taken_start, taken_step}
use Rattle.capture.proofs.take_window.Goals as goal
use Rattle.capture.proofs.take_window.Goals.{in-Ok, in_default}

pub loop-i-init : goal.loop-i-init
loop-i-init c = taken_start _ _ _ _ c.requires.0 (λ d. refl)

pub take_limit-requires : goal.take_limit-requires
take_limit-requires c =
    let k = c.args.first + c.loop-i.i in
    let w = subst (λ n. Whole c.args.capture.now (n * k) c.in-Ok.entry) c.record_length.ensures.0 (found_as _ _ _ c.in-Ok.ensures) in
    let few = passed_channel _ _ k (c.requires.3 k (omega arith)) in
    (c.loop-i.invariant.marks_long, c.loop-i.invariant.long, omega (arith, w.edge, few))

pub loop-i-preserved : goal.loop-i-preserved
loop-i-preserved c =
    let b = c.args.capture.now in
    let k = c.args.first + c.loop-i.i in
    let passed = c.requires.3 k (omega arith) in
    elim c.match-entry_at.branch [
      | in-Ok w ↦
          let whole = subst (λ n. Whole b (n * k) w.in-Ok.entry) c.record_length.ensures.0 (found_as _ _ _ w.in-Ok.ensures) in
          let few = passed_channel _ _ k passed in
          taken_step _ _ _ c.loop-i.invariant w.from.result _ (w.from.ensures ∙ whole.edge) (omega (arith, w.from.ensures, whole.edge, few))
          (number_of_bits _ (record { sfits = search rules }) ∙ whole.limit)
          (w.seen-is ∙ w.take_limit.ensures.0) (w.capacities-is ∙ w.take_limit.ensures.1)
      | in_default w ↦
          absurd (w.in_default.not-Ok _ (c.entry_at.ensures ∙ ap (λ n. entry_at b (n * k)) c.record_length.ensures.0 ∙ passed_read _ _ k passed))
    ]
