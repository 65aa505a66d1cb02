-- One answer more is told: the next of `filled`.
use Rattle.std.proofs.Common.{◌≡◌, length, arith, rules, ◌∙◌, ap}
use Rattle.arrays.proofs.FillLoops.{copy_start, copy_step}
use Rattle.answer_arrays.specs.Told.{number_told}
use Rattle.answer_arrays.proofs.Defaults.{any_default}
use Rattle.answer_arrays.proofs.tell_numbers.Goals as goal

pub loop-i-init : goal.loop-i-init
loop-i-init c = copy_start _ _

pub loop-i-preserved : goal.loop-i-preserved
loop-i-preserved c =
    let l = c.loop-i in
    let long : length c.args.page.answers ≡ 64 = search rules in
    let same = any_default c.args.page.answers l.i _ _ (omega (arith, long, c.requires.0)) in
    copy_step _ l.i _ _ _ l.invariant (omega (arith, c.requires.0, c.requires.1)) (c.number_told.ensures ∙ ap number_told same)
