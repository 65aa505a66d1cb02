-- The limits after the named record: the phases one after another, each way out by a law of `Limits`.
use mathlib.Core.Path.{refl}
use native.Mathlib.Omega.{arith}
use Rattle.std.proofs.lemmas.Result.{err_from_is_err_and}
use Rattle.arrays.specs.At.{atℤ}
use Rattle.capture.proofs.Limits.{window_inside, window_passed, window_refused, records_refused, limits_judged}
use Rattle.capture.proofs.take_limits.Goals as goal

pub returns-in_err-check_window : goal.returns-in_err-check_window
returns-in_err-check_window c =
    let p = err_from_is_err_and c.from_residual.result c.from_residual.ensures.1 in
    (c.requires.0, rw (p.1, p.2) (window_refused _ _ (atℤ c.args.capacities.now) _ _ _ _ c.in_err-check_window.ensures))

pub returns-in_err-check_capture : goal.returns-in_err-check_capture
returns-in_err-check_capture c =
    let p = err_from_is_err_and c.from_residual-in_err-check_capture.result c.from_residual-in_err-check_capture.ensures.1 in
    (c.requires.0, rw (p.1, p.2) (records_refused _ _ (atℤ c.args.capacities.now) _ _ _ c.in_ok-check_window.ensures _ c.in_err-check_capture.ensures))

pub overflow_add-end : goal.overflow_add-end
overflow_add-end c = let inside = window_inside c.args.capture.now c.args.window c.args.named c.in_ok-check_window.ensures in omega arith

pub take_window-requires : goal.take_window-requires
take_window-requires c =
    let inside = window_inside c.args.capture.now c.args.window c.args.named c.in_ok-check_window.ensures in (
      c.requires.0,
      c.requires.1,
      omega arith,
      λ j l. window_passed _ _ c.args.named c.in_ok-check_capture.ensures inside.2 j (omega arith),
    )

pub returns : goal.returns
returns c = (
  c.take_window.ensures.0,
  limits_judged _ _ _ _ _ _ c.in_ok-check_window.ensures c.in_ok-check_capture.ensures c.saturating_sub-first.result _ c.saturating_sub-first.ensures refl
      c.take_window.ensures.1 c.check_found.result c.check_found.ensures,
)
