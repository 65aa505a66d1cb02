-- Checks 6 and 7 on capacities, edge by edge.
use Prim.Native.Nat.{◌*◌, ◌+◌}
use native.Mathlib.Omega.{arith}
use borrow.Author.Rules.{rules}
use Rattle.std.proofs.lemmas.Result.{err_from_is_err_and}
use Rattle.refusals.specs.Order.{FirstOf}
use Rattle.refusals.proofs.Order.{first_in_turn, none_in_turn}
use Rattle.arrays.specs.At.{atℤ}
use Rattle.records.specs.Check.{capacity_checks}
use Rattle.capture.specs.Capture.{limits_checks}
use Rattle.capture.proofs.check_found.Goals as goal

pub returns-in_err-check_capacities : goal.returns-in_err-check_capacities
unfolding limits_checks
returns-in_err-check_capacities c =
    let p = err_from_is_err_and c.from_residual.result c.from_residual.ensures.1 in
    let e = c.loop-e.e in
    let r = c.in_err-check_capacities.field-0.0 in
    let here : FirstOf (capacity_checks (atℤ c.args.capacities.now (2 * e)) (atℤ c.args.capacities.now (2 * e + 1))) r.number r.place = search rules in
    rw (p.1, p.2) (first_in_turn _ _ e _ _ (omega arith) c.loop-e.invariant here)

pub returns : goal.returns
unfolding limits_checks
returns c = none_in_turn _ _ (λ e l. c.loop-e.invariant e (omega arith))
