-- Checks 32 and 16: each test is a check's condition, or a part of it.
use mathlib.Core.Logic.{inl, inr}
use mathlib.Core.Path.{refl, subst}
use Prim.Native.Nat.{◌*◌, ◌≤◌, ◌<◌}
use native.Mathlib.Omega.{arith}
use native.Mathlib.Nat.{mul-le-mul}
use Rattle.refusals.specs.Order.{FirstOf, NoneOf}
use Rattle.refusals.proofs.Order.{neither}
use Rattle.desk.specs.Class.{class_checks}
use Rattle.desk.proofs.check_class.Goals as goal

pub returns-then-n-gt1000 : goal.returns-then-n-gt1000
unfolding class_checks FirstOf
returns-then-n-gt1000 c = rw c.refused.ensures (inl (omega arith, refl, refl))

pub returns-then-kinds-n : goal.returns-then-kinds-n
unfolding class_checks FirstOf
returns-then-kinds-n c = rw c.refused-then-kinds-n.ensures (inr (λ h. omega arith, inl (inl (omega arith), refl, refl)))

pub overflow_mul-n : goal.overflow_mul-n
overflow_mul-n c =
    let few : c.args.n ≤ 1000 = omega arith in
    record { fits = omega (arith, mul-le-mul few c.requires.1) }

pub returns-then-settings-n : goal.returns-then-settings-n
unfolding class_checks FirstOf
returns-then-settings-n c = rw c.refused-then-settings-n.ensures (inr (λ h. omega arith, inl (inr (inl (omega arith)), refl, refl)))

pub overflow_mul-n-2 : goal.overflow_mul-n-2
overflow_mul-n-2 c =
    let few : c.args.n ≤ 1000 = omega arith in
    record { fits = omega (arith, mul-le-mul few c.words_for.ensures.1) }

pub returns-then-sets-n : goal.returns-then-sets-n
unfolding class_checks FirstOf
returns-then-sets-n c =
    let a = c.args in
    let short = subst (λ k. a.sets < a.n * k) c.words_for.ensures.0 c.if-sets-n.true in
    rw c.refused-then-sets-n.ensures (inr (λ h. omega arith, inl (inr (inr (inl short)), refl, refl)))

pub returns-then-points-n : goal.returns-then-points-n
unfolding class_checks FirstOf
returns-then-points-n c = rw c.refused-then-points-n.ensures (inr (λ h. omega arith, inl (inr (inr (inr (omega arith))), refl, refl)))

pub returns : goal.returns
unfolding class_checks NoneOf
returns c =
    let a = c.args in
    let f : a.kinds < a.n → ⊥ = λ l. omega arith in
    let g : a.settings < a.n * a.edges → ⊥ = λ l. omega arith in
    let h = subst (λ k. a.sets < a.n * k → ⊥) c.words_for.ensures.0 (λ l. omega (arith, c.if-sets-n.false)) in
    let i : a.points < a.n → ⊥ = λ l. omega arith in
    (λ l. omega arith, (neither f (neither g (neither h i)), tt))
