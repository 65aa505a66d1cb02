-- Checks 13, 14 and 15: a test for each end, one for both, one for each side of the range.
use mathlib.Core.Path.{refl}
use mathlib.Core.Logic.{inl, inr}
use mathlib.Core.Path.{◌≡◌}
use Prim.Native.Nat.{◌≤◌}
use native.Mathlib.Omega.{arith}
use Rattle.integers.proofs.Laws.{lt_of_test, ge_of_test, lt_le_clash}
use Rattle.signed.proofs.Laws.{number_of_bits}
use Rattle.refusals.specs.Order.{NoneOf, FirstOf}
use Rattle.refusals.proofs.Order.{neither}
use Rattle.questions.specs.Question.{end_checks, value_checks}
use Rattle.desk.proofs.check_question.Goals as goal

pub returns-then-nodes-source : goal.returns-then-nodes-source
unfolding end_checks value_checks FirstOf
returns-then-nodes-source c = rw c.refused.ensures (inl (inl (omega arith), refl, refl))

pub returns-then-nodes-sink : goal.returns-then-nodes-sink
unfolding end_checks value_checks FirstOf
returns-then-nodes-sink c = rw c.refused-then-nodes-sink.ensures (inl (inr (omega arith), refl, refl))

pub returns-then-source-sink : goal.returns-then-source-sink
unfolding end_checks value_checks FirstOf
returns-then-source-sink c = rw c.refused-then-source-sink.ensures (inr (neither (λ l. omega arith) (λ l. omega arith), inl (omega arith, refl, refl)))

pub returns-then-value-ltminus600000000 : goal.returns-then-value-ltminus600000000
unfolding end_checks value_checks FirstOf
returns-then-value-ltminus600000000 c =
    let low = lt_of_test _ _ (rw (number_of_bits _ c.ranges.value) at c.if-value-ltminus600000000.true) in
    let a = c.args in
    let source : a.nodes ≤ a.source → ⊥ = λ l. omega arith in
    let sink : a.nodes ≤ a.sink → ⊥ = λ l. omega arith in
    let two : a.source ≡ a.sink → ⊥ = λ e. omega arith in
    rw c.refused-then-value-ltminus600000000.ensures (inr (neither source sink, inr (two, inl (inl low, refl, refl))))

pub returns-then-value-gt600000000 : goal.returns-then-value-gt600000000
unfolding end_checks value_checks FirstOf
returns-then-value-gt600000000 c =
    let high = lt_of_test _ _ (rw (number_of_bits _ c.ranges.value) at c.if-value-gt600000000.true) in
    let a = c.args in
    let source : a.nodes ≤ a.source → ⊥ = λ l. omega arith in
    let sink : a.nodes ≤ a.sink → ⊥ = λ l. omega arith in
    let two : a.source ≡ a.sink → ⊥ = λ e. omega arith in
    rw c.refused-then-value-gt600000000.ensures (inr (neither source sink, inr (two, inl (inr high, refl, refl))))

pub returns : goal.returns
unfolding end_checks value_checks NoneOf
returns c =
    let low = ge_of_test _ _ (rw (number_of_bits _ c.ranges.value) at c.if-value-ltminus600000000.false) in
    let high = ge_of_test _ _ (rw (number_of_bits _ c.ranges.value) at c.if-value-gt600000000.false) in
    (neither (λ l. omega arith) (λ l. omega arith), (λ e. omega arith, (neither (λ h. lt_le_clash h low) (λ h. lt_le_clash h high), tt)))
