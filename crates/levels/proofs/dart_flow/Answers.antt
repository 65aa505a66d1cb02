-- Each branch settles the test of `on_darts`.
use mathlib.Core.Path.{◌≡◌, sym, ◌∙◌, subst}
use Prim.Native.Nat.{◌/◌}
use native.Mathlib.Omega.{arith}
use lib.IntN.{neg_ℤ}
use Rattle.integers.specs.inner.Limited.{Limited}
use Rattle.arrays.specs.At.{atℤ}
use Rattle.arrays.specs.inner.Sizes.{most_on_sheet}
use Rattle.integers.proofs.Limits.{limited_neg}
use Rattle.signed.proofs.Limits.{same_bits}
use Rattle.levels.proofs.DartFlow.{zero_minus, flow_forth, flow_back}
use Rattle.levels.proofs.dart_flow.Goals as goal

pub returns-then-d-eq0 : goal.returns-then-d-eq0
returns-then-d-eq0 c =
    let h = c.requires.1 in
    let e = same_bits (omega arith) h in
    (e ∙ sym (flow_forth (atℤ c.args.flows.now) c.args.d c.if-d-eq0.true), subst (Limited most_on_sheet) (sym e) h)

pub returns : goal.returns
returns c =
    let h = c.requires.1 in
    let x = atℤ c.args.flows.now (c.args.d / 2) in
    let is : c.minus.result ≡ neg_ℤ x = c.minus.ensures ∙ rw (same_bits (omega arith) h) (zero_minus x) in
    let g : Limited most_on_sheet c.minus.result = subst (Limited most_on_sheet) (sym is) (limited_neg h) in
    let e = same_bits (omega arith) g in
    (e ∙ is ∙ sym (flow_back (atℤ c.args.flows.now) c.args.d c.if-d-eq0.false), subst (Limited most_on_sheet) (sym e) g)
