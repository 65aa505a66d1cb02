-- Where a group ends is read off the array of starts, one place before its own.
use mathlib.Core.Path.{◌≡◌, sym, ◌∙◌, ap}
use Prim.Native.Nat.{ℕ, zero, suc, ◌-◌}
use native.Mathlib.Omega.{arith}
use borrow.Author.Rules.{rules}
use Rattle.arrays.specs.At.{at}
use Rattle.grouping.specs.Grouped.{end_of}
use Rattle.search.proofs.group_end.Statement.{statement}
use Rattle.search.proofs.group_end.Tie as tie

before : (darts : ℕ) (starts : ℕ → ℕ) (f : ℕ) → (f ≡ 0 → ⊥) → end_of darts starts f ≡ starts (f - 1)
before darts starts zero h = absurd (h (omega arith))
before darts starts (suc f) h = let e : f ≡ suc f - 1 = omega arith in ap starts e

returns : tie.Need-returns-then-f-eq0
returns c = let s = c in sym (ap (end_of s.args.darts (at s.args.starts.now)) c.if-f-eq0.true)

returns-2 : tie.Need-returns
returns-2 c =
    let t = c in
    let a = t.args in
    c.wide.ensures ∙ sym (before a.darts (at a.starts.now) a.f t.if-f-eq0.false)

pub group_end_spec : {M : Type 1} → statement M
group_end_spec =
    tie.close (tie.spec returns (λ c. search rules) (λ c. search rules) (λ c. search rules) (λ c κs. search rules) returns-2)
