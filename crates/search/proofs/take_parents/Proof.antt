-- `take_parents` meets its contract: the parents of the faces before f are taken.
use mathlib.Core.Path.{◌≡◌, refl, sym, subst}
use mathlib.Core.Logic.{⊎_elim}
use Prim.Native.Nat.{◌-◌, ◌≤◌, ◌<◌}
use native.Mathlib.Omega.{arith}
use borrow.Author.Rules.{rules}
use Rattle.integers.specs.Sum.{Naturals}
use Rattle.integers.proofs.Sums.{sum_zero}
use Rattle.search.specs.inner.Taking.{Taking}
use Rattle.search.proofs.Taking.{taking_keep, taking_drop}
use Rattle.search.proofs.take_parents.Statement.{statement}
use Rattle.search.proofs.take_parents.Tie as tie

abbrev invariant-loop : tie.invariant-loop-f
invariant-loop lefts darts faces parents₀ taken₀ f₀ parents taken f = Taking lefts darts parents₀ f parents taken × (f ≤ faces) × (taken ≤ f)

abbrev decreases-loop : tie.decreases-loop-f
decreases-loop lefts darts faces parents₀ taken₀ f₀ parents taken f = faces - f

loop-holds : tie.Need-loop-f-init invariant-loop decreases-loop
loop-holds c = (
  record { size = c.requires.0; taken = λ x l. absurd (omega arith); rest = λ x l. refl; counted = sym (sum_zero Naturals _) },
  omega arith,
  omega arith,
)

small : (c : tie.In-loop-f invariant-loop decreases-loop) → c.loop-f.f < 1024
small c = omega (arith, c.loop-f-test.true, c.requires.2)

loop-again : tie.Need-loop-f-preserved invariant-loop decreases-loop
loop-again c =
    let k = c in
    let w = k.wide-p in
    let l = k.loop-f in
    let s = small k.before.before.before.before.before in
    let b = k.is_sensible in (
      ⊎_elim
          (λ u. taking_keep l.invariant.0 s w.result w.ensures b.result b.ensures u.if-is_sensible.true _ u.parents-is _ u.taken-is)
          (λ u. taking_drop l.invariant.0 s w.result w.ensures b.result b.ensures u.if-is_sensible.false _ u.parents-is _ u.taken-is)
          c.if-is_sensible.branch-raw,
      omega (arith, k.loop-f-test.true),
      ⊎_elim (λ u. omega (arith, u.taken-is, l.invariant.2)) (λ u. omega (arith, u.taken-is, l.invariant.2)) c.if-is_sensible.branch-raw,
    )

returns : tie.Need-returns invariant-loop decreases-loop
returns c =
    let l = c.loop-f in
    let s = c in
    let all : l.f ≡ s.args.faces = omega (arith, c.loop-f-test.false, l.invariant.1) in
    subst (λ f. Taking s.args.lefts.now s.args.darts s.args.parents.now f l.parents l.taken) all l.invariant.0

pub take_parents_spec : {M : Type 1} → statement M
take_parents_spec =
    tie.close
    (tie.spec
    invariant-loop
    decreases-loop
    loop-holds
    (λ c. record { fits = omega (arith, small c) })
    (λ c. small c.before)
    (λ c κs. search rules)
    (λ c κs. search rules)
    (λ c. record { fits = omega (arith, c.loop-f.invariant.2, small c.before.before.before.before.before) })
    (λ c. record { fits = omega (arith, small c.before.before.before.before.before) })
    (λ c. small c.before.before.before.before.before)
    (λ c. record { fits = omega (arith, small c.before.before.before.before.before) })
    (λ c. omega (arith, c.loop-f-test.true))
    loop-again
    returns)
