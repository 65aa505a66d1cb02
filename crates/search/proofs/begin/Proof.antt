-- `begin` meets its contract: whatever was proposed, the levels of the roots before m are stored.
use mathlib.Core.Path.{◌≡◌, subst}
use mathlib.Core.List.{List}
use Prim.Native.Nat.{ℕ, ◌≤◌, ◌<◌, ◌-◌}
use native.Mathlib.Omega.{arith}
use borrow.Author.Rules.{rules}
use Rattle.search.specs.Moves.{Begun}
use Rattle.search.specs.inner.Taking.{Taking}
use Rattle.search.proofs.Beginning.{begun_none, begun_more}
use Rattle.search.proofs.begin.Statement.{statement}
use Rattle.search.proofs.begin.Tie as tie

abbrev invariant-loop : tie.invariant-loop-m
invariant-loop lefts darts faces potentials₀ parents₀ waiting₀ queue roots taken m₀ potentials parents waiting m =
    ((proposal : List ℕ) (number : ℕ) → Taking lefts darts proposal faces parents₀ number
    → Begun lefts darts faces proposal potentials parents waiting queue m)
    × (m ≤ roots)

abbrev decreases-loop : tie.decreases-loop-m
decreases-loop lefts darts faces potentials₀ parents₀ waiting₀ queue roots taken m₀ potentials parents waiting m = roots - m

loop-holds : tie.Need-loop-m-init invariant-loop decreases-loop
loop-holds c =
    let s = c in
    let p = s.requires in
    (λ proposal number t. begun_none s.args.queue.now p.0 t.size p.2 p.7 t.taken t.rest p.8, omega arith)

abbrev start : tie.After-wide-f invariant-loop decreases-loop → tie.Start invariant-loop decreases-loop
start c = c.before.before.before.before.before.before.before

m-in : (c : tie.In-loop-m invariant-loop decreases-loop) → c.loop-m.m < 1024
m-in c = omega (arith, c.loop-m-test.true, c.requires.3)

root_in : (c : tie.After-wide-f invariant-loop decreases-loop) → c.wide-f.result < 1024
root_in c = omega (arith, c.wide-f.ensures, (start c).requires.4 c.loop-m.m c.loop-m-test.true)

loop-again : tie.Need-loop-m-preserved invariant-loop decreases-loop
loop-again c = (
  λ proposal number t.
      begun_more (start c.before.before).args.queue.now c.wide-f.result c.wide-f.ensures (root_in c.before.before) (c.loop-m.invariant.0 proposal number t),
  omega (arith, c.loop-m-test.true),
)

returns : tie.Need-returns invariant-loop decreases-loop
returns c =
    let l = c.loop-m in
    let k = c in
    let s = k in
    let e = k.take_proposed-taken.ensures in
    let all : l.m ≡ s.args.roots = omega (arith, c.loop-m-test.false, l.invariant.1) in (
      subst
          (Begun s.args.lefts.now s.args.darts s.args.faces s.args.parents.now l.potentials l.parents l.waiting
          s.args.queue.now) all
          (l.invariant.0 s.args.parents.now k.take_proposed-taken.result e),
      e.counted,
    )

pub begin_spec : {M : Type 1} → statement M
begin_spec =
    tie.close
    (tie.spec
    invariant-loop
    decreases-loop
    (λ c κs. let p = c.requires in (p.1, p.5, p.6))
    loop-holds
    (λ c. record { fits = omega (arith, m-in c) })
    (λ c. m-in c.before)
    (λ c κs. search rules)
    (λ c. record { fits = omega (arith, root_in c) })
    (λ c. root_in c)
    (λ c. record { fits = omega (arith, root_in c) })
    (λ c. root_in c.before)
    (λ c. root_in c.before.before)
    (λ c. record { fits = omega (arith, m-in c.before.before.before.before.before) })
    (λ c. omega (arith, c.loop-m-test.true))
    loop-again
    returns)
