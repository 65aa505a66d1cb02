use Rattle.std.proofs.Common.{◌≡◌, ℕ, ◌+◌, ◌-◌, ◌*◌, ◌≤◌, ◌<◌, List, length, take, refl, ◌∙◌, ap, subst, arith, Ok, Err}
use lib.IntN.{ℤ}
use Rattle.search.specs.Dual.{WellFormed, Joined}
use Rattle.search.specs.inner.Answer.{Answer}
use Rattle.search.specs.inner.Progress.{heights}
use Rattle.search.specs.Given.{Given, given, dual, InGroups}
use Rattle.search.specs.Configuration.{Tables, tables_of, Configuration, configuration}
use Rattle.search.specs.Moves.{taken_from, Begun}
use Rattle.search.specs.Outcome.{Outcome}
use Rattle.search.specs.Trace.{Goes, stay, first_looks, start, Ends, Searches}
use Rattle.search.proofs.Run.{PassingAt, bound, bound_wide, bound_few, bound_look, goes_passing, looks, straightens, goes_then, goes_on}
use Rattle.search.proofs.Between.{goes_kept}
use Rattle.search.proofs.Ending.{start_passing, answered}
use Rattle.search.proofs.search.Goals as goal

-- a search that has come somewhere, as the code comes by it
module _ (G : Given) (queue proposal : List ℕ) (roots : ℕ) (size : length queue ≡ 1024) (few : roots ≤ 1024)
    (sound : WellFormed (dual G (take roots queue))) (joined : Joined (dual G (take roots queue))) (g : InGroups G)
    {potentials : List ℤ} {parents waiting : List ℕ} {left taken : ℕ}
    (begun : Begun G.lefts G.darts G.faces proposal potentials parents waiting queue roots × (taken ≡ taken_from G.lefts G.darts G.faces proposal))
    (is : left ≡ first_looks G.faces taken) where
  abbrev begin : Configuration
  begin = configuration (tables_of potentials parents waiting queue roots) 0 left

  run_of : {c : Configuration} → Goes G begin c → Goes G (start G proposal potentials parents waiting queue roots) c
  run_of {c} p =
      subst (λ n. Goes G (configuration (tables_of potentials parents waiting queue roots) 0 n) c) (is ∙ ap (first_looks G.faces) begun.1) p

  come : {c : Configuration} → Goes G begin c → PassingAt (dual G (take roots queue)) c
  come p = goes_passing G (take roots queue) sound g (start_passing G queue roots size few sound joined g begun.0) (run_of p)

  ends : {c : Configuration} (u : Tables) (o : Outcome) → Goes G begin c → Ends G c u o
      → Answer (dual G (take roots queue)) u.potentials u.parents o × Searches G queue roots proposal u.potentials u.parents o
  ends {c} u o p e =
      let w : Searches G queue roots proposal u.potentials u.parents o = record {
        first_potentials = potentials;
        first_parents = parents;
        first_waiting = waiting;
        begun = begun.0;
        end = c;
        run = run_of p;
        left = u;
        ended = e;
        potentials_are = refl;
        parents_are = refl;
      } in
      (answered G queue roots size few sound joined g w, w)

  -- a round takes of what is left to fall
  less : {c d : Configuration} → Goes G begin c → Goes G c d → 0 < d.left → d.first ≡ c.first + c.left
      → 2 * (heights G.faces d.tables.potentials + heights G.faces d.tables.potentials + (d.tables.last - d.first)) + (1 - d.left)
      < 2 * (heights G.faces c.tables.potentials + heights G.faces c.tables.potentials + (c.tables.last - c.first)) + (1 - c.left)
  less {c} {d} p q some moved =
      let k = (goes_kept G (take roots queue) sound g (come p) q).1 in
      omega (arith, k.longer, k.spends, (come (goes_then p q)).passing.ordered, (come p).passing.ordered)

left_is : {G : Given} {c : Configuration} {t : Tables} {first m n : ℕ} → m ≡ n → Goes G c (configuration t first m) → Goes G c (configuration t first n)
left_is {G} {c} {t} {first} e p = subst (λ n. Goes G c (configuration t first n)) e p

pub search-init : goal.search-init
search-init c = stay

pub loop-k-init : goal.loop-k-init
loop-k-init c = record { goes = left_is (omega arith) stay; taken = omega arith }

-- ── looks ──
pub look-last-requires : goal.look-last-requires
look-last-requires c =
    let a = c.args in
    let p = c.requires in
    let o = c.loop-k in
    let left = c.search.left - o._k in
    let G = given a.lefts.now a.lengths.now a.order.now a.starts.now a.darts a.faces in
    let r = come G a.queue.now a.parents.now a.roots p.6 p.7 p.0 p.1 p.2 c.begin-taken.ensures c.first_looks-left.ensures
    (goes_then c.search.invariant o.invariant.goes) in (
      record {
        roots = take a.roots a.queue.now;
        sound = p.0;
        first = o.first;
        bound = bound a.faces left;
        few = bound_look a.faces left p.0.few_faces (omega (arith, c.loop-k-test.true)) r.in-period;
        some = omega (arith, c.if-first-last.false, r.passing.ordered);
        front_is = c.wide-i.ensures;
        passing = r.passing;
      },
      p.2,
    )

pub overflow_add-first : goal.overflow_add-first
overflow_add-first c =
    let a = c.args in
    let p = c.requires in
    let G = given a.lefts.now a.lengths.now a.order.now a.starts.now a.darts a.faces in
    let r = come G a.queue.now a.parents.now a.roots p.6 p.7 p.0 p.1 p.2 c.begin-taken.ensures c.first_looks-left.ensures
    (goes_then c.search.invariant c.loop-k.invariant.goes) in
    omega (arith, r.passing.ordered, r.passing.spent)

pub loop-k-preserved : goal.loop-k-preserved
loop-k-preserved c =
    let a = c.args in
    let p = c.requires in
    let o = c.loop-k in
    let left = c.search.left - o._k in
    let G = given a.lefts.now a.lengths.now a.order.now a.starts.now a.darts a.faces in
    let r = come G a.queue.now a.parents.now a.roots p.6 p.7 p.0 p.1 p.2 c.begin-taken.ensures c.first_looks-left.ensures
    (goes_then c.search.invariant o.invariant.goes) in
    let now = configuration (tables_of o.potentials o.parents o.waiting o.queue o.last) o.first left in
    record {
      goes = left_is (omega arith)
          (goes_on o.invariant.goes
          (looks {c = now} c.wide-i.result c.wide-i.ensures (omega (arith, c.loop-k-test.true)) (omega (arith, c.if-first-last.false, r.passing.ordered))
          c.look-last.ensures));
      taken = omega (arith, o.invariant.taken);
    }

-- ── the period is over: a straightening ──
pub straighten-pass-requires : goal.straighten-pass-requires
straighten-pass-requires c =
    let a = c.args in
    let p = c.requires in
    let o = c.loop-k in
    let left = c.search.left - o._k in
    let G = given a.lefts.now a.lengths.now a.order.now a.starts.now a.darts a.faces in
    let r = come G a.queue.now a.parents.now a.roots p.6 p.7 p.0 p.1 p.2 c.begin-taken.ensures c.first_looks-left.ensures
    (goes_then c.search.invariant o.invariant.goes) in
    record {
      roots = take a.roots a.queue.now;
      sound = p.0;
      first = o.first;
      bound = bound a.faces left;
      wide = bound_wide a.faces left;
      few = bound_few a.faces left p.0.few_faces;
      passing = r.passing;
    }

pub returns-in-Err : goal.returns-in-Err
returns-in-Err c =
    let a = c.args in
    let p = c.requires in
    let o = c.loop-k in
    let n = c.straighten-pass.new in
    let G = given a.lefts.now a.lengths.now a.order.now a.starts.now a.darts a.faces in
    let w = c.in-Err.ensures in
    ends G a.queue.now a.parents.now a.roots p.6 p.7 p.0 p.1 p.2 c.begin-taken.ensures c.first_looks-left.ensures
    (tables_of n.potentials n.parents n.waiting n.queue w.0) (Err c.in-Err.ring)
    (goes_then c.search.invariant o.invariant.goes) (omega (arith, c.loop-k-test.false), w.1)

pub search-smaller : goal.search-smaller
search-smaller c =
    let a = c.args in
    let p = c.requires in
    let o = c.loop-k in
    let G = given a.lefts.now a.lengths.now a.order.now a.starts.now a.darts a.faces in
    let left = c.search.left - o._k in
    let now = configuration (tables_of o.potentials o.parents o.waiting o.queue o.last) o.first left in
    let q = goes_on o.invariant.goes
    (straightens G now (omega (arith, c.loop-k-test.false)) _ _ _ _ _ _ c.straighten-pass.result c.in-Ok.is c.straighten-pass.ensures.1) in
    less G a.queue.now a.parents.now a.roots p.6 p.7 p.0 p.1 p.2 c.begin-taken.ensures c.first_looks-left.ensures c.search.invariant q (omega arith)
    (omega (arith, o.invariant.taken, c.loop-k-test.false))

pub search-preserved : goal.search-preserved
search-preserved c =
    let a = c.args in
    let o = c.loop-k in
    let G = given a.lefts.now a.lengths.now a.order.now a.starts.now a.darts a.faces in
    let left = c.search.left - o._k in
    let now = configuration (tables_of o.potentials o.parents o.waiting o.queue o.last) o.first left in
    goes_then c.search.invariant (goes_on o.invariant.goes
    (straightens G now (omega (arith, c.loop-k-test.false)) _ _ _ _ _ _ c.straighten-pass.result c.in-Ok.is c.straighten-pass.ensures.1))

-- ── no face waits ──
pub returns-then-first-last : goal.returns-then-first-last
returns-then-first-last c =
    let a = c.args in
    let p = c.requires in
    let o = c.loop-k in
    let G = given a.lefts.now a.lengths.now a.order.now a.starts.now a.darts a.faces in
    ends G a.queue.now a.parents.now a.roots p.6 p.7 p.0 p.1 p.2 c.begin-taken.ensures c.first_looks-left.ensures
    (tables_of o.potentials o.parents o.waiting o.queue o.last) (Ok tt)
    (goes_then c.search.invariant o.invariant.goes) (omega (arith, c.loop-k-test.true), c.if-first-last.true, refl)
