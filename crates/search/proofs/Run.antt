-- A run of the search, from its steps alone: what holds between looks at first holds in every configuration that it passes.
use mathlib.Core.Path.{◌≡◌, refl, sym, subst}
use mathlib.Core.List.{List}
use Prim.Native.Nat.{ℕ, ◌+◌, ◌-◌, ◌*◌, ◌≤◌, ◌<◌}
use native.Mathlib.Omega.{arith}
use Rattle.arrays.specs.At.{at}
use Rattle.search.specs.Dual.{Dual, WellFormed}
use Rattle.search.specs.Given.{Given, dual, InGroups, end_at}
use lib.IntN.{ℤ}
use Rattle.search.specs.Configuration.{Tables, tables_of, Configuration, configuration, front}
use Rattle.search.specs.Look.{Crosses, done, keep, lower, taken_up, LookAt}
use Rattle.search.specs.Straightening.{unmarked, Straightens, end, next}
use Rattle.search.specs.Trace.{period, Step, look, straighten, Goes, stay, go}
use Rattle.search.specs.inner.Progress.{Passing}
use Rattle.search.proofs.Stages.{stage_weaken}
use Rattle.search.proofs.Trying.{Trying, begin_trying, try_keep, try_lower, tried}
use Rattle.search.proofs.Sweeping.{swept_none, swept_straight}
use Rattle.search.specs.declared.Ring.{Ring}
use Rattle.std.proofs.Common.{Ok, Result}

-- how many darts a level is long at most: each look may add as many as a face has
abbrev pub bound : ℕ → ℕ → ℕ
bound faces left = 1024 * (1 + (period faces - left))

pub record PassingAt (N : Dual) (c : Configuration) : Type 0 where
  pub in-period : c.left ≤ period N.faces
  pub passing : Passing N c.tables c.first (bound N.faces c.left)

pub bound_wide : (faces left : ℕ) → 1024 ≤ bound faces left
bound_wide faces left = omega arith

pub bound_few : (faces left : ℕ) → faces ≤ 1024 → bound faces left < 1600000
bound_few faces left l = omega arith

pub bound_look : (faces left : ℕ) → faces ≤ 1024 → 0 < left → left ≤ period faces → bound faces left + 1024 < 1600000
bound_look faces left l s m = omega arith

module _ (G : Given) (roots : List ℕ) (sound : WellFormed (dual G roots)) (g : InGroups G) where
  crosses_passing : {first b i j : ℕ} {t u : Tables} → Trying (dual G roots) G.order G.starts t first b i j
      → Crosses G i (end_at G i) j t u → Passing (dual G roots) u (first + 1) (b + 1024)
  crosses_passing r (done l) = tried sound g r l
  crosses_passing {j = j} r (keep l a q) = crosses_passing (try_keep sound g r (at G.order j) l refl a.2) q
  crosses_passing {j = j} r (lower {u = v} l a p q) = crosses_passing (try_lower sound g r (at G.order j) l refl v a.0 a.1 a.2 p) q

  -- what a look begins with
  pub look_trying : (c : Configuration) → PassingAt (dual G roots) c → 0 < c.left → c.first < c.tables.last
      → Trying (dual G roots) G.order G.starts (taken_up (front c) c.tables) c.first (bound G.faces c.left) (front c)
      (at G.starts (front c))
  look_trying c r l m = begin_trying sound g r.passing (bound_look G.faces c.left sound.few_faces l r.in-period) m (front c) refl

  pub step_passing : {c d : Configuration} → PassingAt (dual G roots) c → Step G c d → PassingAt (dual G roots) d
  step_passing {c} r (look l m q) = record {
    in-period = omega (arith, r.in-period);
    passing =
        stage_weaken (λ d. ⊥) (λ d. ⊥) (bound G.faces (c.left - 1)) (omega (arith, r.in-period)) (λ d h e. e)
        (crosses_passing (look_trying c r l m) q);
  }
  step_passing {c} r (straighten l s) = record {
    in-period = omega arith;
    passing =
        stage_weaken (λ d. ⊥) (λ d. ⊥) (bound G.faces (period G.faces)) (omega arith) (λ d h e. e)
        (swept_straight G.lefts G.lengths G.darts G.faces roots sound (bound_wide G.faces c.left)
        (bound_few G.faces c.left sound.few_faces)
        (swept_none G.lefts G.lengths G.darts G.faces roots sound r.passing) s).1;
  }

  pub goes_passing : {c d : Configuration} → PassingAt (dual G roots) c → Goes G c d → PassingAt (dual G roots) d
  goes_passing r stay = r
  goes_passing r (go s p) = goes_passing (step_passing r s) p

-- ── the steps, as the code comes by them ──
-- a straightening that ends straight tells the end of the queue
straight_last : {lefts : List ℕ} {lengths : List ℤ} {darts faces f e : ℕ} {marks : List ℕ} {t u : Tables}
    → Straightens lefts lengths darts faces f marks t u (Ok e) → e ≡ u.last
straight_last (end l q) = q
straight_last (next count l a c q w) = straight_last w

pub looks : {G : Given} {c : Configuration} {u : Tables} (i : ℕ) → i ≡ front c → 0 < c.left → c.first < c.tables.last → LookAt G i c.tables u
    → Step G c (configuration u (c.first + 1) (c.left - 1))
looks {G} {c} {u} i e l m q = look l m (subst (λ x. LookAt G x c.tables u) e q)

pub straightens : (G : Given) (c : Configuration) → c.left ≡ 0 → (ρ : List ℤ) (parents waiting queue : List ℕ) (x e : ℕ) (o : Result ℕ Ring)
    → o ≡ Ok e
    → Straightens G.lefts G.lengths G.darts G.faces 0 unmarked c.tables (tables_of ρ parents waiting queue x) o
    → Step G c (configuration (tables_of ρ parents waiting queue e) c.first (period G.faces))
straightens G c l ρ parents waiting queue x e o is w =
    let v = subst (Straightens G.lefts G.lengths G.darts G.faces 0 unmarked c.tables (tables_of ρ parents waiting queue x)) is w in
    straighten l
    (subst (λ y. Straightens G.lefts G.lengths G.darts G.faces 0 unmarked c.tables (tables_of ρ parents waiting queue y)
    (Ok e)) (sym (straight_last v)) v)

-- ── runs joined ──
pub goes_then : {G : Given} {c d e : Configuration} → Goes G c d → Goes G d e → Goes G c e
goes_then stay q = q
goes_then (go s p) q = go s (goes_then p q)

pub goes_on : {G : Given} {c d e : Configuration} → Goes G c d → Step G d e → Goes G c e
goes_on p s = goes_then p (go s stay)
