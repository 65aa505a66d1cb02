-- What a search answers follows from how it goes: settled potentials, or a ring.
use mathlib.Core.Path.{◌≡◌, subst}
use mathlib.Core.Bool.{Bool, true, false, cond}
use mathlib.Core.List.{List}
use Prim.Native.Nat.{ℕ, ◌≤◌}
use native.Mathlib.Omega.{arith}
use lib.Dec.{eqb}
use lib.ListN.{length, take}
use lib.IntN.{ℤ}
use Rattle.arrays.specs.At.{atℤ}
use Rattle.search.specs.Dual.{WellFormed, Joined}
use Rattle.search.specs.inner.Settled.{Settled}
use Rattle.search.specs.inner.Answer.{Answer}
use Rattle.search.specs.Moves.{taken_from, Begun}
use Rattle.search.specs.Given.{Given, dual, InGroups}
use Rattle.search.specs.Configuration.{Tables, Configuration}
use Rattle.search.specs.Trace.{period, first_looks, start, Ends, Searches}
use Rattle.search.proofs.Reached.{settled}
use Rattle.search.proofs.Beginning.{begun_passing}
use Rattle.search.proofs.Sweeping.{swept_none, swept_ring}
use Rattle.search.proofs.Run.{PassingAt, bound, bound_wide, bound_few, goes_passing}
use Rattle.std.proofs.Common.{Ok, Err}
use Rattle.search.specs.Outcome.{Outcome}

module _ (G : Given) (roots : List ℕ) (sound : WellFormed (dual G roots)) where
  module _ (c : Configuration) (r : PassingAt (dual G roots) c) where
    end_settled : Joined (dual G roots) → c.first ≡ c.tables.last → Settled (dual G roots) (atℤ c.tables.potentials)
    end_settled joined e =
        settled sound joined r.passing.state r.passing.quiet
        (λ f l h. let s = r.passing.line.stands f l h in omega (arith, s.1, s.2)) (bound_few G.faces c.left sound.few_faces)

    pub end_answer : Joined (dual G roots) → (u : Tables) (o : Outcome) → Ends G c u o → Answer (dual G roots) u.potentials u.parents o
    end_answer joined u (Ok _) h = rw h.2 (end_settled joined h.1)
    end_answer joined u (Err x) h =
        swept_ring G.lefts G.lengths G.darts G.faces roots sound (bound_wide G.faces c.left)
        (bound_few G.faces c.left sound.few_faces)
        (swept_none G.lefts G.lengths G.darts G.faces roots sound r.passing) h.1

first_in : (faces taken : ℕ) → first_looks faces taken ≤ period faces
first_in faces taken = by (eqb taken 0)
  where
    by : (b : Bool) → cond b (period faces) 0 ≤ period faces
    by true = omega arith
    by false = omega arith

module _ (G : Given) (queue : List ℕ) (roots : ℕ) (size : length queue ≡ 1024) (few : roots ≤ 1024)
    (sound : WellFormed (dual G (take roots queue))) (joined : Joined (dual G (take roots queue))) (g : InGroups G) where
  -- the beginning
  pub start_passing : {proposal : List ℕ} {ρ : List ℤ} {parents waiting : List ℕ}
      → Begun G.lefts G.darts G.faces proposal ρ parents waiting queue roots
      → PassingAt (dual G (take roots queue)) (start G proposal ρ parents waiting queue roots)
  start_passing {proposal} b =
      let taken = taken_from G.lefts G.darts G.faces proposal in
      record {
        in-period = first_in G.faces taken;
        passing = begun_passing G queue roots size few sound joined b (bound G.faces (first_looks G.faces taken));
      }

  module _ {proposal : List ℕ} {potentials : List ℤ} {parents : List ℕ} {o : Outcome} (s : Searches G queue roots proposal potentials parents o) where
    at_end : PassingAt (dual G (take roots queue)) s.end
    at_end = goes_passing G (take roots queue) sound g (start_passing s.begun) s.run

    pub answered : Answer (dual G (take roots queue)) potentials parents o
    answered =
        subst (λ ρ. Answer (dual G (take roots queue)) ρ parents o) s.potentials_are
        (subst (λ p. Answer (dual G (take roots queue)) s.left.potentials p o) s.parents_are
        (end_answer G (take roots queue) sound s.end at_end joined s.left o s.ended))
