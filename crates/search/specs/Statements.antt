-- Document 02, Job 3, "Work where a level fell", as a record: a field for each statement, with the paper's words above it. Each is about every search and every
-- moment between its looks: all that a field knows of a search is what the contract of `search` asks, and the steps of `Searches`, which it promises. The
-- proofs are in proofs/Statements.antt.
use Rattle.std.specs.Prelude.{◌≡◌, ◌⊎◌, ◌↔◌, List, ℕ, ◌≤◌, ◌<◌, length, take, ℤ}
use Rattle.arrays.specs.At.{atℤ}
use Rattle.search.specs.Dual.{WellFormed, Joined}
use Rattle.search.specs.Level.{CanLower}
use Rattle.search.specs.Moves.{Begun}
use Rattle.search.specs.Given.{Given, dual, InGroups}
use Rattle.search.specs.Configuration.{Tables, Configuration, configuration, front}
use Rattle.search.specs.Straightening.{unmarked, Within}
use Rattle.search.specs.Trace.{Goes, start, Searches}
use Rattle.search.specs.History.{Event, history, first_levels, FellSince}
use Rattle.search.specs.Waiting.{WaitsAt, Waits}
use Rattle.search.specs.Outcome.{Outcome}

-- a search from the faces at the first places of `queue`, with some parents proposed, has come to c, between two looks
pub record ComesTo (G : Given) (queue : List ℕ) (roots : ℕ) (c : Configuration) : Type 0 where
  pub sound : WellFormed (dual G (take roots queue))
  pub joined : Joined (dual G (take roots queue))
  pub in-groups : InGroups G
  pub size : length queue ≡ 1024
  pub few : roots ≤ 1024
  pub proposal : List ℕ
  pub potentials : List ℤ
  pub parents : List ℕ
  pub waiting : List ℕ
  pub begun : Begun G.lefts G.darts G.faces proposal potentials parents waiting queue roots
  pub run : Goes G (start G proposal potentials parents waiting queue roots) c

-- what happened until then, the latest first
abbrev pub past : {G : Given} {queue : List ℕ} {roots : ℕ} {c : Configuration} → ComesTo G queue roots c → List Event
past {queue = queue} {roots = roots} h = history h.run (first_levels queue roots)

pub record WhereALevelFell : Type 0 where
  -- "take up only faces whose level fell since they were last looked at": of the face that is looked at next
  pub taken_up_fell : (G : Given) (queue : List ℕ) (roots : ℕ) (c : Configuration) (h : ComesTo G queue roots c)
      → c.first < c.tables.last → FellSince (front c) (past h)
  -- "first come first": who waits at c keeps his place until the looks have come to it, and looks go place by place; ..
  pub keeps_place : (G : Given) (queue : List ℕ) (roots : ℕ) (c d : Configuration) → ComesTo G queue roots c → Goes G c d
      → (i f : ℕ) → WaitsAt c i f → d.first ≤ i → WaitsAt d i f
  -- .. and who comes later stands behind all that waited at c
  pub comes_behind : (G : Given) (queue : List ℕ) (roots : ℕ) (c d : Configuration) → ComesTo G queue roots c → Goes G c d
      → (i f : ℕ) → WaitsAt d i f → WaitsAt c i f ⊎ (c.tables.last ≤ i)
  -- "between looks, no face waits twice"
  pub waits_once : (G : Given) (queue : List ℕ) (roots : ℕ) (c : Configuration) → ComesTo G queue roots c
      → (i j f : ℕ) → WaitsAt c i f → WaitsAt c j f → i ≡ j
  -- "and a dart can lower a level only from a face that waits"
  pub lowers_from_waiting : (G : Given) (queue : List ℕ) (roots : ℕ) (c : Configuration) → ComesTo G queue roots c
      → (d : ℕ) → d < G.darts → CanLower (dual G (take roots queue)) (atℤ c.tables.potentials) d → Waits c ((dual G (take roots queue)).right d)
  -- a face waits exactly when it fell since it was last looked at; "a first level counts as a fall" (`first_levels`)
  pub waits_exactly : (G : Given) (queue : List ℕ) (roots : ℕ) (c : Configuration) (h : ComesTo G queue roots c)
      → (f : ℕ) → Waits c f ↔ FellSince f (past h)
  -- Within a straightening too, which is between two looks: at each of its moments u, first levels being laid or levels falling, no face waits twice, a dart
  -- can lower a level only from a face that waits, and who waited when it began waits where it stood.
  pub straightening_once : (G : Given) (queue : List ℕ) (roots : ℕ) (c : Configuration) → ComesTo G queue roots c → c.left ≡ 0
      → (u : Tables) → Within G.lefts G.lengths G.darts G.faces 0 unmarked c.tables u
      → (i j f : ℕ) → WaitsAt (configuration u c.first 0) i f → WaitsAt (configuration u c.first 0) j f → i ≡ j
  pub straightening_lowers : (G : Given) (queue : List ℕ) (roots : ℕ) (c : Configuration) → ComesTo G queue roots c → c.left ≡ 0
      → (u : Tables) → Within G.lefts G.lengths G.darts G.faces 0 unmarked c.tables u
      → (d : ℕ) → d < G.darts → CanLower (dual G (take roots queue)) (atℤ u.potentials) d
      → Waits (configuration u c.first 0) ((dual G (take roots queue)).right d)
  pub straightening_keeps : (G : Given) (queue : List ℕ) (roots : ℕ) (c : Configuration) → ComesTo G queue roots c → c.left ≡ 0
      → (u : Tables) → Within G.lefts G.lengths G.darts G.faces 0 unmarked c.tables u
      → (i f : ℕ) → WaitsAt c i f → WaitsAt (configuration u c.first 0) i f
  -- what the search leaves follows from what it is given
  pub one_end : (G : Given) (queue : List ℕ) (roots : ℕ) (proposal : List ℕ) (potentials potentials' : List ℤ) (parents parents' : List ℕ) (o o' : Outcome)
      → Searches G queue roots proposal potentials parents o → Searches G queue roots proposal potentials' parents' o'
      → (o ≡ o') × (potentials ≡ potentials') × (parents ≡ parents')
