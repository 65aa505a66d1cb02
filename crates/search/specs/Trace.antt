-- How the search goes, look by look. What it leaves follows from what it is given: `one_end` of `specs/Statements.antt`. The configurations that a run comes to
-- are the moments "between looks" of which document 02, Job 3, speaks.
use Rattle.std.specs.Prelude.{◌≡◌, cond, List, ℕ, ◌+◌, ◌-◌, ◌/◌, ◌<◌, eqb, ℤ, Ok, Err}
use Rattle.search.specs.Moves.{taken_from, Begun}
use Rattle.search.specs.Given.{Given}
use Rattle.search.specs.Configuration.{Tables, tables_of, Configuration, configuration, front}
use Rattle.search.specs.Look.{LookAt}
use Rattle.search.specs.Straightening.{unmarked, Straightens}
use Rattle.search.specs.Outcome.{Outcome}

-- the looks between two straightenings: 3/2 as many as there are faces, and one at least. Free to choose: whatever it is, the search ends with one of its
-- answers.
abbrev pub period : ℕ → ℕ
period faces = faces + faces / 2 + 1

-- a look, or a straightening
pub data Step (G : Given) : Configuration → Configuration → Type 0 where
  look : {c : Configuration} {u : Tables} → 0 < c.left → c.first < c.tables.last → LookAt G (front c) c.tables u
      → Step G c (configuration u (c.first + 1) (c.left - 1))
  straighten : {c : Configuration} {u : Tables} → c.left ≡ 0
      → Straightens G.lefts G.lengths G.darts G.faces 0 unmarked c.tables u (Ok u.last)
      → Step G c (configuration u c.first (period G.faces))

pub data Goes (G : Given) : Configuration → Configuration → Type 0 where
  stay : {c : Configuration} → Goes G c c
  go : {c d e : Configuration} → Step G c d → Goes G d e → Goes G c e

-- how it ends, and what it leaves: no face waits, or a straightening comes to a ring
abbrev pub Ends : Given → Configuration → Tables → Outcome → Type 0
Ends G c u (Ok _) = (0 < c.left) × (c.first ≡ c.tables.last) × (u ≡ c.tables)
Ends G c u (Err r) = (c.left ≡ 0) × Straightens G.lefts G.lengths G.darts G.faces 0 unmarked c.tables u (Err r)

-- the looks before the first straightening: none where some face has a parent of the proposal, so that the first levels are laid; else there is nothing to lay
abbrev pub first_looks : (faces taken : ℕ) → ℕ
first_looks faces taken = cond (eqb taken 0) (period faces) 0

-- the roots stand at the first places of the queue
abbrev pub start : Given → (proposal : List ℕ) (potentials : List ℤ) (parents waiting queue : List ℕ) (roots : ℕ) → Configuration
start G proposal potentials parents waiting queue roots =
    configuration (tables_of potentials parents waiting queue roots) 0 (first_looks G.faces (taken_from G.lefts G.darts G.faces proposal))

-- the search as a whole, from the roots and the parents that are proposed to potentials, parents and an answer
pub record Searches (G : Given) (queue : List ℕ) (roots : ℕ) (proposal : List ℕ) (potentials : List ℤ) (parents : List ℕ) (o : Outcome) : Type 0 where
  pub first_potentials : List ℤ
  pub first_parents : List ℕ
  pub first_waiting : List ℕ
  pub begun : Begun G.lefts G.darts G.faces proposal first_potentials first_parents first_waiting queue roots
  pub end : Configuration
  pub run : Goes G (start G proposal first_potentials first_parents first_waiting queue roots) end
  pub left : Tables
  pub ended : Ends G end left o
  pub potentials_are : left.potentials ≡ potentials
  pub parents_are : left.parents ≡ parents
