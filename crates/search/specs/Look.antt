-- A look at a face: it waits no more, the darts right of which it lies are crossed one after the other, and each face that falls comes to wait.
use Rattle.std.specs.Prelude.{true, false, ℕ, ◌+◌, ◌≤◌, ◌<◌, set}
use Rattle.arrays.specs.At.{at}
use Rattle.search.specs.Queue.{Pushed}
use Rattle.search.specs.Moves.{Relaxed}
use Rattle.search.specs.Given.{Given, end_at}
use Rattle.search.specs.Configuration.{Tables, tables_of}

-- the darts at places j, .., e − 1 of the order are crossed in turn from the face i: each lowers its left face, which comes to wait, or cannot
pub data Crosses (G : Given) (i e : ℕ) : ℕ → Tables → Tables → Type 0 where
  done : {j : ℕ} {t : Tables} → e ≤ j → Crosses G i e j t t
  keep : {j : ℕ} {t v : Tables} → j < e
      → Relaxed G.lefts G.lengths t.potentials t.parents t.potentials t.parents i (at G.order j) false
      → Crosses G i e (j + 1) t v → Crosses G i e j t v
  lower : {j : ℕ} {t u v : Tables} → j < e
      → Relaxed G.lefts G.lengths t.potentials t.parents u.potentials u.parents i (at G.order j) true
      → Pushed t.waiting t.queue u.waiting u.queue (at G.lefts (at G.order j)) t.last u.last
      → Crosses G i e (j + 1) u v → Crosses G i e j t v

-- the face i waits no more
abbrev pub taken_up : (i : ℕ) → Tables → Tables
taken_up i t = tables_of t.potentials t.parents (set t.waiting i 0) t.queue t.last

-- the look at the face i: it waits no more, and the darts right of which it lies are crossed
abbrev pub LookAt : (G : Given) (i : ℕ) → Tables → Tables → Type 0
LookAt G i t u = Crosses G i (end_at G i) (at G.starts i) (taken_up i t) u
