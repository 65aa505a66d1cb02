-- What the search keeps true on its way. Only contracts of private functions cite this file: who reads the search's own can pass it by.
use Rattle.std.specs.Prelude.{◌≡◌, List, ℕ, suc, ◌+◌, ◌-◌, ◌*◌, ◌≤◌, ◌<◌, length, ℤ, pos, negsuc, ◌+ℤ◌, ◌≤ℤ◌}
use Rattle.std.specs.Int.Signed.{mag}
use Rattle.integers.specs.Sum.{sumℕ}
use Rattle.maps.specs.Orbit.{iter}
use Rattle.arrays.specs.At.{at, atℤ}
use Rattle.search.specs.Dual.{Dual, WellFormed, longest}
use Rattle.search.specs.Parents.{up}
use Rattle.search.specs.inner.Walk.{Walk}
use Rattle.search.specs.Level.{HasLevel}
use Rattle.search.specs.Queue.{face_at, Stands}
use Rattle.search.specs.Configuration.{Tables}

-- No level is longer than b darts. There are numbers for each face, which no array holds: when it last fell.
pub record State (N : Dual) (ρ : ℕ → ℤ) (parent waiting : ℕ → ℕ) (b : ℕ) : Type 0 where
  pub time : ℕ
  pub fell : ℕ → ℕ
  pub fell_by : (f : ℕ) → fell f ≤ time
  -- a parent leads to its face; of a face with a level the face across the parent has one too; the face is no lower than the parent would have it, and where it
  -- is just as low it fell later
  pub left_is : (f : ℕ) → f < N.faces → parent f < N.darts → N.left (parent f) ≡ f
  pub above : (f : ℕ) → f < N.faces → parent f < N.darts → HasLevel ρ f → HasLevel ρ (N.right (parent f))
  pub low : (f : ℕ) → f < N.faces → parent f < N.darts → HasLevel ρ f → (ρ (N.right (parent f)) +ℤ N.length (parent f)) ≤ℤ ρ f
  pub later : (f : ℕ) → f < N.faces → parent f < N.darts → HasLevel ρ f → ρ (N.right (parent f)) +ℤ N.length (parent f) ≡ ρ f
      → fell (N.right (parent f)) < fell f
  -- a face with a level and no parent is a root that never fell
  pub orphan : (f : ℕ) → f < N.faces → N.darts ≤ parent f → HasLevel ρ f → ρ f ≡ pos 0
  pub reached : (f : ℕ) → f < N.faces → HasLevel ρ f → (mag (ρ f) ≤ b * longest) × Walk N f (ρ f)
  pub waits : (f : ℕ) → f < N.faces → waiting f ≡ 1 → HasLevel ρ f
  pub root_low : (m : ℕ) → m < N.roots → ρ (N.root m) ≤ℤ pos 0

-- a dart that can lower a potential is among those still open, or its right face waits or is not reached
pub record Quiet (N : Dual) (ρ : ℕ → ℤ) (waiting : ℕ → ℕ) (still_Open : ℕ → Type 0) : Type 0 where
  pub quiet : (d : ℕ) → d < N.darts → (still_Open d → ⊥) → (waiting (N.right d) ≡ 1 → ⊥) → HasLevel ρ (N.right d)
      → ρ (N.left d) ≤ℤ (ρ (N.right d) +ℤ N.length d)

-- what stands in the queue: faces, each once, and just those that are flagged as waiting
pub record Line (faces : ℕ) (waiting queue : List ℕ) (first last : ℕ) : Type 0 where
  pub inside : (i : ℕ) → first ≤ i → i < last → face_at queue i < faces
  pub once : (i j : ℕ) → first ≤ i → i < j → j < last → face_at queue i ≡ face_at queue j → ⊥
  pub flagged : (i : ℕ) → first ≤ i → i < last → at waiting (face_at queue i) ≡ 1
  pub stands : (f : ℕ) → f < faces → at waiting f ≡ 1 → Stands queue first last f

-- ── what a search has left to fall: each fall takes one of it at least, and brings one face to wait at most ──
abbrev pub lowest : ℕ
lowest = 1600000000000000

unfoldable pub height : ℤ → ℕ
height (pos a) = a + lowest
height (negsuc a) = lowest - suc a

abbrev pub heights : ℕ → List ℤ → ℕ
heights faces potentials = sumℕ faces (λ f. height (atℤ potentials f))

abbrev pub most : ℕ
most = 4000000000000000000

-- how the arrays stand: the faces at the places from `first` on wait, and only the darts that are still open and those of the faces that wait can lower
pub record Stage (N : Dual) (t : Tables) (first b : ℕ) (still_Open : ℕ → Type 0) : Type 0 where
  pub size_potentials : length t.potentials ≡ 1024
  pub size_parents : length t.parents ≡ 1024
  pub size_waiting : length t.waiting ≡ 1024
  pub size_queue : length t.queue ≡ 1024
  pub ordered : first ≤ t.last
  pub spent : t.last + heights N.faces t.potentials ≤ most
  pub state : State N (atℤ t.potentials) (at t.parents) (at t.waiting) b
  pub line : Line N.faces t.waiting t.queue first t.last
  pub quiet : Quiet N (atℤ t.potentials) (at t.waiting) still_Open

-- between looks, and within a straightening: no dart is open
abbrev pub Passing : (N : Dual) (t : Tables) (first b : ℕ) → Type 0
Passing N t first b = Stage N t first b (λ d. ⊥)

-- the same with some roots, and the face i at the first place: what a look asks
pub record Looking (dual : List ℕ → Dual) (t : Tables) (i : ℕ) : Type 0 where
  pub roots : List ℕ
  pub sound : WellFormed (dual roots)
  pub first : ℕ
  pub bound : ℕ
  pub few : bound + 1024 < 1600000
  pub some : first < t.last
  pub front_is : i ≡ face_at t.queue first
  pub passing : Passing (dual roots) t first bound

-- On the way down the ascent from f: the faces before place k have not followed their parents yet, and the one at place k is no more than `deep` darts long.
-- `rest` faces were not met.
pub record Descending (N : Dual) (t : Tables) (first b : ℕ) (upward : ℕ → ℕ) (f k deep rest : ℕ) : Type 0 where
  pub passing : Passing N t first b
  pub inside : (j : ℕ) → j ≤ k → iter upward j f < N.faces
  pub onward : (j : ℕ) → j < k → at t.parents (iter upward j f) < N.darts
  pub across : (j : ℕ) → j < k → N.right (at t.parents (iter upward j f)) ≡ iter upward (suc j) f
  pub apart : (i j : ℕ) → i < j → j < k → iter upward i f ≡ iter upward j f → ⊥
  pub near : HasLevel (atℤ t.potentials) (iter upward k f) → mag (atℤ t.potentials (iter upward k f)) ≤ deep * longest
  pub room : deep + rest + k ≤ N.faces

-- the same with some roots; the faces have links down, and `from` is the last of them
pub record Lowering (dual : List ℕ → Dual) (t : Tables) (f count from : ℕ) (links : List ℕ) : Type 0 where
  pub roots : List ℕ
  pub sound : WellFormed (dual roots)
  pub first : ℕ
  pub bound : ℕ
  pub wide : 1024 ≤ bound
  pub few : bound < 1600000
  pub deep : ℕ
  pub rest : ℕ
  pub descending : Descending (dual roots) t first bound (up (dual roots).right (at t.parents)) f count deep rest
  pub size_links : length links ≡ 1024
  pub linked : (k : ℕ) → k < count → at links (iter (up (dual roots).right (at t.parents)) k f) ≡ iter (up (dual roots).right (at t.parents)) (k - 1) f
  pub from_is : from ≡ iter (up (dual roots).right (at t.parents)) (count - 1) f

-- the same for a whole straightening
pub record Straightening (dual : List ℕ → Dual) (t : Tables) : Type 0 where
  pub roots : List ℕ
  pub sound : WellFormed (dual roots)
  pub first : ℕ
  pub bound : ℕ
  pub wide : 1024 ≤ bound
  pub few : bound < 1600000
  pub passing : Passing (dual roots) t first bound
