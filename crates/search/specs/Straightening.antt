-- A straightening: every face falls to the length of its own walk of parents. The faces are gone through by number. From each the parents are followed up,
-- through faces that were not met yet; then down again, each face follows its parent. A face that is met twice in one ascent is on a ring of parents.
use Rattle.std.specs.Prelude.{◌≡◌, true, false, List, ℕ, zero, suc, ◌+◌, ◌≤◌, ◌<◌, set, replicate, ℤ, Ok, Result}
use Rattle.maps.specs.Orbit.{iter}
use Rattle.arrays.specs.At.{at, atℤ}
use Rattle.arrays.specs.Maps.{right_of}
use Rattle.search.specs.Parents.{up}
use Rattle.search.specs.Level.{HasLevel, far}
use Rattle.search.specs.Queue.{Pushed}
use Rattle.search.specs.Moves.{Relaxed}
use Rattle.search.specs.Configuration.{Tables, tables_of}
use Rattle.search.specs.Outcome.{closed_by}
use Rattle.search.specs.declared.Ring.{Ring}

-- ── up ──
-- at first no face is marked: 1024 is the number of no face
abbrev pub unmarked : List ℕ
unmarked = replicate 1024 1024

-- the first k faces of the ascent from f are marked with f
unfoldable pub marked : (upward : ℕ → ℕ) (f k : ℕ) → List ℕ → List ℕ
marked upward f zero marks = marks
marked upward f (suc k) marks = set (marked upward f k marks) (iter upward k f) f

-- the ascent from f goes through `count` faces, each with a parent and not marked yet; the next one lacks a parent or is marked
pub record Ascent (upward : ℕ → ℕ) (darts : ℕ) (parents marks : List ℕ) (f count : ℕ) : Type 0 where
  pub onward : (k : ℕ) → k < count → (at parents (iter upward k f) < darts) × (at (marked upward f k marks) (iter upward k f) ≡ 1024)
  pub stops : at parents (iter upward count f) < darts → at (marked upward f count marks) (iter upward count f) ≡ 1024 → ⊥

-- ── down ──
-- the face y follows its parent: it falls to the level across it plus its length, and comes to wait, or it is there already; where the face across the parent
-- has no level, y is left without a parent
pub data Follows (lefts : List ℕ) (lengths : List ℤ) (y : ℕ) : Tables → Tables → Type 0 where
  leaves : {t : Tables} → atℤ t.potentials (right_of lefts (at t.parents y)) ≡ far
      → Follows lefts lengths y t (tables_of t.potentials (set t.parents y 1024) t.waiting t.queue t.last)
  keeps : {t : Tables} → HasLevel (atℤ t.potentials) (right_of lefts (at t.parents y))
      → Relaxed lefts lengths t.potentials t.parents t.potentials t.parents (right_of lefts (at t.parents y)) (at t.parents y) false
      → Follows lefts lengths y t t
  falls : {t u : Tables} → HasLevel (atℤ t.potentials) (right_of lefts (at t.parents y))
      → Relaxed lefts lengths t.potentials t.parents u.potentials u.parents (right_of lefts (at t.parents y)) (at t.parents y) true
      → Pushed t.waiting t.queue u.waiting u.queue y t.last u.last
      → Follows lefts lengths y t u

-- the first k faces of the ascent from f follow their parents, the last of them first
pub data Descends (lefts : List ℕ) (lengths : List ℤ) (upward : ℕ → ℕ) (f : ℕ) : ℕ → Tables → Tables → Type 0 where
  done : {t : Tables} → Descends lefts lengths upward f 0 t t
  down : {k : ℕ} {t u v : Tables} → Follows lefts lengths (iter upward k f) t u → Descends lefts lengths upward f k u v
      → Descends lefts lengths upward f (suc k) t v

-- ── the whole ──
-- the face across the parent of a face
abbrev pub upward_of : List ℕ → Tables → ℕ → ℕ
upward_of lefts t = up (right_of lefts) (at t.parents)

-- the ascent from f has come to the face y, which has a level and was met in this very ascent
abbrev pub Closes : (f y : ℕ) (marks : List ℕ) → Tables → Type 0
Closes f y marks t = (at marks y ≡ f) × HasLevel (atℤ t.potentials) y

-- the faces from f on are gone through; it ends straight, with the end of the queue, or with the dart that closes a ring of parents
pub data Straightens (lefts : List ℕ) (lengths : List ℤ) (darts faces : ℕ) : (f : ℕ) → List ℕ → Tables → Tables → Result ℕ Ring → Type 0 where
  end : {f last : ℕ} {marks : List ℕ} {t : Tables} → faces ≤ f → last ≡ t.last
      → Straightens lefts lengths darts faces f marks t t (Ok last)
  ring : {f d : ℕ} {marks : List ℕ} {t : Tables} (count : ℕ) → f < faces → Ascent (upward_of lefts t) darts t.parents marks f count
      → Closes f (iter (upward_of lefts t) count f) (marked (upward_of lefts t) f count marks) t → d ≡ at t.parents (iter (upward_of lefts t) count f)
      → Straightens lefts lengths darts faces f marks t t (closed_by d)
  next : {f : ℕ} {marks : List ℕ} {t u v : Tables} {r : Result ℕ Ring} (count : ℕ) → f < faces → Ascent (upward_of lefts t) darts t.parents marks f count
      → (Closes f (iter (upward_of lefts t) count f) (marked (upward_of lefts t) f count marks) t → ⊥)
      → Descends lefts lengths (upward_of lefts t) f count t u
      → Straightens lefts lengths darts faces (f + 1) (marked (upward_of lefts t) f count marks) u v r → Straightens lefts lengths darts faces f marks t v r

-- ── its moments ──
-- some of the first k faces of the ascent from f have followed their parents, the last of them first
pub data Sinks (lefts : List ℕ) (lengths : List ℤ) (upward : ℕ → ℕ) (f : ℕ) : ℕ → Tables → Tables → Type 0 where
  stay : {k : ℕ} {t : Tables} → Sinks lefts lengths upward f k t t
  sink : {k : ℕ} {t u v : Tables} → Follows lefts lengths (iter upward k f) t u → Sinks lefts lengths upward f k u v → Sinks lefts lengths upward f (suc k) t v

-- the straightening of the faces from f on comes from the arrays t to the arrays u: before it, on some way down, or later
pub data Within (lefts : List ℕ) (lengths : List ℤ) (darts faces : ℕ) : (f : ℕ) → List ℕ → Tables → Tables → Type 0 where
  before : {f : ℕ} {marks : List ℕ} {t : Tables} → Within lefts lengths darts faces f marks t t
  under_way : {f : ℕ} {marks : List ℕ} {t u : Tables} (count : ℕ) → f < faces → Ascent (upward_of lefts t) darts t.parents marks f count
      → (Closes f (iter (upward_of lefts t) count f) (marked (upward_of lefts t) f count marks) t → ⊥)
      → Sinks lefts lengths (upward_of lefts t) f count t u → Within lefts lengths darts faces f marks t u
  later : {f : ℕ} {marks : List ℕ} {t u v : Tables} (count : ℕ) → f < faces → Ascent (upward_of lefts t) darts t.parents marks f count
      → (Closes f (iter (upward_of lefts t) count f) (marked (upward_of lefts t) f count marks) t → ⊥)
      → Descends lefts lengths (upward_of lefts t) f count t u
      → Within lefts lengths darts faces (f + 1) (marked (upward_of lefts t) f count marks) u v → Within lefts lengths darts faces f marks t v
