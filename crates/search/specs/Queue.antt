-- The queue of the faces that wait to be looked at: an array of 1,024 places used as a ring. The places are counted on without end; those from `first` up to
-- `last` are taken, and place i is the element i % 1024.
use Rattle.std.specs.Prelude.{◌≡◌, ◌⊎◌, List, ℕ, ◌+◌, ◌%◌, ◌≤◌, ◌<◌, set}
use Rattle.arrays.specs.At.{at}

abbrev pub face_at : List ℕ → ℕ → ℕ
face_at queue i = at queue (i % 1024)

-- the face f stands at a place from `first` up to `last`
abbrev pub Stands : (queue : List ℕ) (first last f : ℕ) → Type 0
Stands queue first last f = (i : ℕ) × (first ≤ i) × (i < last) × (face_at queue i ≡ f)

-- the face f comes to wait, behind all that do, unless it waits: a flag says so
abbrev pub Pushed : (waiting queue waiting' queue' : List ℕ) (f last last' : ℕ) → Type 0
Pushed waiting queue waiting' queue' f last last' =
    ((at waiting f ≡ 1) × (waiting' ≡ waiting) × (queue' ≡ queue) × (last' ≡ last))
    ⊎ ((at waiting f ≡ 1 → ⊥) × (waiting' ≡ set waiting f 1) × (queue' ≡ set queue (last % 1024) f) × (last' ≡ last + 1))
