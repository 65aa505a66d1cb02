-- The map that the arrays of tails and rotations hold, the drawing with their capacities, and the faces right of its darts.
use Rattle.std.specs.Prelude.{List, ℕ, get_or, ℤ}
use Rattle.maps.specs.Dart.{rev}
use Rattle.maps.specs.Map.{Map}
use Rattle.maps.specs.Drawing.{Drawing}
use Rattle.arrays.specs.At.{at, atℤ}

abbrev pub map_of : (nodes edges : ℕ) (tails rotations : List ℕ) → Map
map_of nodes edges tails rotations = record { nodes = nodes; edges = edges; tail = at tails; rotation = at rotations }

abbrev pub drawing_of : (nodes edges outer : ℕ) (tails rotations : List ℕ) (capacities : List ℤ) → Drawing
drawing_of nodes edges outer tails rotations capacities = record { map = map_of nodes edges tails rotations; capacity = atℤ capacities; outer = outer }

-- the face right of a dart is the face left of its reverse: there is no array of right faces
abbrev pub right_of : List ℕ → ℕ → ℕ
right_of lefts d = get_or lefts (rev d) 0
