-- A grid. Document 02, Job 5: "Generate a grid of R rows and C columns. Nodes run row by row. Channels run left to right in each row, row by row, then top to
-- bottom, again row by row." Rows and columns are counted from 0, from the top and from the left. A channel is an edge here, and a turn a rotation.
use Rattle.std.specs.Prelude.{Bool, cond, ℕ, ◌+◌, ◌*◌, ◌-◌, ◌/◌, ◌%◌, eqb, ltb}
use Rattle.maps.specs.Map.{Map}
use Rattle.practice.specs.Side.{next}
use Rattle.practice.specs.declared.Side.{Side}
use Rattle.practice.specs.declared.Side.TheVariants.{North, East, South, West}

-- a node, by its row and column, and one side of it
pub record Place : Type 0 where
  pub row : ℕ
  pub column : ℕ
  pub side : Side

abbrev pub placed : ℕ → ℕ → Side → Place
placed r c s = record { row = r; column = c; side = s }

module _ (rows columns : ℕ) where
  abbrev pub grid_nodes : ℕ
  grid_nodes = rows * columns

  -- the edges that run left to right come first, one less to a row than there are columns
  abbrev pub across : ℕ
  across = rows * (columns - 1)

  abbrev pub grid_edges : ℕ
  grid_edges = across + (rows - 1) * columns

  -- where an edge begins, and where it ends; of those that run down there is a row of `columns` between each two rows of nodes
  unfoldable pub beginning : ℕ → Place
  beginning e = cond (ltb e across) (placed (e / (columns - 1)) (e % (columns - 1)) East) (placed ((e - across) / columns) ((e - across) % columns) South)

  unfoldable pub ending : ℕ → Place
  ending e = cond (ltb e across) (placed (e / (columns - 1)) (e % (columns - 1) + 1) West) (placed ((e - across) / columns + 1) ((e - across) % columns) North)

  -- where a dart leaves: dart 2e where its edge begins, dart 2e + 1 where it ends
  unfoldable pub place_of : ℕ → Place
  place_of d = cond (eqb (d % 2) 0) (beginning (d / 2)) (ending (d / 2))

  -- whether the node in row r and column c has an edge on a side
  unfoldable pub present : ℕ → ℕ → Side → Bool
  present r c North = ltb 0 r
  present r c East = ltb (c + 1) columns
  present r c South = ltb (r + 1) rows
  present r c West = ltb 0 c

  -- the dart that leaves it there
  unfoldable pub dart_at : ℕ → ℕ → Side → ℕ
  dart_at r c North = 2 * (across + ((r - 1) * columns + c)) + 1
  dart_at r c East = 2 * (r * (columns - 1) + c)
  dart_at r c South = 2 * (across + (r * columns + c))
  dart_at r c West = 2 * (r * (columns - 1) + (c - 1)) + 1

  -- the node at a place, and the dart that leaves it on the next side clockwise
  abbrev pub node_at : Place → ℕ
  node_at p = p.row * columns + p.column

  abbrev pub rotation_at : Place → ℕ
  rotation_at p = dart_at p.row p.column (next (present p.row p.column) p.side)

  -- zero past the darts, as what is read from a sheet is
  unfoldable pub grid_tail : ℕ → ℕ
  grid_tail d = cond (ltb d (2 * grid_edges)) (node_at (place_of d)) 0

  unfoldable pub grid_rotation : ℕ → ℕ
  grid_rotation d = cond (ltb d (2 * grid_edges)) (rotation_at (place_of d)) 0

  abbrev pub grid_map : Map
  grid_map = record { nodes = grid_nodes; edges = grid_edges; tail = grid_tail; rotation = grid_rotation }
