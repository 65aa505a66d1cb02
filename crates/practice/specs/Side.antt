-- The four sides of a node, clockwise. Document 02, Job 5: "Clockwise at a node is north, east, south, west, absent ones skipped."
use Rattle.std.specs.Prelude.{Bool, cond}
use Rattle.practice.specs.declared.Side.{Side}
use Rattle.practice.specs.declared.Side.TheVariants.{North, East, South, West}

-- the next side clockwise
unfoldable pub turn : Side → Side
turn North = East
turn East = South
turn South = West
turn West = North

-- the next side clockwise that is present; the side itself if no other is
unfoldable pub next : (Side → Bool) → Side → Side
next present s =
    cond (present (turn s)) (turn s)
    (cond (present (turn (turn s))) (turn (turn s))
    (cond (present (turn (turn (turn s)))) (turn (turn (turn s))) s))
