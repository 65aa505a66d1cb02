-- The lines of the first arcs, of a drawing whose tails and capacities stand in arrays.
use Rattle.std.specs.Prelude.{ℕ, List, ℤ}
use Rattle.maps.specs.Dart.{rev}
use Rattle.arrays.specs.At.{at, atℤ}
use Rattle.texts.specs.Lines.{lines}
use Rattle.dimacs.specs.Text.{arc_line}

abbrev pub line_of : List ℕ → List ℤ → ℕ → List ℕ
line_of tails capacities d = arc_line (at tails d) (at tails (rev d)) (atℤ capacities d)

abbrev pub arc_lines : List ℕ → List ℤ → ℕ → List ℕ
arc_lines tails capacities darts = lines darts (line_of tails capacities)
