-- The problem of a drawing: its darts are the arcs, in their order, and its nodes count from 1.
use Rattle.std.specs.Prelude.{ℕ, ◌+◌, ℤ}
use Rattle.maps.specs.Map.{Map, darts, head}
use Rattle.arrays.specs.Filled.{tabulate}
use Rattle.dimacs.specs.Problem.{Arc, Problem}
use Rattle.dimacs.specs.Text.{natural}

abbrev pub arc_of : Map → (ℕ → ℤ) → ℕ → Arc
arc_of 𝓜 c d = record { start = 𝓜.tail d + 1; end = head 𝓜 d + 1; capacity = natural (c d) }

abbrev pub drawn_problem : Map → (ℕ → ℤ) → (source sink : ℕ) → Problem
drawn_problem 𝓜 c source sink = record {
  nodes = 𝓜.nodes;
  size = darts 𝓜;
  source = source + 1;
  sink = sink + 1;
  arcs = tabulate (darts 𝓜) (arc_of 𝓜 c);
}
