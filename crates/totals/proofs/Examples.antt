-- Worked examples, by computation. Drawing B of document 01: 0 to 1 with limits 5 and 0, 0 to 2 with 3 and -1. A path: 1 to 2 with 1 and -1, 0 to 1 with 2 and
-- 4, and a loop at node 1 with 7 and 9; of its nodes, 1 has the lowest dart, then 2, then 0.
use mathlib.Core.Path.{◌≡◌, refl}
use mathlib.Core.List.{List, [], ◌∷◌}
use lib.IntN.{ℤ, pos, negsuc}
use Rattle.integers.specs.Sum.{sum, count}
use Rattle.maps.specs.Dart.{rev}
use Rattle.maps.specs.Map.{Map}
use Rattle.maps.specs.Cut.{cut}
use Rattle.flows.specs.ProvingSet.{member}
use Rattle.arrays.specs.At.{atℤ}
use Rattle.arrays.specs.Maps.{map_of}
use Rattle.totals.specs.Subtotal.{subtotal, total, listed}
use Rattle.totals.specs.Totals.{subtotaled}

abbrev B : Map
B = map_of 3 2 (0 ∷ 1 ∷ 0 ∷ 2 ∷ []) (2 ∷ 1 ∷ 0 ∷ 3 ∷ [])

abbrev of_b : List ℤ
of_b = pos 5 ∷ pos 0 ∷ pos 3 ∷ negsuc 0 ∷ []

abbrev path : Map
path = map_of 3 3 (1 ∷ 2 ∷ 0 ∷ 1 ∷ 1 ∷ 1 ∷ []) (3 ∷ 1 ∷ 2 ∷ 4 ∷ 5 ∷ 0 ∷ [])

abbrev of_path : List ℤ
of_path = pos 1 ∷ negsuc 0 ∷ pos 2 ∷ pos 4 ∷ pos 7 ∷ pos 9 ∷ []

abbrev lent : List ℤ
lent = pos 90 ∷ pos 91 ∷ pos 92 ∷ pos 93 ∷ []

-- nodes 0 and 2 of B: 5 leave the one, the dart between them counts for neither
pub b_subtotals : subtotaled B (atℤ of_b) (member (5 ∷ [])) lent ≡ pos 5 ∷ pos 0 ∷ pos 92 ∷ pos 93 ∷ []
unfolding subtotal listed sum rev
b_subtotals = refl

-- node 2 of B: a limit below zero counts as it is
pub b_below_zero : total B (atℤ of_b) (member (4 ∷ [])) ≡ negsuc 0
unfolding total subtotal sum rev
b_below_zero = refl

-- nodes 0 and 2 of the path: nodes rise, neither the subtotals nor the lowest darts
pub path_subtotals : subtotaled path (atℤ of_path) (member (5 ∷ [])) lent ≡ pos 2 ∷ negsuc 0 ∷ pos 92 ∷ pos 93 ∷ []
unfolding subtotal listed sum rev
path_subtotals = refl

-- its node 1: both other darts, and neither of the loop
pub path_loop : total path (atℤ of_path) (member (2 ∷ [])) ≡ pos 5
unfolding total subtotal sum rev
path_loop = refl

-- the same sum dart by dart
pub path_cut : cut path (atℤ of_path) (member (2 ∷ [])) ≡ pos 5
unfolding cut sum rev
path_cut = refl

-- every bit past the last node: no node is in the set, and nothing is written
pub past_the_last : subtotaled path (atℤ of_path) (member (18446744073709551608 ∷ [])) lent ≡ lent
unfolding subtotal listed sum rev
past_the_last = refl

pub past_needs_none : count 3 (member (18446744073709551608 ∷ [])) ≡ 0
unfolding sum
past_needs_none = refl
