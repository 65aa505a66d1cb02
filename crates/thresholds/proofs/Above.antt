-- Cuts of the nodes above a threshold, by computation: two nodes and one edge, of lengths -1 from node 0 to node 1 and 3 back.
use mathlib.Core.Path.{◌≡◌, refl}
use mathlib.Core.List.{[], ◌∷◌}
use lib.IntN.{pos, negsuc}
use Rattle.integers.specs.Sum.{sum}
use Rattle.maps.specs.Dart.{rev}
use Rattle.arrays.specs.At.{at, atℤ}
use Rattle.cuts.specs.inner.Cut.{cut_of}
use Rattle.thresholds.specs.inner.Above.{above}

-- node 0 has height 5 and node 1 has 4: at the threshold 4 the set is node 0, and at 3 it is both
pub above_four : cut_of 2 (at (0 ∷ 1 ∷ [])) (atℤ (negsuc 0 ∷ pos 3 ∷ [])) (above (atℤ (pos 5 ∷ pos 4 ∷ [])) (pos 4)) ≡ negsuc 0
unfolding cut_of sum rev
above_four = refl

pub above_three : cut_of 2 (at (0 ∷ 1 ∷ [])) (atℤ (negsuc 0 ∷ pos 3 ∷ [])) (above (atℤ (pos 5 ∷ pos 4 ∷ [])) (pos 3)) ≡ pos 0
unfolding cut_of sum rev
above_three = refl
