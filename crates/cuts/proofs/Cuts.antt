-- Cuts by computation: two nodes and one edge, of lengths -1 from node 0 to node 1 and 3 back.
use mathlib.Core.Path.{◌≡◌, refl}
use mathlib.Core.Bool.{true}
use mathlib.Core.List.{[], ◌∷◌}
use lib.Dec.{eqb}
use lib.IntN.{pos, negsuc}
use Rattle.integers.specs.Sum.{sum}
use Rattle.maps.specs.Dart.{rev}
use Rattle.arrays.specs.At.{at, atℤ}
use Rattle.cuts.specs.inner.Cut.{cut_of}

pub first_node : cut_of 2 (at (0 ∷ 1 ∷ [])) (atℤ (negsuc 0 ∷ pos 3 ∷ [])) (λ v. eqb v 0) ≡ negsuc 0
unfolding cut_of sum rev
first_node = refl

pub second_node : cut_of 2 (at (0 ∷ 1 ∷ [])) (atℤ (negsuc 0 ∷ pos 3 ∷ [])) (λ v. eqb v 1) ≡ pos 3
unfolding cut_of sum rev
second_node = refl

-- no dart leaves the set of all nodes
pub both_nodes : cut_of 2 (at (0 ∷ 1 ∷ [])) (atℤ (negsuc 0 ∷ pos 3 ∷ [])) (λ v. true) ≡ pos 0
unfolding cut_of sum rev
both_nodes = refl
