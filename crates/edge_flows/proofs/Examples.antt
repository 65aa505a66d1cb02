-- A made-up case: edge 1 has darts 2 and 3, with face 1 on the left of dart 2 and face 2 on the left of dart 3. The faces' potentials are 5 and −3, so the drop
-- is 8; dart 2 has capacity 6 and length 4, so 2 go along it: the flow is 10.
use mathlib.Core.Path.{◌≡◌, refl}
use mathlib.Core.List.{[], ◌∷◌}
use lib.IntN.{pos, negsuc}
use Rattle.maps.specs.Dart.{rev}
use Rattle.arrays.specs.At.{at, atℤ}
use Rattle.edge_flows.specs.inner.Flow.{flow_of}

pub drop_and_along : flow_of
    (at (0 ∷ 1 ∷ 1 ∷ 2 ∷ []))
    (atℤ (pos 9 ∷ pos 9 ∷ pos 6 ∷ pos 7 ∷ []))
    (atℤ (pos 1 ∷ pos 1 ∷ pos 4 ∷ pos 1 ∷ []))
    (atℤ (pos 0 ∷ pos 5 ∷ negsuc 2 ∷ [])) 1
    ≡ pos 10
unfolding rev
drop_and_along = refl

-- a potential that rises, and a dart longer than its capacity: the flow runs against the dart
pub against_the_dart : flow_of (at (0 ∷ 1 ∷ [])) (atℤ (pos 2 ∷ pos 3 ∷ [])) (atℤ (pos 3 ∷ pos 2 ∷ [])) (atℤ (pos 0 ∷ pos 4 ∷ [])) 0 ≡ negsuc 4
unfolding rev
against_the_dart = refl
