-- A worked example: two edges between two faces, face 0 left of the darts 0 and 3, face 1 left of the darts 1 and 2. The parent of face 0 is dart 0 and that of
-- face 1 is dart 2, so two steps up lead from face 0 over dart 0 to face 1, and over dart 2 to face 0 again.
use mathlib.Core.Path.{◌≡◌, refl}
use mathlib.Core.List.{[], ◌∷◌}
use Prim.Native.Nat.{ℕ}
use lib.IntN.{pos, negsuc}
use Rattle.maps.specs.Dart.{rev}
use Rattle.maps.specs.Orbit.{iter}
use Rattle.arrays.specs.At.{at}
use Rattle.search.specs.Parents.{up, down}
use Rattle.windings.specs.inner.Winding.{crossings}

abbrev pub right : ℕ → ℕ
right = at (1 ∷ 0 ∷ 0 ∷ 1 ∷ [])

abbrev pub parent : ℕ → ℕ
parent = at (0 ∷ 2 ∷ [])

pub back_after_two : iter (up right parent) 2 0 ≡ 0
unfolding iter
back_after_two = refl

-- each of the two darts is crossed once, and so its reverse minus once
pub first_forth : crossings (down right parent 2 0) 0 ≡ pos 1
unfolding crossings down iter rev
first_forth = refl

pub first_back : crossings (down right parent 2 0) 1 ≡ negsuc 0
unfolding crossings down iter rev
first_back = refl

pub second_forth : crossings (down right parent 2 0) 2 ≡ pos 1
unfolding crossings down iter rev
second_forth = refl

-- a dart crossed twice, with its reverse crossed once between: 2 − 1
pub forth_back_forth : crossings (0 ∷ 1 ∷ 0 ∷ []) 0 ≡ pos 1
unfolding crossings rev
forth_back_forth = refl
