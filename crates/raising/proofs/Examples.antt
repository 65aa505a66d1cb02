-- The forward capacity of edge 3 replaced, computed: dart 6 has the new one, dart 7, the other dart of the edge, and all others keep theirs.
use mathlib.Core.Path.{◌≡◌, refl}
use lib.IntN.{pos}
use Rattle.raising.specs.Raised.{raised}

pub forward : raised pos 3 (pos 100) 6 ≡ pos 100
forward = refl

pub backward : raised pos 3 (pos 100) 7 ≡ pos 7
backward = refl

pub others : raised pos 3 (pos 100) 5 ≡ pos 5
others = refl
