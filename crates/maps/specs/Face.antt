-- Faces. Document 01, "Faces, settings, levels": "The face step of a dart is the turn of its reverse. A face is a round of face steps; left(d) is the
-- face holding d, right(d) is left of d's reverse. Faces are numbered from 0 in order of their lowest dart."
use Rattle.std.specs.Prelude.{ℕ}
use Rattle.maps.specs.Dart.{rev}
use Rattle.maps.specs.Orbit.{orbits, orbit_of}
use Rattle.maps.specs.Map.{Map, darts}

abbrev pub step : Map → ℕ → ℕ
step 𝓜 d = 𝓜.rotation (rev d)

unfoldable pub faces : Map → ℕ
faces 𝓜 = orbits (darts 𝓜) (step 𝓜)

unfoldable pub left : Map → ℕ → ℕ
left 𝓜 d = orbit_of (darts 𝓜) (step 𝓜) d

abbrev pub right : Map → ℕ → ℕ
right 𝓜 d = left 𝓜 (rev d)
