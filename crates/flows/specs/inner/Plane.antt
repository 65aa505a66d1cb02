-- A plane map: sound and flat, which is what the sheet checks 9 to 12 leave.
use Rattle.std.specs.Prelude.{◌<◌}
use Rattle.maps.specs.Map.{Map}
use Rattle.maps.specs.Flat.{Flat}
use Rattle.maps.specs.Check.{Sound}

pub record Plane (𝓜 : Map) : Type 0 where
  pub sound : Sound 𝓜
  pub flat : Flat 𝓜
  pub some : 0 < 𝓜.nodes
