-- The ends of a question, as the solver takes them.
use Rattle.std.specs.Prelude.{◌≢◌, ℕ, ◌<◌}
use Rattle.maps.specs.Map.{Map}

-- source and sink are two nodes
pub record Ends (𝓜 : Map) (source sink : ℕ) : Type 0 where
  pub source_in : source < 𝓜.nodes
  pub sink_in : sink < 𝓜.nodes
  pub two : source ≢ sink
