-- Sets of nodes as flags, one byte for each node: on which side of a question a set lies.
use Rattle.std.specs.Prelude.{Bool, ℕ}
use Rattle.flows.specs.inner.Sides.{AtSource, AtSink, Beside}
use Rattle.node_flags.specs.declared.Side.{Side}
use Rattle.node_flags.specs.declared.Side.TheVariants as side

-- the set holds the source only, the sink only, or both or neither
abbrev pub Sided : (s t : ℕ) → (ℕ → Bool) → Side → Type 0
Sided s t S side.Source = AtSource s t S
Sided s t S side.Sink = AtSink s t S
Sided s t S side.Beside = Beside s t S
