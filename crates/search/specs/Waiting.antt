-- What it is for a face to wait: it stands in the queue, at place i.
use Rattle.std.specs.Prelude.{◌≡◌, ℕ, ◌≤◌, ◌<◌}
use Rattle.search.specs.Queue.{face_at}
use Rattle.search.specs.Configuration.{Configuration}

abbrev pub WaitsAt : Configuration → (i f : ℕ) → Type 0
WaitsAt c i f = (c.first ≤ i) × (i < c.tables.last) × (face_at c.tables.queue i ≡ f)

abbrev pub Waits : Configuration → ℕ → Type 0
Waits c f = (i : ℕ) × WaitsAt c i f
