-- What the sums at the nodes need in order to fit.
use Rattle.std.specs.Prelude.{ℕ, ◌<◌, ℤ}
use Rattle.integers.specs.inner.Limited.{Limited}

-- every edge's flow is at most a million: 1,024 of them add up to less than 2^31
abbrev pub SmallFlows : ℕ → (ℕ → ℤ) → Type 0
SmallFlows edges x = (e : ℕ) → e < edges → Limited 1000000 (x e)
