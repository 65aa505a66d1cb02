-- How many places hold a value: what a loop that marks places counts down.
use Rattle.std.specs.Prelude.{ℕ, eqb}
use Rattle.integers.specs.Sum.{count}

-- how many of g 0, .., g (n - 1) are x
unfoldable pub holding : ℕ → ℕ → (ℕ → ℕ) → ℕ
holding x n g = count n (λ i. eqb (g i) x)
