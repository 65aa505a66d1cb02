-- Darts. Document 01, "What the unit holds": "Channel e (from 0) has two darts: 2e, from its tail node to its head node, and 2e+1, its reverse."
-- A channel is an edge here.
use Rattle.std.specs.Prelude.{ℕ, ◌+◌, ◌-◌, ◌%◌, cond, eqb}

-- the other dart of the same edge: 2e ↔ 2e+1
unfoldable pub rev : ℕ → ℕ
rev d = cond (eqb (d % 2) 0) (d + 1) (d - 1)
