-- The limits that a seed gives. Document 02, Job 5: "Starting from a seed below 2,147,483,648, each channel in order takes the next state, (1,103,515,245 ×
-- state + 12,345) mod 2,147,483,648. Its forward limit is state div 65,536, mod 100". A limit is a capacity here.
use Rattle.std.specs.Prelude.{ℕ, zero, suc, ◌+◌, ◌*◌, ◌/◌, ◌%◌}

unfoldable pub next_state : ℕ → ℕ
next_state state = (1103515245 * state + 12345) % 2147483648

-- the state after so many steps from the seed
unfoldable pub state_after : (seed : ℕ) → ℕ → ℕ
state_after seed zero = seed
state_after seed (suc n) = next_state (state_after seed n)

-- the capacity that a state gives
unfoldable pub capacity_from : ℕ → ℕ
capacity_from state = state / 65536 % 100

-- edge e takes the state after e + 1 steps: the first edge has the one after the seed
unfoldable pub forward_of : (seed : ℕ) → ℕ → ℕ
forward_of seed e = capacity_from (state_after seed (suc e))
