-- The room that a list needs fits an index.
use Prim.Native.Nat.{ℕ, ◌≤◌}
use native.Mathlib.Nat.{mul-le-mul}
use native.Mathlib.Omega.{arith}
use Rattle.flows.specs.ProvingSet.{words_for}

pub words_few : (nodes : ℕ) → nodes ≤ 1024 → words_for nodes ≤ 16
words_few nodes h = omega arith

pub ruleset fits = (words_few, mul-le-mul)
