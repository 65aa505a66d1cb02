-- Document 02, Job 2: "the greatest flow of the text by the DIMACS definition", read by `problem_of`, which knows no drawing, is the largest value that
-- settings carry. All is said of any map and of any capacities that are not below zero: the map need be neither flat nor connected.
use mathlib.Core.Path.{◌≡◌, sym, subst}
use mathlib.Core.Logic.{◌⊎◌, inl, inr, ◌≢◌}
use mathlib.Core.Bool.{Bool}
use Prim.Native.Nat.{ℕ, ◌<◌}
use lib.IntN.{ℤ, pos, ◌+ℤ◌}
use lib.Signed.{◌≤ℤ◌, ◌<ℤ◌}
use Rattle.integers.proofs.Laws.{le_trans, le_antisym, lt_or_ge}
use Rattle.maps.specs.Map.{Map, darts}
use Rattle.maps.specs.Check.{InRange}
use Rattle.flows.specs.Settings.{Carries}
use Rattle.flows.specs.ProvingSet.{Proves}
use Rattle.flows.proofs.Interval.{source_limits}
use Rattle.flows.proofs.Parts.{next_tight, most_in_parts}
use Rattle.dimacs.specs.Problem.{Problem, flow_value, Greatest, NoneGreaterInParts}
use Rattle.dimacs.specs.Reading.{problem_of}
use Rattle.dimacs.specs.Text.{dimacs_text}
use Rattle.dimacs.specs.Drawn.{drawn_problem}
use Rattle.dimacs.proofs.Settling.{NotBelowZero, settings_of, parts_carry}
use Rattle.dimacs.proofs.Largest.{LargestCarried, greatest_of_largest, largest_of_greatest}
use Rattle.dimacs.proofs.ReadBack.{reads_back}

-- a problem has one greatest value at most
pub greatest_unique : (P : Problem) (v w : ℤ) → Greatest P v → Greatest P w → v ≡ w
greatest_unique P v w h g = le_antisym (rw (← h.0.2) (g.1 h.0.0 h.0.1)) (rw (← g.0.2) (h.1 g.0.0 g.0.1))

module _ (𝓜 : Map) (c : ℕ → ℤ) (s t : ℕ) (good : NotBelowZero 𝓜 c) where
  -- the greatest flow of the text is the largest value that settings carry, both ways
  pub greatest_is_largest : (v : ℤ)
      → (LargestCarried 𝓜 c s t v → Greatest (problem_of (dimacs_text 𝓜 c s t)) v) × (Greatest (problem_of (dimacs_text 𝓜 c s t)) v → LargestCarried 𝓜 c s t v)
  greatest_is_largest v = (
    λ h. subst (λ P. Greatest P v) (sym (reads_back 𝓜 c s t)) (greatest_of_largest 𝓜 c s t good v h),
    λ h. largest_of_greatest 𝓜 c s t good v (subst (λ P. Greatest P v) (reads_back 𝓜 c s t) h),
  )

  -- what Largest gives, settings that carry v and a set that proves v + 1 impossible, is enough
  module _ (range : InRange 𝓜) (s_in : s < 𝓜.nodes) (t_in : t < 𝓜.nodes) (s≢t : s ≢ t)
      (v : ℤ) (x : ℕ → ℤ) (h : Carries 𝓜 c s t v x) (S : ℕ → Bool) (proves : Proves 𝓜 c s t (v +ℤ pos 1) S) where
    pub largest_of_set : LargestCarried 𝓜 c s t v
    largest_of_set =
        let tight = next_tight range s_in t_in s≢t c v x h S proves in
        ((x, h), λ w y k. le_trans (source_limits range s_in t_in s≢t c S tight.0 w y k) tight.1)

    pub greatest_of_set : Greatest (problem_of (dimacs_text 𝓜 c s t)) v
    greatest_of_set = (greatest_is_largest v).0 largest_of_set

    -- nor has any flow of the text in n-th parts a greater value
    pub none_greater_in_parts : (n : ℕ) → NoneGreaterInParts n (problem_of (dimacs_text 𝓜 c s t)) v
    none_greater_in_parts n = subst (λ P. NoneGreaterInParts n P v) (sym (reads_back 𝓜 c s t)) bounded
      where
        bounded : NoneGreaterInParts n (drawn_problem 𝓜 c s t) v
        bounded f g =
            most_in_parts range s_in t_in s≢t c v x h S proves n (flow_value (drawn_problem 𝓜 c s t) f) (settings_of f) (parts_carry 𝓜 c s t good n f g)

-- what 22 leaves
pub not_below_zero : (𝓜 : Map) (c : ℕ → ℤ) → ((d : ℕ) × (d < darts 𝓜) × (c d <ℤ pos 0) → ⊥) → NotBelowZero 𝓜 c
not_below_zero 𝓜 c none d l = go (lt_or_ge (c d) (pos 0))
  where
    go : (c d <ℤ pos 0) ⊎ (pos 0 ≤ℤ c d) → pos 0 ≤ℤ c d
    go (inl h) = absurd (none (d, l, h))
    go (inr h) = h
