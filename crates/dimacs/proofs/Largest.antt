-- The greatest flow of a drawing's problem is the largest value that settings carry; and settings of zero carry 0, where no capacity is below zero.
use mathlib.Core.Path.{◌≡◌, refl, ◌∙◌, ap, subst}
use mathlib.Core.Bool.{Bool, true, false, cond}
use Prim.Native.Nat.{ℕ, ◌%◌}
use lib.Dec.{eqb}
use lib.IntN.{ℤ, pos, neg_ℤ}
use lib.Signed.{◌≤ℤ◌}
use Rattle.integers.specs.Sum.{Integers, when}
use Rattle.integers.proofs.Sums.{sum_nil}
use Rattle.integers.proofs.IntegerSums.{when_zero}
use Rattle.maps.specs.Map.{Map, darts}
use Rattle.maps.specs.Flow.{net}
use Rattle.flows.specs.Settings.{on_darts, Carries}
use Rattle.flows.proofs.OnDarts.{on_darts_antisymmetric}
use Rattle.dimacs.specs.Problem.{flow_value, Greatest}
use Rattle.dimacs.specs.Drawn.{drawn_problem}
use Rattle.dimacs.proofs.Settling.{NotBelowZero, settings_of, arc_flows, feasible_carries, carries_feasible, carries_value}

-- settings carry this value from s to t, and none carry a greater one
abbrev pub LargestCarried : Map → (ℕ → ℤ) → (s t : ℕ) → ℤ → Type 0
LargestCarried 𝓜 c s t v = ((x : ℕ → ℤ) × Carries 𝓜 c s t v x) × ((w : ℤ) (x : ℕ → ℤ) → Carries 𝓜 c s t w x → w ≤ℤ v)

module _ (𝓜 : Map) (c : ℕ → ℤ) (s t : ℕ) (good : NotBelowZero 𝓜 c) where
  pub greatest_of_largest : (v : ℤ) → LargestCarried 𝓜 c s t v → Greatest (drawn_problem 𝓜 c s t) v
  greatest_of_largest v h =
      let x = h.0.0 in (
        (arc_flows x, carries_feasible 𝓜 c s t good v x h.0.1, carries_value 𝓜 c s t good v x h.0.1),
        λ f g. h.1 (flow_value (drawn_problem 𝓜 c s t) f) (settings_of f) (feasible_carries 𝓜 c s t good f g),
      )

  pub largest_of_greatest : (v : ℤ) → Greatest (drawn_problem 𝓜 c s t) v → LargestCarried 𝓜 c s t v
  largest_of_greatest v h = (
    (settings_of h.0.0, subst (λ w. Carries 𝓜 c s t w (settings_of h.0.0)) h.0.2 (feasible_carries 𝓜 c s t good h.0.0 h.0.1)),
    λ w x k. rw (← carries_value 𝓜 c s t good w x k) (h.1 (arc_flows x) (carries_feasible 𝓜 c s t good w x k)),
  )

  -- nothing anywhere is within capacities that are not below zero
  pub zero_carries : Carries 𝓜 c s t (pos 0) (λ e. pos 0)
  unfolding on_darts net
  zero_carries = record {
    antisymmetric = on_darts_antisymmetric 𝓜 (λ e. pos 0);
    within = λ d l. rw (still d) (good d l);
    balanced = λ v l p q. nets v;
    carries = nets s;
  }
    where
      still : (d : ℕ) → on_darts (λ e. pos 0) d ≡ pos 0
      still d = go (eqb (d % 2) 0)
        where
          go : (b : Bool) → cond b (pos 0) (neg_ℤ (pos 0)) ≡ pos 0
          go true = refl
          go false = refl

      nets : (v : ℕ) → net 𝓜 (on_darts (λ e. pos 0)) v ≡ pos 0
      nets v =
          sum_nil Integers (darts 𝓜) (λ d. when (eqb v (𝓜.tail d)) (on_darts (λ e. pos 0) d))
          (λ d l. ap (when (eqb v (𝓜.tail d))) (still d) ∙ when_zero (eqb v (𝓜.tail d)))
