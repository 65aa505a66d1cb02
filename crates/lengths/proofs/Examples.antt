-- A worked example: one edge from node 0 to node 1, of capacities 5 forth and 3 back.
-- The value 7 goes along dart 0, so the lengths are 5 − 7 = −2 and 3 + 7 = 10.
use mathlib.Core.Path.{refl}
use mathlib.Core.Logic.{◌≢◌}
use mathlib.Core.Bool.{true, true≢false}
use mathlib.Core.List.{[], ◌∷◌}
use Prim.Native.Nat.{ℕ, zero, suc, ◌<◌}
use native.Mathlib.Omega.{arith}
use lib.IntN.{pos, negsuc, neg_ℤ, ◌+ℤ◌}
use Rattle.integers.proofs.Tests.{every, every_at_most}
use Rattle.maps.specs.Dart.{rev}
use Rattle.maps.specs.Orbit.{iter}
use Rattle.maps.specs.Map.{Map}
use Rattle.maps.specs.Walk.{Walk, here, along}
use Rattle.flows.specs.inner.UnitFlow.{single, walk_flow}
use Rattle.flows.proofs.UnitFlow.{walk_unit}
use Rattle.lengths.specs.inner.Lengths.{Treed, taken, Filled}
use Rattle.arrays.specs.At.{at, atℤ}
use Rattle.arrays.specs.inner.Sizes.{most_length}

-- what holds of 0 and of 1 holds of each number below 2
two : (P : ℕ → Type 0) → P 0 → P 1 → (d : ℕ) → d < 2 → P d
two P p q zero l = p
two P p q (suc zero) l = q
two P p q (suc (suc d)) l = absurd (omega arith)

-- the way from the node of dart 0, the first of the tree, to the node of dart 1 is dart 0, in every map of one edge
pub one_edge : Filled 2 0 1 (at (0 ∷ 1 ∷ [])) (at (0 ∷ 0 ∷ [])) (atℤ (pos 5 ∷ pos 3 ∷ [])) (pos 7) (atℤ (negsuc 1 ∷ pos 10 ∷ [])) true
unfolding walk_flow rev every iter taken
one_edge = record {
  flow = λ d. single 0 d +ℤ pos 0;
  lengths = two _ refl refl;
  limited = λ d l. record {
    low = every_at_most 2 (λ d. neg_ℤ (pos most_length)) (atℤ (negsuc 1 ∷ pos 10 ∷ [])) refl d l;
    high = every_at_most 2 (atℤ (negsuc 1 ∷ pos 10 ∷ [])) (λ d. pos most_length) refl d l;
  };
  against = λ 𝓜 ρ. (walk_unit (over 𝓜 ρ)).antisymmetric;
  unit = λ e 𝓜 ρ. walk_unit (over 𝓜 ρ);
  apart = λ e. absurd (true≢false e);
  way = record {
    up = 0;
    down = 1;
    up_top = record { own = refl; onward = λ k l. absurd (omega (arith, l)) };
    down_top = record { own = refl; onward = one_step };
    lengths = two _ refl refl;
    joined_is = refl;
  };
}
  where
    one_step : (k : ℕ) → k < 1 → at (0 ∷ 0 ∷ []) (iter (at (0 ∷ 0 ∷ [])) k 1) ≢ iter (at (0 ∷ 0 ∷ [])) k 1
    one_step zero l = λ e. omega (arith, e)
    one_step (suc k) l = absurd (omega (arith, l))

    over : (𝓜 : Map) → Treed 𝓜 2 (at (0 ∷ 1 ∷ [])) (at (0 ∷ 0 ∷ [])) → Walk 𝓜 (𝓜.tail 0) (𝓜.tail 1)
    over 𝓜 ρ = along 0 (omega (arith, ρ.all_darts)) refl here
