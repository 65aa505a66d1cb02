-- What the choice needs can be met: the case of `Above`, with node 0 at height 5 and node 1 at 4.
use mathlib.Core.Path.{refl}
use mathlib.Core.List.{[], ◌∷◌}
use native.Mathlib.Omega.{arith}
use lib.IntN.{pos, negsuc, neg_ℤ}
use lib.Signed.{lt_z_yes}
use Rattle.integers.proofs.Tests.{every, every_below, every_at_most}
use Rattle.arrays.specs.At.{at, atℤ}
use Rattle.thresholds.specs.inner.Choice.{Choosable}
use Rattle.arrays.specs.inner.Sizes.{most_length, most_height}
use Rattle.thresholds.proofs.Above.{above_four}

heights_meet : Choosable 2 2 (at (0 ∷ 1 ∷ [])) (atℤ (negsuc 0 ∷ pos 3 ∷ [])) (atℤ (pos 5 ∷ pos 4 ∷ []))
unfolding every
heights_meet =
    record {
      few_nodes = omega arith;
      some_node = omega arith;
      few_darts = omega arith;
      even = refl;
      tail_in = every_below 2 (at (0 ∷ 1 ∷ [])) (λ d. 2) refl;
      short = λ d l. record {
        low = every_at_most 2 (λ d. neg_ℤ (pos most_length)) (atℤ (negsuc 0 ∷ pos 3 ∷ [])) refl d l;
        high = every_at_most 2 (atℤ (negsuc 0 ∷ pos 3 ∷ [])) (λ d. pos most_length) refl d l;
      };
      low = λ v l. record {
        low = every_at_most 2 (λ v. neg_ℤ (pos most_height)) (atℤ (pos 5 ∷ pos 4 ∷ [])) refl v l;
        high = every_at_most 2 (atℤ (pos 5 ∷ pos 4 ∷ [])) (λ v. pos most_height) refl v l;
      };
      threshold = pos 4;
      negative = rw above_four (lt_z_yes tt);
    }
