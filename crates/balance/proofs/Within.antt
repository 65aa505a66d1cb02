-- Refusal 17: none holds if and only if no dart carries more than its capacity; and then the flows are small where the capacities are.
use mathlib.Core.Logic.{◌⊎◌, inl, inr}
use Prim.Native.Nat.{ℕ, ◌+◌, ◌*◌, ◌<◌}
use native.Mathlib.Omega.{arith}
use lib.IntN.{ℤ, pos, negsuc, neg_ℤ}
use lib.Signed.{◌≤ℤ◌, ◌<ℤ◌}
use Rattle.integers.proofs.Omega.{atoms₁, parts, at_most, from_at_most}
use Rattle.integers.proofs.Laws.{lt_or_ge, lt_le_clash, le_trans}
use Rattle.refusals.specs.Order.{NoneOf, FirstOf}
use Rattle.refusals.proofs.Order.{neither, first_none}
use Rattle.maps.specs.Map.{Map}
use Rattle.maps.proofs.Darts.{by_edge}
use Rattle.flows.specs.Settings.{on_darts, Within}
use Rattle.flows.specs.Check.{Exceeds, within_checks}
use Rattle.flows.proofs.OnDarts.{on_darts_even, on_darts_odd}
use Rattle.balance.specs.inner.SmallFlows.{SmallFlows}
use Rattle.balance.proofs.Lowest.{none_holds, holds_none}

not_less : (x y : ℤ) → (x <ℤ y → ⊥) → y ≤ℤ x
not_less x y h = go (lt_or_ge x y)
  where
    go : (x <ℤ y) ⊎ (y ≤ℤ x) → y ≤ℤ x
    go (inl l) = absurd (h l)
    go (inr l) = l

module _ (edges : ℕ) (c x : ℕ → ℤ) (none : NoneOf (within_checks edges c x)) where
  none_exceeds : (e : ℕ) → e < edges → Exceeds c x e → ⊥
  unfolding within_checks
  none_exceeds = holds_none edges 17 (Exceeds c x) none

  pub none_forward : (e : ℕ) → e < edges → x e ≤ℤ c (2 * e)
  none_forward e l = not_less (c (2 * e)) (x e) (λ m. none_exceeds e l (inl m))

  pub none_backward : (e : ℕ) → e < edges → neg_ℤ (x e) ≤ℤ c (2 * e + 1)
  none_backward e l = not_less (c (2 * e + 1)) (neg_ℤ (x e)) (λ m. none_exceeds e l (inr m))

module _ (𝓜 : Map) (c x : ℕ → ℤ) where
  pub none_within : NoneOf (within_checks 𝓜.edges c x) → Within 𝓜 c x
  none_within h =
      by_edge 𝓜.edges (λ d. on_darts x d ≤ℤ c d)
      (λ e l. rw on_darts_even (none_forward 𝓜.edges c x h e l))
      (λ e l. rw on_darts_odd (none_backward 𝓜.edges c x h e l))

  pub within_none : Within 𝓜 c x → NoneOf (within_checks 𝓜.edges c x)
  unfolding within_checks
  within_none h =
      none_holds 𝓜.edges 17 (Exceeds c x) (λ e l. neither
      (λ m. lt_le_clash m (rw on_darts_even at (h (2 * e) (omega arith))))
      (λ m. lt_le_clash m (rw on_darts_odd at (h (2 * e + 1) (omega arith)))))

  pub first_not_within : (k p : ℕ) → FirstOf (within_checks 𝓜.edges c x) k p → Within 𝓜 c x → ⊥
  first_not_within k p h w = first_none _ k p h (within_none w)

-- what `fill_nets` requires of the flows: they keep within capacities that are from -1,000,000 to 1,000,000
pub small_flows : (edges : ℕ) (c x : ℕ → ℤ) → NoneOf (within_checks edges c x)
    → ((d : ℕ) → d < 2 * edges → (c d <ℤ negsuc 999999) ⊎ (pos 1000000 <ℤ c d) → ⊥) → SmallFlows edges x
small_flows edges c x h g e l =
    let high : (d : ℕ) → d < 2 * edges → c d ≤ℤ pos 1000000 = λ d m. not_less (pos 1000000) (c d) (λ k. g d m (inr k)) in
    let forward = le_trans (none_forward edges c x h e l) (high (2 * e) (omega arith)) in
    let backward = le_trans (none_backward edges c x h e l) (high (2 * e + 1) (omega arith)) in
    let a = atoms₁ (x e) in
    record { low = at_most (search parts) (omega (arith, from_at_most backward (search parts))); high = forward }
