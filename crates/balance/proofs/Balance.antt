-- Refusal 18: what `check_balance` judges is the map's own check, and none holds if and only if the flows are balanced, or carry a value.
use mathlib.Core.Path.{◌≡◌, refl, sym, ◌∙◌}
use mathlib.Core.Logic.{◌≢◌, inl, inr}
use Prim.Native.Nat.{ℕ, ◌≤◌, ◌<◌}
use native.Mathlib.Omega.{arith}
use lib.IntN.{ℤ, pos, ℤ_discrete}
use Rattle.refusals.specs.Order.{NoneOf, Judged}
use Rattle.std.specs.Prelude.{Result}
use Rattle.refusals.specs.declared.Refusal.{Refusal}
use Rattle.refusals.proofs.Order.{neither}
use Rattle.refusals.proofs.Same.{Same, same_in_turn, judged_same}
use Rattle.maps.specs.Map.{Map}
use Rattle.maps.specs.Flow.{net}
use Rattle.flows.specs.Settings.{on_darts, Carries, Balanced}
use Rattle.flows.specs.Check.{within_checks, balance_checks, EndOf, NoNode}
use Rattle.flows.proofs.OnDarts.{on_darts_antisymmetric}
use Rattle.balance.specs.inner.Check.{off_checks}
use Rattle.balance.proofs.Lowest.{none_holds, holds_none}
use Rattle.balance.proofs.Within.{none_within, within_none}

not_other : (z : ℤ) → (z ≢ pos 0 → ⊥) → z ≡ pos 0
not_other z h = go (ℤ_discrete z (pos 0))
  where
    go : Dec (z ≡ pos 0) → z ≡ pos 0
    go (yes e) = e
    go (no e) = absurd (h e)

module _ (𝓜 : Map) (x : ℕ → ℤ) where
  -- no check holds: every node that is not excused is in balance, and conversely
  none_balanced : (Excused : ℕ → Type 0) → NoneOf (balance_checks 𝓜 Excused x)
      → (v : ℕ) → v < 𝓜.nodes → (Excused v → ⊥) → net 𝓜 (on_darts x) v ≡ pos 0
  unfolding balance_checks
  none_balanced Excused h v l e = not_other _ (λ ne. holds_none 𝓜.nodes 18 _ h v l (e, ne))

  balanced_none : (Excused : ℕ → Type 0) → ((v : ℕ) → v < 𝓜.nodes → (Excused v → ⊥) → net 𝓜 (on_darts x) v ≡ pos 0)
      → NoneOf (balance_checks 𝓜 Excused x)
  unfolding balance_checks
  balanced_none Excused h = none_holds 𝓜.nodes 18 _ (λ v l p. p.1 (h v l p.0))

  -- ── balanced at every node ──
  pub none_circulation : NoneOf (balance_checks 𝓜 NoNode x) → Balanced 𝓜 x
  none_circulation h = record { antisymmetric = on_darts_antisymmetric 𝓜 x; balanced = λ v l. none_balanced NoNode h v l (λ b. b) }

  pub circulation_none : Balanced 𝓜 x → NoneOf (balance_checks 𝓜 NoNode x)
  circulation_none h = balanced_none NoNode (λ v l e. h.balanced v l)

  -- ── carrying a value from s to t ──
  pub none_carries : (c : ℕ → ℤ) (s t : ℕ) → NoneOf (within_checks 𝓜.edges c x) → NoneOf (balance_checks 𝓜 (EndOf s t) x)
      → Carries 𝓜 c s t (net 𝓜 (on_darts x) s) x
  none_carries c s t w h =
      record {
        antisymmetric = on_darts_antisymmetric 𝓜 x;
        within = none_within 𝓜 c x w;
        balanced = λ v l p q. none_balanced (EndOf s t) h v l (neither p q);
        carries = refl;
      }

  pub carries_none : (c : ℕ → ℤ) (s t : ℕ) (value : ℤ) → Carries 𝓜 c s t value x
      → NoneOf (within_checks 𝓜.edges c x) × NoneOf (balance_checks 𝓜 (EndOf s t) x)
  carries_none c s t value h =
      (within_none 𝓜 c x h.within, balanced_none (EndOf s t) (λ v l e. h.balanced v l (λ p. e (inl p)) (λ q. e (inr q))))

  -- ── what `check_balance` judges, where its sums are the net flows ──
  module _ (nets : ℕ → ℤ) (are : (v : ℕ) → v < 𝓜.nodes → nets v ≡ net 𝓜 (on_darts x) v) where
    -- the ends a and b are excused
    pub judged_ends : (a b : ℕ) (r : Result Unit Refusal) → Judged (off_checks 𝓜.nodes a b nets) r → Judged (balance_checks 𝓜 (EndOf a b) x) r
    unfolding off_checks balance_checks Same
    judged_ends a b r h =
        judged_same _ _ r (same_in_turn 𝓜.nodes _ _ (λ v l. (
          refl,
          refl,
          (λ p. (p.0, λ e. p.1 (are v l ∙ e))),
          (λ p. (p.0, λ e. p.1 (sym (are v l) ∙ e))),
          tt,
        ))) h

    -- a and b are no nodes: no node is excused
    pub judged_all : (a b : ℕ) (r : Result Unit Refusal) → 𝓜.nodes ≤ a → 𝓜.nodes ≤ b
        → Judged (off_checks 𝓜.nodes a b nets) r → Judged (balance_checks 𝓜 NoNode x) r
    unfolding off_checks balance_checks Same
    judged_all a b r la lb h =
        judged_same _ _ r (same_in_turn 𝓜.nodes _ _ (λ v l. (
          refl,
          refl,
          (λ p. ((λ n. n), λ e. p.1 (are v l ∙ e))),
          (λ p. (neither (λ e. omega arith) (λ e. omega arith), λ e. p.1 (sym (are v l) ∙ e))),
          tt,
        ))) h
