-- A cut counts at most one dart of each edge, so with capacities of at most C in magnitude it is at most edges · C in magnitude; and so is the value of a flow,
-- which is the cut of its own flow out of {s}.
use mathlib.Core.Path.{◌≡◌, refl, ◌∙◌, ap₂}
use mathlib.Core.Logic.{◌≢◌}
use mathlib.Core.Bool.{Bool, true, false, not, ◌&&◌}
use Prim.Native.Nat.{ℕ, ◌+◌, ◌*◌, ◌≤◌, ◌<◌}
use native.Mathlib.Omega.{arith}
use lib.Dec.{eqb}
use lib.IntN.{ℤ, pos, ◌+ℤ◌, ◌-ℤ◌, +ℤ_idl, +ℤ_idr}
use lib.Signed.{◌≤ℤ◌}
use Rattle.integers.specs.Sum.{Integers, when}
use Rattle.integers.specs.inner.Limited.{Limited}
use Rattle.integers.proofs.Limits.{limited_zero, limited_more, limited_sum}
use Rattle.integers.proofs.Tests.{eqb_true, eqb_false}
use Rattle.integers.proofs.Sums.{sum_pairs}
use Rattle.maps.specs.Map.{Map, darts}
use Rattle.maps.specs.Check.{InRange}
use Rattle.maps.specs.Cut.{leaves, cut}
use Rattle.maps.proofs.Darts.{rev_even, rev_odd}
use Rattle.maps.proofs.Cuts.{flow_sent}
use Rattle.flows.specs.Settings.{on_darts, Carries}
use Rattle.flows.proofs.Limits.{settings_limited}

pub cut_limited : (𝓜 : Map) (C : ℕ) (c : ℕ → ℤ) → ((d : ℕ) → d < darts 𝓜 → Limited C (c d)) → (S : ℕ → Bool) → Limited (𝓜.edges * C) (cut 𝓜 c S)
unfolding cut
cut_limited 𝓜 C c small S =
    rw (sum_pairs Integers 𝓜.edges (λ d. when (leaves 𝓜 S d) (c d)))
    (limited_sum 𝓜.edges C (λ e. when (leaves 𝓜 S (2 * e)) (c (2 * e)) +ℤ when (leaves 𝓜 S (2 * e + 1)) (c (2 * e + 1))) edge)
  where
    -- the tail of an edge is in S (a) and its head is (b)
    one_of : (a b : Bool) (x y : ℤ) → Limited C x → Limited C y → Limited C (when (a && not b) x +ℤ when (b && not a) y)
    one_of true true x y h g = limited_zero C
    one_of true false x y h g = rw (+ℤ_idr x) h
    one_of false true x y h g = rw (+ℤ_idl y) g
    one_of false false x y h g = limited_zero C

    edge : (e : ℕ) → e < 𝓜.edges → Limited C (when (leaves 𝓜 S (2 * e)) (c (2 * e)) +ℤ when (leaves 𝓜 S (2 * e + 1)) (c (2 * e + 1)))
    edge e l =
        rw heads (one_of (S (𝓜.tail (2 * e))) (S (𝓜.tail (2 * e + 1))) (c (2 * e))
        (c (2 * e + 1)) (small (2 * e) (omega arith)) (small (2 * e + 1) (omega arith)))
      where
        heads : when (leaves 𝓜 S (2 * e)) (c (2 * e)) +ℤ when (leaves 𝓜 S (2 * e + 1)) (c (2 * e + 1))
            ≡ when (S (𝓜.tail (2 * e)) && not (S (𝓜.tail (2 * e + 1)))) (c (2 * e))
            +ℤ when (S (𝓜.tail (2 * e + 1)) && not (S (𝓜.tail (2 * e)))) (c (2 * e + 1))
        heads =
            ap₂ (λ x y. when (S (𝓜.tail (2 * e)) && not (S (𝓜.tail x))) (c (2 * e)) +ℤ when (S (𝓜.tail (2 * e + 1)) && not (S (𝓜.tail y))) (c (2 * e + 1)))
            (rev_even e) (rev_odd e)

module _ {𝓜 : Map} (range : InRange 𝓜) {s t : ℕ} (s_in : s < 𝓜.nodes) (t_in : t < 𝓜.nodes) (s≢t : s ≢ t) (c : ℕ → ℤ) where
  pub value_limited : (C : ℕ) → ((d : ℕ) → d < darts 𝓜 → c d ≤ℤ pos C) → (value : ℤ) (x : ℕ → ℤ) → Carries 𝓜 c s t value x → Limited (𝓜.edges * C) value
  value_limited C low value x flow = rw out at (cut_limited 𝓜 C (on_darts x) (settings_limited 𝓜 C c x low flow.within) (eqb s))
    where
      out : cut 𝓜 (on_darts x) (eqb s) ≡ value
      out =
          flow_sent range s_in t_in s≢t flow (eqb s)
          ∙ ap₂ (λ a b. when a value -ℤ when b value) (eqb_true s s refl) (eqb_false s t s≢t)
          ∙ +ℤ_idr value

  -- ── in a sheet ──
  pub value_small : 𝓜.edges ≤ 512 → ((d : ℕ) → d < darts 𝓜 → c d ≤ℤ pos 1000000) → (value : ℤ) (x : ℕ → ℤ) → Carries 𝓜 c s t value x → Limited 512000000 value
  value_small few low value x flow = limited_more (omega arith) (value_limited 1000000 low value x flow)

pub cut_small : (𝓜 : Map) (c : ℕ → ℤ) → 𝓜.edges ≤ 512 → ((d : ℕ) → d < darts 𝓜 → Limited 1000000 (c d)) → (S : ℕ → Bool) → Limited 512000000 (cut 𝓜 c S)
cut_small 𝓜 c few small S = limited_more (omega arith) (cut_limited 𝓜 1000000 c small S)
