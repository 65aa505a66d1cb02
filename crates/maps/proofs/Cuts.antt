-- Cuts and flows: what a flow sends out of a set is the sum of the net flows of its nodes, so the value, with the sign of what the set separates, is at most
-- the capacity of the cut. Capacities may be below zero; flows may be whole numbers or, scaled by n, n-th parts.
use mathlib.Core.Path.{◌≡◌, sym, ◌∙◌, ap, ap₂}
use mathlib.Core.Logic.{◌≢◌}
use mathlib.Core.Bool.{Bool, true, cond}
use Prim.Native.Nat.{ℕ, suc, ◌*◌, ◌<◌}
use native.Mathlib.Omega.{arith}
use native.Mathlib.Decide.{ℕ_discrete}
use lib.Dec.{eqb}
use lib.IntN.{ℤ, pos, neg_ℤ, ◌+ℤ◌, ◌*ℤ◌, +ℤ_idr, +ℤ_idl, +ℤ_invr}
use lib.Signed.{◌≤ℤ◌}
use Rattle.integers.specs.Sum.{Integers, sumℤ, when}
use Rattle.integers.proofs.Omega.{atoms₃, parts, equal, from_equal}
use Rattle.integers.proofs.Laws.{mul_le_cancel}
use Rattle.integers.proofs.Tests.{eqb_true, eqb_false}
use Rattle.integers.proofs.Sums.{sum_ext, sum_nil, sum_add, sum_pick}
use Rattle.integers.proofs.IntegerSums.{sum_le, sum_mul, when_zero, when_neg, when_le, when_mul}
use Rattle.maps.specs.Map.{Map, darts}
use Rattle.maps.specs.Flow.{Antisymmetric, net, Flow}
use Rattle.maps.specs.Cut.{leaves, cut, sent}
use Rattle.maps.specs.Check.{InRange}
use Rattle.maps.proofs.LabelSums.{over_labels, over_exits, over_edges}

-- the cut identity
pub cut_identity : {𝓜 : Map} → InRange 𝓜 → (φ : ℕ → ℤ) → Antisymmetric 𝓜 φ → (S : ℕ → Bool) → cut 𝓜 φ S ≡ sumℤ 𝓜.nodes (λ v. when (S v) (net 𝓜 φ v))
unfolding cut net
cut_identity {𝓜} range φ anti S =
    sym (over_exits 𝓜.edges 𝓜.tail φ anti S) ∙ over_labels 𝓜.edges 𝓜.tail 𝓜.nodes φ range.tail_in S

-- all net flows add to nothing
pub net_total : {𝓜 : Map} → InRange 𝓜 → (φ : ℕ → ℤ) → Antisymmetric 𝓜 φ → sumℤ 𝓜.nodes (net 𝓜 φ) ≡ pos 0
unfolding net
net_total {𝓜} range φ anti =
    sym (over_labels 𝓜.edges 𝓜.tail 𝓜.nodes φ range.tail_in (λ v. true))
    ∙ sym (over_edges 𝓜.edges 𝓜.tail φ (λ v. true) anti)
    ∙ sum_nil Integers 𝓜.edges (λ e. φ (2 * e) +ℤ neg_ℤ (φ (2 * e))) (λ e l. +ℤ_invr (φ (2 * e)))

-- a sum over the nodes of what is zero but at s and t
sum_two : (n s t : ℕ) (f : ℕ → ℤ) → s < n → t < n → s ≢ t → ((v : ℕ) → v < n → v ≢ s → v ≢ t → f v ≡ pos 0) → sumℤ n f ≡ f s +ℤ f t
sum_two n s t f ls lt ne rest =
    sum_ext Integers n f (λ v. cond (eqb v s) (f v) (pos 0) +ℤ cond (eqb v t) (f v) (pos 0)) (λ v l. point v l (ℕ_discrete v s) (ℕ_discrete v t))
    ∙ sum_add Integers n (λ v. cond (eqb v s) (f v) (pos 0)) (λ v. cond (eqb v t) (f v) (pos 0))
    ∙ ap₂ ◌+ℤ◌ (sum_pick Integers n s f ls) (sum_pick Integers n t f lt)
  where
    point : (v : ℕ) → v < n → Dec (v ≡ s) → Dec (v ≡ t) → f v ≡ cond (eqb v s) (f v) (pos 0) +ℤ cond (eqb v t) (f v) (pos 0)
    point v l (yes p) (yes q) = absurd (ne (sym p ∙ q))
    point v l (yes p) (no q) = rw (eqb_true v s p, eqb_false v t q) (sym (+ℤ_idr (f v)))
    point v l (no p) (yes q) = rw (eqb_false v s p, eqb_true v t q) (sym (+ℤ_idl (f v)))
    point v l (no p) (no q) = rw (eqb_false v s p, eqb_false v t q) (rest v l p q)

module _ {𝓜 : Map} (range : InRange 𝓜) {s t : ℕ} (s_in : s < 𝓜.nodes) (t_in : t < 𝓜.nodes) (s≢t : s ≢ t) where
  module _ {c : ℕ → ℤ} {value : ℤ} {φ : ℕ → ℤ} (flow : Flow 𝓜 c s t value φ) where
    -- what leaves the source arrives at the sink
    pub sink_takes : net 𝓜 φ t ≡ neg_ℤ value
    sink_takes =
        let a = atoms₃ (net 𝓜 φ s) (net 𝓜 φ t) value in
        equal (search parts) (omega (arith, from_equal balance (search parts), from_equal flow.carries (search parts)))
      where
        balance : net 𝓜 φ s +ℤ net 𝓜 φ t ≡ pos 0
        balance = sym (sum_two 𝓜.nodes s t (net 𝓜 φ) s_in t_in s≢t flow.balanced) ∙ net_total range φ flow.antisymmetric

    -- out of a set goes the value, its negative or nothing
    pub flow_sent : (S : ℕ → Bool) → cut 𝓜 φ S ≡ sent S s t value
    flow_sent S =
        cut_identity range φ flow.antisymmetric S
        ∙ sum_two 𝓜.nodes s t (λ v. when (S v) (net 𝓜 φ v)) s_in t_in s≢t (λ v l p q. ap (when (S v)) (flow.balanced v l p q) ∙ when_zero (S v))
        ∙ ap₂ ◌+ℤ◌ (ap (when (S s)) flow.carries) (ap (when (S t)) sink_takes ∙ when_neg (S t) value)

    -- the cut bound
    pub cut_bound : (S : ℕ → Bool) → sent S s t value ≤ℤ cut 𝓜 c S
    unfolding cut
    cut_bound S =
        rw (← flow_sent S)
        (sum_le (darts 𝓜) (λ d. when (leaves 𝓜 S d) (φ d)) (λ d. when (leaves 𝓜 S d) (c d)) (λ d l. when_le (leaves 𝓜 S d) (flow.within d l)))

  -- the same for flows counted in (n + 1)-th parts: capacities and value are n + 1 times as many parts
  pub cut_bound_parts : (c : ℕ → ℤ) (value : ℤ) {φ : ℕ → ℤ} (n : ℕ) → Flow 𝓜 (λ d. pos (suc n) *ℤ c d) s t (pos (suc n) *ℤ value) φ
      → (S : ℕ → Bool) → sent S s t value ≤ℤ cut 𝓜 c S
  unfolding cut
  cut_bound_parts c value n flow S = mul_le_cancel n (sent S s t value) (cut 𝓜 c S) (rw (← scaled_sent, ← scaled_cut) (cut_bound flow S))
    where
      k : ℤ
      k = pos (suc n)

      scaled_sent : sent S s t (k *ℤ value) ≡ k *ℤ sent S s t value
      scaled_sent =
          ap₂ (λ x y. x +ℤ neg_ℤ y) (when_mul (S s) k value) (when_mul (S t) k value)
          ∙ (let a = atoms₃ k (when (S s) value) (when (S t) value) in equal (search parts) (omega arith))

      scaled_cut : cut 𝓜 (λ d. k *ℤ c d) S ≡ k *ℤ cut 𝓜 c S
      scaled_cut =
          sum_ext Integers (darts 𝓜) (λ d. when (leaves 𝓜 S d) (k *ℤ c d)) (λ d. k *ℤ when (leaves 𝓜 S d) (c d)) (λ d l. when_mul (leaves 𝓜 S d) k (c d))
          ∙ sum_mul (darts 𝓜) k (λ d. when (leaves 𝓜 S d) (c d))
