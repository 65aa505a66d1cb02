-- A unit flow from s to t: one along a walk, minus one against it. It carries any value when multiplied, and sends the bound of a proving set out of a set.
use mathlib.Core.Path.{◌≡◌, refl, sym, ◌∙◌, ap, ap₂}
use mathlib.Core.Bool.{Bool, true, false, cond}
use Prim.Native.Nat.{ℕ, ◌<◌}
use native.Mathlib.Omega.{arith}
use lib.Dec.{eqb}
use lib.IntN.{ℤ, pos, neg_ℤ, ◌+ℤ◌, ◌-ℤ◌, ◌*ℤ◌, +ℤ_invr}
use Rattle.integers.specs.Sum.{Integers, when}
use Rattle.integers.proofs.Omega.{atoms₂, atoms₃, parts, equal}
use Rattle.integers.proofs.Laws.{neg_sub}
use Rattle.integers.proofs.Sums.{sum_ext, sum_nil, sum_pick}
use Rattle.integers.proofs.IntegerSums.{sum_sub, when_zero}
use Rattle.maps.specs.Dart.{rev}
use Rattle.maps.specs.Map.{Map, darts, head}
use Rattle.maps.specs.Walk.{Walk, here, along}
use Rattle.maps.specs.Flow.{Antisymmetric, net}
use Rattle.maps.proofs.Darts.{rev_rev, rev_in, eqb_rev}
use Rattle.flows.proofs.Nets.{net_add}
use Rattle.flows.specs.inner.UnitFlow.{UnitFlow, Carrier, single, walk_flow}

pub single_antisymmetric : (d i : ℕ) → single d (rev i) ≡ neg_ℤ (single d i)
single_antisymmetric d i =
    ap₂ (λ x y. when x (pos 1) -ℤ when y (pos 1)) (eqb_rev i d) (eqb_rev i (rev d) ∙ ap (eqb i) (rev_rev d))
    ∙ sym (neg_sub (when (eqb i d) (pos 1)) (when (eqb i (rev d)) (pos 1)))

pub single_net : (𝓜 : Map) (d : ℕ) → d < darts 𝓜 → (v : ℕ) → net 𝓜 (single d) v ≡ when (eqb v (𝓜.tail d)) (pos 1) -ℤ when (eqb v (head 𝓜 d)) (pos 1)
unfolding net
single_net 𝓜 d l v =
    sum_ext Integers (darts 𝓜) (λ i. when (eqb v (𝓜.tail i)) (single d i)) (λ i. cond (eqb i d) (unit i) (pos 0) -ℤ cond (eqb i (rev d)) (unit i) (pos 0))
    (λ i m. split (eqb v (𝓜.tail i)) (eqb i d) (eqb i (rev d)))
    ∙ sum_sub (darts 𝓜) (λ i. cond (eqb i d) (unit i) (pos 0)) (λ i. cond (eqb i (rev d)) (unit i) (pos 0))
    ∙ ap₂ ◌-ℤ◌ (sum_pick Integers (darts 𝓜) d unit l) (sum_pick Integers (darts 𝓜) (rev d) unit (rev_in 𝓜.edges d l))
  where
    unit : ℕ → ℤ
    unit i = when (eqb v (𝓜.tail i)) (pos 1)

    split : (t p q : Bool) → when t (when p (pos 1) -ℤ when q (pos 1)) ≡ cond p (when t (pos 1)) (pos 0) -ℤ cond q (when t (pos 1)) (pos 0)
    split true true true = refl
    split true true false = refl
    split true false true = refl
    split true false false = refl
    split false true true = refl
    split false true false = refl
    split false false true = refl
    split false false false = refl

walk_antisymmetric : {𝓜 : Map} {v w : ℕ} (r : Walk 𝓜 v w) (i : ℕ) → walk_flow r (rev i) ≡ neg_ℤ (walk_flow r i)
unfolding walk_flow
walk_antisymmetric here i = refl
walk_antisymmetric (along d l e r) i =
    ap₂ ◌+ℤ◌ (single_antisymmetric d i) (walk_antisymmetric r i) ∙ (let a = atoms₂ (single d i) (walk_flow r i) in equal (search parts) (omega arith))

walk_net : {𝓜 : Map} {v w : ℕ} (r : Walk 𝓜 v w) (u : ℕ) → net 𝓜 (walk_flow r) u ≡ when (eqb u v) (pos 1) -ℤ when (eqb u w) (pos 1)
unfolding walk_flow net
walk_net {𝓜} (here {v = v}) u =
    sum_nil Integers (darts 𝓜) (λ d. when (eqb u (𝓜.tail d)) (pos 0)) (λ d l. when_zero (eqb u (𝓜.tail d))) ∙ sym (+ℤ_invr (when (eqb u v) (pos 1)))
walk_net {𝓜} (along {v = v} {w = w} d l e r) u =
    net_add 𝓜 u (single d) (walk_flow r)
    ∙ ap₂ ◌+ℤ◌ (single_net 𝓜 d l u) (walk_net r u)
    ∙ (let a = atoms₃ (when (eqb u (𝓜.tail d)) (pos 1)) (when (eqb u (head 𝓜 d)) (pos 1)) (when (eqb u w) (pos 1)) in equal (search parts) (omega arith))
    ∙ ap (λ x. when (eqb u x) (pos 1) -ℤ when (eqb u w) (pos 1)) e

pub walk_unit : {𝓜 : Map} {s t : ℕ} (r : Walk 𝓜 s t) → UnitFlow 𝓜 s t (walk_flow r)
walk_unit r = record { antisymmetric = λ d l. walk_antisymmetric r d; nets = walk_net r }

-- ── what carries a value ──
pub unit_carries : {𝓜 : Map} {s t : ℕ} {π : ℕ → ℤ} → UnitFlow 𝓜 s t π → (value : ℤ) → Carrier 𝓜 s t value π
unit_carries unit value = record { antisymmetric = unit.antisymmetric; nets = λ v. ap (λ x. value *ℤ x) (unit.nets v) }

-- nothing is carried by anything
pub none_carried : {𝓜 : Map} {π : ℕ → ℤ} → Antisymmetric 𝓜 π → (s t : ℕ) (value : ℤ) → value ≡ pos 0 → Carrier 𝓜 s t value π
none_carried {𝓜} {π} anti s t value z = record {
  antisymmetric = anti;
  nets = λ v. rw z (nothing (net 𝓜 π v) (when (eqb v s) (pos 1) -ℤ when (eqb v t) (pos 1)));
}
  where
    nothing : (x y : ℤ) → pos 0 *ℤ x ≡ pos 0 *ℤ y
    nothing x y = let a = atoms₂ x y in equal (search parts) (omega arith)
