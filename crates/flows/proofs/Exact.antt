-- Proving sets exclude, and rings yield them: a set whose outward total is below its bound excludes the value;
-- a ring of faces of negative total length gives such a set.
use mathlib.Core.Path.{◌≡◌, refl, sym, ◌∙◌, ap, ap₂}
use mathlib.Core.Logic.{◌≢◌}
use mathlib.Core.Bool.{Bool, true, false, cond}
use Prim.Native.Nat.{ℕ, ◌<◌}
use native.Mathlib.Omega.{arith}
use lib.Dec.{eqb}
use lib.IntN.{ℤ, pos, neg_ℤ, ◌+ℤ◌, ◌-ℤ◌, ◌*ℤ◌, +ℤ_idl, +ℤ_idr, +ℤ_invr}
use lib.Signed.{◌≤ℤ◌, ◌<ℤ◌}
use Rattle.integers.specs.Sum.{Integers, when}
use Rattle.integers.proofs.Omega.{atoms₁, atoms₂, atoms₃, parts, equal, less, at_most, from_less, from_at_most}
use Rattle.integers.proofs.Laws.{lt_le_clash}
use Rattle.integers.proofs.Sums.{sum_ext}
use Rattle.integers.proofs.IntegerSums.{sum_sub, when_neg, when_add}
use Rattle.maps.specs.Dart.{rev}
use Rattle.maps.specs.Map.{Map, darts}
use Rattle.maps.specs.Check.{InRange}
use Rattle.maps.specs.Flow.{net, Flow}
use Rattle.maps.specs.Cut.{leaves, cut, sent}
use Rattle.maps.specs.inner.FaceWalk.{FaceWalk, total}
use Rattle.maps.specs.Potential.{Heights}
use Rattle.maps.proofs.Cuts.{cut_bound, flow_sent}
use Rattle.maps.proofs.LayerCake.{above}
use Rattle.maps.proofs.Rings.{winding, ring_heights, ring_threshold}
use Rattle.flows.specs.Settings.{Carries}
use Rattle.flows.specs.ProvingSet.{bound, Proves}
use Rattle.flows.proofs.Nets.{net_mul}
use Rattle.flows.specs.inner.Plane.{Plane}
use Rattle.flows.specs.inner.UnitFlow.{Carrier}
use Rattle.flows.specs.inner.Lengths.{length_for}

-- the bound of a set is what a flow of the value sends out of it
pub bound_sent : (S : ℕ → Bool) (s t : ℕ) (value : ℤ) → bound S s t value ≡ sent S s t value
unfolding bound
bound_sent S s t value = go (S s) (S t)
  where
    go : (a b : Bool) → cond a (cond b (pos 0) value) (cond b (neg_ℤ value) (pos 0)) ≡ when a value -ℤ when b value
    go true true = sym (+ℤ_invr value)
    go true false = sym (+ℤ_idr value)
    go false true = sym (+ℤ_idl (neg_ℤ value))
    go false false = refl

module _ {𝓜 : Map} (range : InRange 𝓜) {s t : ℕ} (s_in : s < 𝓜.nodes) (t_in : t < 𝓜.nodes) (s≢t : s ≢ t) (c : ℕ → ℤ) where
  pub proves_excludes : (value : ℤ) (S : ℕ → Bool) → Proves 𝓜 c s t value S → (x : ℕ → ℤ) → Carries 𝓜 c s t value x → ⊥
  proves_excludes value S short x flow = lt_le_clash short (rw (bound_sent S s t value) (cut_bound range s_in t_in s≢t flow S))

  -- a cut of the lengths is the cut of the capacities less what the value sends
  module _ {π : ℕ → ℤ} (value : ℤ) (carrier : Carrier 𝓜 s t value π) where
    sent_unit : (S : ℕ → Bool) → cut 𝓜 (λ d. value *ℤ π d) S ≡ sent S s t value
    sent_unit S = flow_sent range s_in t_in s≢t {c = λ d. value *ℤ π d} {value = value} {φ = λ d. value *ℤ π d} flow S
      where
        nets : (v : ℕ) → net 𝓜 (λ d. value *ℤ π d) v ≡ value *ℤ (when (eqb v s) (pos 1) -ℤ when (eqb v t) (pos 1))
        nets v = net_mul 𝓜 v value π ∙ carrier.nets v

        flow : Flow 𝓜 (λ d. value *ℤ π d) s t value (λ d. value *ℤ π d)
        flow = record {
          antisymmetric = λ d l. ap (λ x. value *ℤ x) (carrier.antisymmetric d l) ∙ (let a = atoms₂ value (π d) in equal (search parts) (omega arith));
          within = λ d l. let a = atoms₂ value (π d) in at_most (search parts) (omega arith);
          balanced = λ v l p q.
              nets v
              ∙ ap₂ (λ x y. value *ℤ (when x (pos 1) -ℤ when y (pos 1)))
              (Rattle.integers.proofs.Tests.eqb_false v s p) (Rattle.integers.proofs.Tests.eqb_false v t q)
              ∙ (let a = atoms₁ value in equal (search parts) (omega arith));
          carries =
              nets s
              ∙ ap₂ (λ x y. value *ℤ (when x (pos 1) -ℤ when y (pos 1)))
              (Rattle.integers.proofs.Tests.eqb_true s s refl) (Rattle.integers.proofs.Tests.eqb_false s t s≢t)
              ∙ (let a = atoms₁ value in equal (search parts) (omega arith));
        }

    pub length_cut : (S : ℕ → Bool) → cut 𝓜 (length_for c π value) S ≡ cut 𝓜 c S -ℤ bound S s t value
    unfolding cut
    length_cut S =
        sum_ext Integers (darts 𝓜) (λ d. when (leaves 𝓜 S d) (c d -ℤ value *ℤ π d))
        (λ d. when (leaves 𝓜 S d) (c d) -ℤ when (leaves 𝓜 S d) (value *ℤ π d)) (λ d l. split (leaves 𝓜 S d) (c d) (value *ℤ π d))
        ∙ sum_sub (darts 𝓜) (λ d. when (leaves 𝓜 S d) (c d)) (λ d. when (leaves 𝓜 S d) (value *ℤ π d))
        ∙ ap (λ x. cut 𝓜 c S -ℤ x) (sent_unit S ∙ sym (bound_sent S s t value))
      where
        split : (b : Bool) (x y : ℤ) → when b (x -ℤ y) ≡ when b x -ℤ when b y
        split b x y = when_add b x (neg_ℤ y) ∙ ap (λ z. when b x +ℤ z) (when_neg b y)

    -- a set whose cut of the lengths is negative proves the value impossible
    pub negative_proves : (S : ℕ → Bool) → cut 𝓜 (length_for c π value) S <ℤ pos 0 → Proves 𝓜 c s t value S
    negative_proves S h =
        let a = atoms₂ (cut 𝓜 c S) (bound S s t value) in
        less (search parts) (omega (arith, from_less (rw (length_cut S) at h) (search parts)))

    -- lengths of the two darts of an edge add up as their capacities do
    pub length_pairs : ((d : ℕ) → d < darts 𝓜 → pos 0 ≤ℤ (c d +ℤ c (rev d))) → (d : ℕ)
        → d < darts 𝓜 → pos 0 ≤ℤ (length_for c π value d +ℤ length_for c π value (rev d))
    length_pairs h d l =
        rw (carrier.antisymmetric d l)
        (let a = atoms₃ (c d) (c (rev d)) value in let b = atoms₁ (π d) in at_most (search parts) (omega (arith, from_at_most (h d l) (search parts))))

-- for any heights of the winding of a negative ring, some threshold set proves the value impossible
pub ring_proves : {𝓜 : Map} → Plane 𝓜 → {s t : ℕ} → s < 𝓜.nodes → t < 𝓜.nodes → s ≢ t → (c : ℕ → ℤ) → ((d : ℕ) → d < darts 𝓜 → pos 0 ≤ℤ (c d +ℤ c (rev d)))
    → {π : ℕ → ℤ} (value : ℤ) (carrier : Carrier 𝓜 s t value π) {f : ℕ} (w : FaceWalk 𝓜 f f) → total (length_for c π value) w <ℤ pos 0
    → (h : ℕ → ℤ) → Heights 𝓜 (winding w) h → (θ : ℤ) × (cut 𝓜 (length_for c π value) (above h θ) <ℤ pos 0) × Proves 𝓜 c s t value (above h θ)
ring_proves p s_in t_in s≢t c pairs {π = π} value carrier w short h heights =
    let r = ring_threshold p.sound (length_for c π value) (length_pairs p.sound.range s_in t_in s≢t c value carrier pairs) w short h heights in
    (r.0, r.1, negative_proves p.sound.range s_in t_in s≢t c value carrier (above h r.0) r.1)

pub ring_heights_exist : {𝓜 : Map} → Plane 𝓜 → {f : ℕ} (w : FaceWalk 𝓜 f f) → (h : ℕ → ℤ) × Heights 𝓜 (winding w) h
ring_heights_exist p w = ring_heights p.sound p.flat.components p.flat.in-each w
