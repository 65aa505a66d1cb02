-- Between two values that can be carried each whole number can (document 02, Job 4). Each of the two flows, less its value along a path, has potentials that no
-- dart can lower. Weighed by how far the value between is from the other one, and rounded down, they are potentials of a flow of that value: differences
-- bounded by whole numbers stay so when both sides are rounded down.
use mathlib.Core.Path.{◌≡◌, refl, sym, ◌∙◌, ap, ap₂, subst}
use mathlib.Core.Logic.{◌≢◌}
use Prim.Native.Nat.{ℕ, zero, suc, ◌+◌, ◌-◌, ◌<◌}
use native.Mathlib.Omega.{arith}
use native.Mathlib.Decide.{ℕ_discrete}
use lib.Dec.{eqb}
use lib.IntN.{ℤ, pos, ◌+ℤ◌, ◌-ℤ◌, ◌*ℤ◌, +ℤ_invr}
use lib.Signed.{◌≤ℤ◌}
use Rattle.integers.specs.Sum.{when}
use Rattle.integers.proofs.Omega.{atom, positive, negative, atoms₁, atoms₂, atoms₃, atoms₄, atoms₅, parts, equal, at_most, from_equal, from_at_most}
use Rattle.integers.proofs.Laws.{le_add, mul_le, mul_distrib_right}
use Rattle.integers.proofs.Tests.{eqb_true, eqb_false}
use Rattle.integers.proofs.Rounding.{floor, floor_step}
use Rattle.maps.specs.Map.{Map, darts}
use Rattle.maps.specs.Face.{left, right}
use Rattle.maps.specs.Walk.{Walk}
use Rattle.maps.specs.Flow.{net, Circulation}
use Rattle.maps.specs.Potential.{Potentials}
use Rattle.maps.proofs.Walks.{walk_decided}
use Rattle.maps.proofs.Cuts.{sink_takes}
use Rattle.flows.specs.Settings.{on_darts, Carries}
use Rattle.flows.specs.inner.Plane.{Plane}
use Rattle.flows.specs.ZeroFace.{ZeroFace}
use Rattle.flows.specs.inner.UnitFlow.{UnitFlow, walk_flow}
use Rattle.flows.specs.inner.Lengths.{length_for, Feasible, edge_flow}
use Rattle.flows.proofs.Nets.{net_sub, net_mul}
use Rattle.flows.proofs.Plane.{potentials_at}
use Rattle.flows.proofs.UnitFlow.{walk_unit, unit_carries}
use Rattle.flows.proofs.Apart.{apart_zero}
use Rattle.flows.proofs.Lengths.{feasible_carries}

module _ {𝓜 : Map} (p : Plane 𝓜) {s t : ℕ} (s_in : s < 𝓜.nodes) (t_in : t < 𝓜.nodes) (s≢t : s ≢ t) (c : ℕ → ℤ) where
  -- the net flows of a flow: the value at the source, its negative at the sink, nothing elsewhere
  abbrev ends : ℕ → ℤ
  ends v = when (eqb v s) (pos 1) -ℤ when (eqb v t) (pos 1)

  flow_nets : (value : ℤ) (x : ℕ → ℤ) → Carries 𝓜 c s t value x → (v : ℕ) → v < 𝓜.nodes → net 𝓜 (on_darts x) v ≡ value *ℤ ends v
  flow_nets value x flow v l = go (ℕ_discrete v s) (ℕ_discrete v t)
    where
      go : Dec (v ≡ s) → Dec (v ≡ t) → net 𝓜 (on_darts x) v ≡ value *ℤ ends v
      go (yes e) q =
          ap (net 𝓜 (on_darts x)) e ∙ flow.carries
          ∙ (rw (eqb_true v s e, eqb_false v t (λ h. s≢t (sym e ∙ h))) (let a = atoms₁ value in equal (search parts) (omega arith)))
      go (no e) (yes q) =
          ap (net 𝓜 (on_darts x)) q ∙ sink_takes p.sound.range s_in t_in s≢t flow
          ∙ (rw (eqb_false v s e, eqb_true v t q) (let a = atoms₁ value in equal (search parts) (omega arith)))
      go (no e) (no q) =
          flow.balanced v l e q
          ∙ (rw (eqb_false v s e, eqb_false v t q) (let a = atoms₁ value in equal (search parts) (omega arith)))

  module _ {π : ℕ → ℤ} (unit : UnitFlow 𝓜 s t π) where
    -- a flow less its value along a unit flow is balanced, so it has potentials that no dart can lower
    less_unit : (value : ℤ) (x : ℕ → ℤ) → Carries 𝓜 c s t value x → Circulation 𝓜 (λ d. on_darts x d -ℤ value *ℤ π d)
    less_unit value x flow = record {
      antisymmetric = λ d l.
          ap₂ (λ a b. a -ℤ value *ℤ b) (flow.antisymmetric d l) (unit.antisymmetric d l)
          ∙ (let a = atoms₃ (on_darts x d) value (π d) in equal (search parts) (omega arith));
      balanced = λ v l.
          net_sub 𝓜 v (on_darts x) (λ d. value *ℤ π d)
          ∙ ap₂ ◌-ℤ◌ (flow_nets value x flow v l) (net_mul 𝓜 v value π ∙ ap (λ z. value *ℤ z) (unit.nets v))
          ∙ +ℤ_invr (value *ℤ ends v);
    }

    feasible_of : (outer : ℕ) → outer < darts 𝓜 → (value : ℤ) (x : ℕ → ℤ) → Carries 𝓜 c s t value x
        → (ρ : ℕ → ℤ) × Feasible 𝓜 (length_for c π value) ρ
    feasible_of outer outer_in value x flow = (r.0, low)
      where
        r : (ρ : ℕ → ℤ) × Potentials 𝓜 (λ d. on_darts x d -ℤ value *ℤ π d) ρ × ((f : ℕ) → ZeroFace 𝓜 outer f → ρ f ≡ pos 0)
        r = potentials_at p outer outer_in (λ d. on_darts x d -ℤ value *ℤ π d) (less_unit value x flow)

        low : Feasible 𝓜 (length_for c π value) r.0
        low d l =
            let a = atoms₅ (on_darts x d) (value *ℤ π d) (c d) (r.0 (left 𝓜 d)) (r.0 (right 𝓜 d)) in
            at_most (search parts) (omega (arith, from_equal (r.1 d l) (search parts), from_at_most (flow.within d l) (search parts)))

-- ── two potentials weighed ──
-- the length for a value b lower, and for one a higher
length_lower : (x v u b : ℤ) → x -ℤ (v -ℤ b) *ℤ u ≡ (x -ℤ v *ℤ u) +ℤ b *ℤ u
length_lower x v u b = let k = atoms₄ x v u b in equal (search parts) (omega arith)

length_higher : (x v u a : ℤ) → x -ℤ (v +ℤ a) *ℤ u ≡ (x -ℤ v *ℤ u) -ℤ a *ℤ u
length_higher x v u a = let k = atoms₄ x v u a in equal (search parts) (omega arith)

-- a times the one and b times the other: what the two lengths have too much and too little cancels
weigh : (a b r w l u : ℤ) → (a *ℤ (r +ℤ (l +ℤ b *ℤ u))) +ℤ (b *ℤ (w +ℤ (l -ℤ a *ℤ u))) ≡ ((a *ℤ r) +ℤ (b *ℤ w)) +ℤ ((a +ℤ b) *ℤ l)
weigh a b r w l u =
    ap₂ ◌+ℤ◌ (spread a r l (b *ℤ u)) (spread_less b w l (a *ℤ u))
    ∙ (let k = atoms₃ (a *ℤ r) (a *ℤ l) (a *ℤ (b *ℤ u)) in
    let o = atoms₃ (b *ℤ w) (b *ℤ l) (b *ℤ (a *ℤ u)) in
    equal (search parts) (omega (arith, from_equal (cross a b u) (search parts))))
    ∙ ap (λ z. ((a *ℤ r) +ℤ (b *ℤ w)) +ℤ z) (sym (mul_distrib_right a b l))
  where
    spread : (a r l m : ℤ) → a *ℤ (r +ℤ (l +ℤ m)) ≡ (a *ℤ r +ℤ a *ℤ l) +ℤ a *ℤ m
    spread a r l m = let k = atoms₄ a r l m in equal (search parts) (omega arith)

    spread_less : (a r l m : ℤ) → a *ℤ (r +ℤ (l -ℤ m)) ≡ (a *ℤ r +ℤ a *ℤ l) -ℤ a *ℤ m
    spread_less a r l m = let k = atoms₄ a r l m in equal (search parts) (omega arith)

    cross : (a b u : ℤ) → a *ℤ (b *ℤ u) ≡ b *ℤ (a *ℤ u)
    cross a b u = let k = atoms₃ a b u in equal (search parts) (omega arith)

-- a of the lower potentials and b of the higher, where the lower value is b below and the higher a above
abbrev weighed : ℕ → ℕ → (ρ τ : ℕ → ℤ) → ℕ → ℤ
weighed a b ρ τ f = pos a *ℤ ρ f +ℤ pos b *ℤ τ f

module _ (𝓜 : Map) (c π : ℕ → ℤ) (value : ℤ) (a b : ℕ) (ρ τ : ℕ → ℤ) where
  mixed : Feasible 𝓜 (length_for c π (value -ℤ pos b)) ρ → Feasible 𝓜 (length_for c π (value +ℤ pos a)) τ
      → (k : ℕ) → a + b ≡ suc k → Feasible 𝓜 (length_for c π value) (λ f. floor k (weighed a b ρ τ f))
  mixed h g k e d l = floor_step k (weighed a b ρ τ (left 𝓜 d)) (weighed a b ρ τ (right 𝓜 d)) (length_for c π value d) sum
    where
      whole : pos a +ℤ pos b ≡ pos (suc k)
      whole = ap pos e

      sum : weighed a b ρ τ (left 𝓜 d) ≤ℤ (weighed a b ρ τ (right 𝓜 d) +ℤ pos (suc k) *ℤ length_for c π value d)
      sum =
          rw (← whole, ← weigh (pos a) (pos b) (ρ (right 𝓜 d)) (τ (right 𝓜 d)) (length_for c π value d) (π d))
          (le_add
          (mul_le a (rw (length_lower (c d) value (π d) (pos b)) at (h d l)))
          (mul_le b (rw (length_higher (c d) value (π d) (pos a)) at (g d l))))

-- how far the one is above the other
distance : (x y : ℤ) → x ≤ℤ y → (n : ℕ) × (y ≡ x +ℤ pos n)
distance x y h = (
  (positive y + negative x) - (positive x + negative y),
  let a = atoms₂ x y in equal (search parts) (omega (arith, from_at_most h (atom x, atom y))),
)

-- where a walk joins them
joined_between : {𝓜 : Map} → Plane 𝓜 → {s t : ℕ} → s < 𝓜.nodes → t < 𝓜.nodes → s ≢ t → (outer : ℕ) → outer < darts 𝓜
    → (c : ℕ → ℤ) (least value most : ℤ) → least ≤ℤ value → value ≤ℤ most
    → (x y : ℕ → ℤ) → Carries 𝓜 c s t least x → Carries 𝓜 c s t most y → Walk 𝓜 s t → (z : ℕ → ℤ) × Carries 𝓜 c s t value z
joined_between {𝓜} p {s} {t} s_in t_in s≢t outer outer_in c least value most low high x y lower upper walk = go (A.0 + B.0) refl
  where
    A : (n : ℕ) × (most ≡ value +ℤ pos n)
    A = distance value most high

    B : (n : ℕ) × (value ≡ least +ℤ pos n)
    B = distance least value low

    below : least ≡ value -ℤ pos B.0
    below = let a = atoms₂ least value in equal (search parts) (omega (arith, from_equal B.1 (search parts)))

    π : ℕ → ℤ
    π = walk_flow walk

    unit : UnitFlow 𝓜 s t (walk_flow walk)
    unit = walk_unit walk

    ρ : (ρ : ℕ → ℤ) × Feasible 𝓜 (length_for c (walk_flow walk) least) ρ
    ρ = feasible_of p s_in t_in s≢t c unit outer outer_in least x lower

    τ : (τ : ℕ → ℤ) × Feasible 𝓜 (length_for c (walk_flow walk) most) τ
    τ = feasible_of p s_in t_in s≢t c unit outer outer_in most y upper

    go : (k : ℕ) → A.0 + B.0 ≡ k → (z : ℕ → ℤ) × Carries 𝓜 c s t value z
    go zero e = (x, rw same lower)
      where
        none : B.0 ≡ 0
        none = omega arith

        same : value ≡ least
        same = B.1 ∙ ap (λ n. least +ℤ pos n) none ∙ (let a = atoms₁ least in equal (search parts) (omega arith))
    go (suc k) e = (
      edge_flow 𝓜 π value σ,
      feasible_carries p.sound c value (unit_carries unit value) s_in s≢t σ
          (mixed 𝓜 c π value A.0 B.0 ρ.0 τ.0
          (subst (λ v. Feasible 𝓜 (length_for c π v) ρ.0) below ρ.1)
          (subst (λ v. Feasible 𝓜 (length_for c π v) τ.0) A.1 τ.1) k e),
    )
      where
        σ : ℕ → ℤ
        σ f = floor k (weighed A.0 B.0 ρ.0 τ.0 f)

pub between : {𝓜 : Map} → Plane 𝓜 → {s t : ℕ} → s < 𝓜.nodes → t < 𝓜.nodes → s ≢ t → (outer : ℕ) → outer < darts 𝓜
    → (c : ℕ → ℤ) (least value most : ℤ) → least ≤ℤ value → value ≤ℤ most
    → (x y : ℕ → ℤ) → Carries 𝓜 c s t least x → Carries 𝓜 c s t most y → (z : ℕ → ℤ) × Carries 𝓜 c s t value z
between {𝓜} p {s} {t} s_in t_in s≢t outer outer_in c least value most low high x y lower upper = by (walk_decided s t)
  where
    -- apart, all three are 0
    same_value : least ≡ pos 0 → most ≡ pos 0 → value ≡ least
    same_value e q =
        let a = atoms₃ least value most in
        equal (search parts) (omega
        (arith, from_equal e (search parts), from_equal q (search parts), from_at_most low (search parts), from_at_most high (search parts)))

    by : Dec (Walk 𝓜 s t) → (z : ℕ → ℤ) × Carries 𝓜 c s t value z
    by (yes r) = joined_between p s_in t_in s≢t outer outer_in c least value most low high x y lower upper r
    by (no h) =
        (x, rw (same_value (apart_zero p.sound.range s_in t_in s≢t c h least x lower) (apart_zero p.sound.range s_in t_in s≢t c h most y upper)) lower)
