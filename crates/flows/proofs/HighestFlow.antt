-- The highest answer: potentials that no dart can lower and that are above all others of that kind make it; and there is at most one.
use mathlib.Core.Path.{◌≡◌, sym, ◌∙◌, ap, ap₂}
use mathlib.Core.Logic.{◌≢◌}
use Prim.Native.Nat.{ℕ, ◌<◌}
use native.Mathlib.Omega.{arith}
use native.Mathlib.Decide.{ℕ_discrete}
use lib.IntN.{ℤ, pos, neg_ℤ, ◌+ℤ◌, ◌-ℤ◌, ◌*ℤ◌, +ℤ_invr}
use lib.Signed.{◌≤ℤ◌}
use Rattle.integers.proofs.Omega.{atoms₂, atoms₄, atoms₅, parts, equal, at_most, from_equal, from_at_most}
use Rattle.integers.proofs.Laws.{le_antisym, equal_of_sub}
use Rattle.maps.specs.Map.{Map, darts}
use Rattle.maps.specs.Face.{faces, left, right}
use Rattle.maps.specs.Flow.{net}
use Rattle.maps.specs.Potential.{Potentials}
use Rattle.maps.proofs.Cuts.{sink_takes}
use Rattle.maps.proofs.Faces.{left_in, right_in}
use Rattle.flows.specs.Settings.{on_darts, Carries, Balanced}
use Rattle.flows.specs.ZeroFace.{ZeroFace}
use Rattle.flows.specs.Levels.{Levels}
use Rattle.flows.specs.Highest.{Highest}
use Rattle.flows.proofs.OnDarts.{on_darts_antisymmetric, on_darts_sub, on_darts_injective}
use Rattle.flows.proofs.Nets.{net_ext, net_sub}
use Rattle.flows.proofs.Plane.{potentials_at, potentials_one}
use Rattle.flows.specs.inner.Plane.{Plane}
use Rattle.flows.specs.inner.UnitFlow.{Carrier}
use Rattle.flows.proofs.Lengths.{edge_flow_darts, feasible_carries}
use Rattle.flows.specs.inner.Lengths.{length_for, Feasible, made, edge_flow}

module _ {𝓜 : Map} (p : Plane 𝓜) {s t : ℕ} (s_in : s < 𝓜.nodes) (t_in : t < 𝓜.nodes) (s≢t : s ≢ t) where
  -- two flows of one value differ by balanced settings
  pub flows_differ : {c : ℕ → ℤ} {value : ℤ} (x y : ℕ → ℤ) → Carries 𝓜 c s t value x → Carries 𝓜 c s t value y → Balanced 𝓜 (λ e. y e -ℤ x e)
  flows_differ {c} {value} x y f g = record { antisymmetric = on_darts_antisymmetric 𝓜 (λ e. y e -ℤ x e); balanced = balance }
    where
      balance : (v : ℕ) → v < 𝓜.nodes → net 𝓜 (on_darts (λ e. y e -ℤ x e)) v ≡ pos 0
      balance v l =
          net_ext 𝓜 v (on_darts (λ e. y e -ℤ x e)) (λ d. on_darts y d -ℤ on_darts x d) (λ d m. on_darts_sub y x d)
          ∙ net_sub 𝓜 v (on_darts y) (on_darts x)
          ∙ go (ℕ_discrete v s) (ℕ_discrete v t)
        where
          both : (z : ℤ) → net 𝓜 (on_darts y) v ≡ z → net 𝓜 (on_darts x) v ≡ z → net 𝓜 (on_darts y) v -ℤ net 𝓜 (on_darts x) v ≡ pos 0
          both z h k = ap₂ ◌-ℤ◌ h k ∙ +ℤ_invr z

          go : Dec (v ≡ s) → Dec (v ≡ t) → net 𝓜 (on_darts y) v -ℤ net 𝓜 (on_darts x) v ≡ pos 0
          go (yes e) q = both value (ap (net 𝓜 (on_darts y)) e ∙ g.carries) (ap (net 𝓜 (on_darts x)) e ∙ f.carries)
          go (no e) (yes q) =
              both (neg_ℤ value)
              (ap (net 𝓜 (on_darts y)) q ∙ sink_takes p.sound.range s_in t_in s≢t g)
              (ap (net 𝓜 (on_darts x)) q ∙ sink_takes p.sound.range s_in t_in s≢t f)
          go (no e) (no q) = both (pos 0) (g.balanced v l e q) (f.balanced v l e q)

  -- ── there is at most one highest answer: the levels of the difference are at most zero both ways ──
  pub highest_unique : (outer : ℕ) → outer < darts 𝓜 → {c : ℕ → ℤ} {value : ℤ} (x y : ℕ → ℤ) → Highest 𝓜 outer c s t value x → Highest 𝓜 outer c s t value y
      → (e : ℕ) → e < 𝓜.edges → x e ≡ y e
  highest_unique outer outer_in x y hx hy = on_darts_injective 𝓜 x y (λ d l. sym (equal_of_sub (on_darts y d) (on_darts x d) (none d l)))
    where
      r : (ρ : ℕ → ℤ) × Levels 𝓜 outer (λ e. y e -ℤ x e) ρ × ((f : ℕ) → f < faces 𝓜 → ρ f ≤ℤ pos 0)
      r = hx.highest y hy.carries

      q : (ρ : ℕ → ℤ) × Levels 𝓜 outer (λ e. x e -ℤ y e) ρ × ((f : ℕ) → f < faces 𝓜 → ρ f ≤ℤ pos 0)
      q = hy.highest x hx.carries

      -- the levels one way are the negatives of those the other way
      turned : Potentials 𝓜 (on_darts (λ e. y e -ℤ x e)) (λ f. neg_ℤ (q.0 f))
      turned d l =
          on_darts_sub y x d
          ∙ (let a = atoms₄ (on_darts y d) (on_darts x d) (q.0 (left 𝓜 d)) (q.0 (right 𝓜 d)) in
          equal (search parts) (omega (arith, from_equal (sym (on_darts_sub x y d) ∙ q.1.differences d l) (search parts))))

      zero_at : (f : ℕ) → f < faces 𝓜 → r.0 f ≡ pos 0
      zero_at f l =
          let same =
          potentials_one p outer outer_in (on_darts (λ e. y e -ℤ x e)) r.0 (λ f. neg_ℤ (q.0 f))
          r.1.differences turned r.1.rooted (λ g z. ap neg_ℤ (q.1.rooted g z)) f l in
          le_antisym (r.2 f l)
          (let a = atoms₂ (r.0 f) (q.0 f) in at_most (search parts) (omega (arith, from_equal same (search parts), from_at_most (q.2 f l) (search parts))))

      none : (d : ℕ) → d < darts 𝓜 → on_darts y d -ℤ on_darts x d ≡ pos 0
      none d l =
          sym (on_darts_sub y x d)
          ∙ r.1.differences d l
          ∙ ap₂ ◌-ℤ◌ (zero_at (left 𝓜 d) (left_in p.sound d l)) (zero_at (right 𝓜 d) (right_in p.sound d l))

  -- ── potentials above all others make it ──
  module _ {π : ℕ → ℤ} (c : ℕ → ℤ) (value : ℤ) (carrier : Carrier 𝓜 s t value π) (outer : ℕ) (outer_in : outer < darts 𝓜) where
    pub top_is_highest : (ρ : ℕ → ℤ) → Feasible 𝓜 (length_for c π value) ρ → ((f : ℕ) → ZeroFace 𝓜 outer f → ρ f ≡ pos 0)
        → ((τ : ℕ → ℤ) → Feasible 𝓜 (length_for c π value) τ → ((f : ℕ) → ZeroFace 𝓜 outer f → τ f ≡ pos 0) → (f : ℕ) → f < faces 𝓜 → τ f ≤ℤ ρ f)
        → Highest 𝓜 outer c s t value (edge_flow 𝓜 π value ρ)
    top_is_highest ρ feasible zero top = record { carries = mine; highest = others }
      where
        x : ℕ → ℤ
        x = edge_flow 𝓜 π value ρ

        mine : Carries 𝓜 c s t value (edge_flow 𝓜 π value ρ)
        mine = feasible_carries p.sound c value carrier s_in s≢t ρ feasible

        others : (y : ℕ → ℤ) → Carries 𝓜 c s t value y → (τ : ℕ → ℤ) × Levels 𝓜 outer (λ e. y e -ℤ x e) τ × ((f : ℕ) → f < faces 𝓜 → τ f ≤ℤ pos 0)
        others y other = (r.0, record { differences = r.1; rooted = r.2 }, below)
          where
            r : (τ : ℕ → ℤ) × Potentials 𝓜 (on_darts (λ e. y e -ℤ x e)) τ × ((f : ℕ) → ZeroFace 𝓜 outer f → τ f ≡ pos 0)
            r = potentials_at p outer outer_in (on_darts (λ e. y e -ℤ x e)) (flows_differ x y mine other)

            raised : ℕ → ℤ
            raised f = ρ f +ℤ r.0 f

            -- what y carries on d is what the raised potentials make
            made_by : (d : ℕ) → d < darts 𝓜 → on_darts y d ≡ made 𝓜 π value raised d
            made_by d l =
                step (on_darts y d) (on_darts x d) (ρ (left 𝓜 d)) (ρ (right 𝓜 d)) (value *ℤ π d) (r.0 (left 𝓜 d)) (r.0 (right 𝓜 d))
                (sym (on_darts_sub y x d) ∙ r.1 d l) (edge_flow_darts p.sound c value carrier ρ d l)
              where
                step : (yd xd a b m tl tr : ℤ) → yd -ℤ xd ≡ tl -ℤ tr → xd ≡ (a -ℤ b) +ℤ m → yd ≡ ((a +ℤ tl) -ℤ (b +ℤ tr)) +ℤ m
                step yd xd a b m tl tr h g =
                    let k = atoms₅ yd xd a b m in
                    let j = atoms₂ tl tr in
                    equal (search parts) (omega (arith, from_equal h (search parts), from_equal g (search parts)))

            raised_feasible : Feasible 𝓜 (length_for c π value) raised
            raised_feasible d l =
                let a = atoms₄ (raised (left 𝓜 d)) (raised (right 𝓜 d)) (c d) (value *ℤ π d) in
                at_most (search parts) (omega (arith, from_at_most (rw (made_by d l) at (other.within d l)) (search parts)))

            below : (f : ℕ) → f < faces 𝓜 → r.0 f ≤ℤ pos 0
            below f l =
                let a = atoms₂ (ρ f) (r.0 f) in
                at_most (search parts) (omega (arith, from_at_most (top raised raised_feasible (λ g z. ap₂ ◌+ℤ◌ (zero g z) (r.2 g z)) f l) (search parts)))
