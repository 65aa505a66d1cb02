-- The least capacity that serves: the present one where it does; else the one that the distance back leaves of the greatest, which is above the present one
-- because that fails. The ways out of the search for it.
use mathlib.Core.Path.{◌≡◌, refl, sym, ◌∙◌, ap, subst}
use mathlib.Core.Logic.{◌⊎◌, inl, inr}
use mathlib.Core.Bool.{Bool, true, false, cond}
use mathlib.Core.List.{List}
use Prim.Native.Nat.{ℕ, ◌*◌, ◌<◌}
use native.Mathlib.Omega.{arith}
use lib.Dec.{eqb}
use lib.IntN.{ℤ, pos, ◌-ℤ◌}
use lib.Signed.{◌≤ℤ◌, ◌<ℤ◌}
use mir.Syntax.{w32}
use mir.Val.{to_z, of_z}
use Rattle.std.specs.Prelude.{Option, Some}
use Rattle.integers.specs.inner.Limited.{Limited}
use Rattle.integers.proofs.Omega.{atoms₄, parts, at_most, from_equal, from_at_most}
use Rattle.integers.proofs.Laws.{le_trans, le_of_lt, lt_or_ge, lt_le_clash}
use Rattle.integers.proofs.Tests.{eqb_true, eqb_eq}
use Rattle.signed.proofs.Limits.{same_bits}
use Rattle.maps.specs.Map.{Map, darts}
use Rattle.maps.specs.Face.{left, right}
use Rattle.maps.specs.Drawing.{Drawing}
use Rattle.maps.specs.Check.{InRange, Sound}
use Rattle.maps.proofs.Faces.{right_in}
use Rattle.flows.specs.Settings.{on_darts, Carries}
use Rattle.flows.specs.Highest.{Highest}
use Rattle.flows.specs.ProvingSet.{Proves}
use Rattle.flows.proofs.OnDarts.{on_darts_even}
use Rattle.flows.proofs.Exact.{proves_excludes}
use Rattle.arrays.specs.At.{atℤ}
use Rattle.arrays.specs.Filled.{filled}
use Rattle.arrays.specs.inner.Flags.{flagged}
use Rattle.arrays.proofs.FillLoops.{filled_front}
use Rattle.solver.specs.inner.Ends.{Ends}
use Rattle.solver.specs.inner.Decision.{Decided}
use Rattle.maximum.proofs.Bracketing.{filled_again}
use Rattle.raising.specs.Raised.{raised}
use Rattle.raising.specs.Raise.{Fails}
use Rattle.raising.specs.inner.Sought.{most_limit, Sought}
use Rattle.raising.proofs.Raised.{le_same, raised_present, raised_more}

-- ── the highest flow from the face left of a dart has the least on it: another differs by levels of at most 0, with 0 left of the dart ──
pub least_on : {𝓜 : Map} → Sound 𝓜 → {c : ℕ → ℤ} {s t : ℕ} {value : ℤ} {edge : ℕ} → 2 * edge < darts 𝓜 → (x : ℕ → ℤ)
    → Highest 𝓜 (2 * edge) c s t value x → (y : ℕ → ℤ) → Carries 𝓜 c s t value y → x edge ≤ℤ y edge
least_on {𝓜} σ {edge = edge} l x h y other =
    let q = h.highest y other in
    step (x edge) (y edge) (q.0 (left 𝓜 (2 * edge))) (q.0 (right 𝓜 (2 * edge)))
    (sym (on_darts_even (λ e. y e -ℤ x e) edge) ∙ q.1.differences (2 * edge) l) (q.1.rooted (left 𝓜 (2 * edge)) (inl refl))
    (q.2 (right 𝓜 (2 * edge)) (right_in σ (2 * edge) l))
  where
    step : (x y at_left at_right : ℤ) → y -ℤ x ≡ at_left -ℤ at_right → at_left ≡ pos 0 → at_right ≤ℤ pos 0 → x ≤ℤ y
    step x y at_left at_right e z low =
        let a = atoms₄ x y at_left at_right in
        at_most (search parts) (omega (arith, from_equal e (search parts), from_equal z (search parts), from_at_most low (search parts)))

here : (c : ℕ → ℤ) (e : ℕ) (v : ℤ) → raised c e v (2 * e) ≡ v
here c e v = rw (eqb_true (2 * e) (2 * e) refl) refl

module _ (𝓓 : Drawing) (s t : ℕ) (value : ℤ) (edge : ℕ) (flows : List ℤ) where
  abbrev present : ℤ
  present = 𝓓.capacity (2 * edge)

  -- ── the present one ──
  pub present_serves : present ≤ℤ most_limit → (flows' : List ℤ) (inside : List ℕ)
      → Decided 𝓓.map 𝓓.outer 𝓓.capacity s t value flows flows' inside true → Sought 𝓓 s t value edge flows flows' inside (Some present)
  present_serves most flows' inside d = (
    le_same present,
    most,
    subst (λ c. Decided 𝓓.map 𝓓.outer c s t value flows flows' inside true) (sym (raised_present 𝓓.capacity edge)) d,
    λ w from l. absurd (lt_le_clash l from),
  )

  module _ (range : InRange 𝓓.map) (two : Ends 𝓓.map s t) where
    excludes : (c : ℕ → ℤ) (S : ℕ → Bool) → Proves 𝓓.map c s t value S → (x : ℕ → ℤ) → Carries 𝓓.map c s t value x → ⊥
    excludes c S = proves_excludes range two.source_in two.sink_in two.two c value S

    pub present_fails : (flows' : List ℤ) (inside : List ℕ) → Decided 𝓓.map 𝓓.outer 𝓓.capacity s t value flows flows' inside false
        → Fails 𝓓 s t value edge present
    present_fails flows' inside d x h =
        excludes 𝓓.capacity (flagged inside) d.1 x (subst (λ c. Carries 𝓓.map c s t value x) (raised_present 𝓓.capacity edge) h)

    -- ── one above it: the flow on the edge, highest from the face left of its forward dart ──
    module _ (sound : Sound 𝓓.map) (edge_in : 2 * edge < darts 𝓓.map) (failed : Fails 𝓓 s t value edge present) (x : ℕ → ℤ)
        (high : Highest 𝓓.map (2 * edge) (raised 𝓓.capacity edge most_limit) s t value x) where
      abbrev v : ℤ
      v = x edge

      pub under_most : x edge ≤ℤ most_limit
      under_most = rw (on_darts_even x edge, here 𝓓.capacity edge most_limit) at (high.carries.within (2 * edge) edge_in)

      -- it carries no more there, so that much is enough
      carried : Carries 𝓓.map (raised 𝓓.capacity edge v) s t value x
      carried = record {
        antisymmetric = high.carries.antisymmetric;
        within = λ d l. by d (eqb d (2 * edge)) (eqb_eq d (2 * edge)) (high.carries.within d l);
        balanced = high.carries.balanced;
        carries = high.carries.carries;
      }
        where
          by : (d : ℕ) (b : Bool) → (b ≡ true → d ≡ 2 * edge) → on_darts x d ≤ℤ cond b most_limit (𝓓.capacity d) → on_darts x d ≤ℤ cond b v (𝓓.capacity d)
          by d true e h = subst (λ z. z ≤ℤ v) (sym (ap (on_darts x) (e refl) ∙ on_darts_even x edge)) (le_same v)
          by d false e h = h

      -- because the present one fails
      pub above_present : present <ℤ x edge
      above_present = by (lt_or_ge present v)
        where
          by : (present <ℤ v) ⊎ (v ≤ℤ present) → present <ℤ v
          by (inl l) = l
          by (inr l) = absurd (failed x (raised_more 𝓓.capacity edge l x carried))

      less_fails : (w : ℤ) → w <ℤ v → Fails 𝓓 s t value edge w
      less_fails w l y h =
          lt_le_clash l
          (le_trans (least_on sound edge_in x high y (raised_more 𝓓.capacity edge (le_trans (le_of_lt l) under_most) y h))
          (rw (on_darts_even y edge, here 𝓓.capacity edge w) at (h.within (2 * edge) edge_in)))

      -- one decision writes its highest flow, over those of 1,000,000
      pub least_serves : (between flows' : List ℤ) (inside : List ℕ) (r : Bool) → between ≡ filled 𝓓.map.edges x flows
          → Decided 𝓓.map 𝓓.outer (raised 𝓓.capacity edge v) s t value between flows' inside r
          → Sought 𝓓 s t value edge flows flows' inside (Some (x edge))
      least_serves between flows' inside true e d = (
        le_of_lt above_present,
        under_most,
        (d.0, d.1, d.2 ∙ filled_again 𝓓.map.edges d.0 x flows between e),
        λ w from l. less_fails w l,
      )
      least_serves between flows' inside false e d = absurd (excludes (raised 𝓓.capacity edge v) (flagged inside) d.1 x carried)

-- ── the least capacity as it is read: the flow on the edge, in the number of its bits ──
module _ (𝓓 : Drawing) (s t : ℕ) (value : ℤ) (edge : ℕ) (flows between : List ℤ) (inside : List ℕ) (sound : Sound 𝓓.map) (two : Ends 𝓓.map s t)
    (edge_in : edge < 𝓓.map.edges) (small : Limited 1000000 (𝓓.capacity (2 * edge))) (failed : Fails 𝓓 s t value edge (𝓓.capacity (2 * edge)))
    (d : Decided 𝓓.map (2 * edge) (raised 𝓓.capacity edge most_limit) s t value flows between inside true) where
  pub limit_above : 𝓓.capacity (2 * edge) <ℤ d.0 edge
  limit_above = above_present 𝓓 s t value edge flows sound.range two sound (omega arith) failed d.0 d.1

  pub limit_small : Limited 1000000 (d.0 edge)
  limit_small = record {
    low = le_trans small.low (le_of_lt limit_above);
    high = under_most 𝓓 s t value edge flows sound.range two sound (omega arith) failed d.0 d.1;
  }

  pub limit_told : to_z w32 (of_z w32 (atℤ between edge)) ≡ d.0 edge
  limit_told =
      ap (λ z. to_z w32 (of_z w32 z)) (filled_front (pos 0) 𝓓.map.edges d.0 flows between d.2 edge edge_in) ∙ same_bits (omega arith) limit_small

-- ── the same of what is equal: of the capacities that an array holds, of numbers held as bits, of slices as they were ──
pub decided_as : (𝓜 : Map) (outer : ℕ) {c c' : ℕ → ℤ} → c ≡ c' → (s t : ℕ) (value : ℤ) (flows flows' : List ℤ) (inside : List ℕ)
    {r a : Bool} → r ≡ a → Decided 𝓜 outer c s t value flows flows' inside r → Decided 𝓜 outer c' s t value flows flows' inside a
decided_as 𝓜 outer p s t value flows flows' inside q h = rw (← p, ← q) h

pub sought_as : (𝓓 : Drawing) (s t : ℕ) (value : ℤ) (edge : ℕ) {old before : List ℤ} → old ≡ before → (flows : List ℤ) (inside : List ℕ)
    {r a : Option ℤ} → r ≡ a → Sought 𝓓 s t value edge old flows inside r → Sought 𝓓 s t value edge before flows inside a
sought_as 𝓓 s t value edge p flows inside q h = rw (← p, ← q) h
