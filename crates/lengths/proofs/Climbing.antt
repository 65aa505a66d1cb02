-- The climb on its way: a walk leads from the node of the dart reached to the node where the climb began, and the value was taken along it. No edge is used
-- twice, because the places of the darts fall: of an edge used, one dart stands after the dart reached.
use mathlib.Core.Path.{◌≡◌, refl, sym, ◌∙◌, ap, ap₂, subst}
use mathlib.Core.Logic.{inl, inr, ◌≢◌}
use Prim.Native.Nat.{ℕ, suc, ◌≤◌, ◌<◌}
use native.Mathlib.Omega.{arith}
use native.Mathlib.Decide.{ℕ_discrete}
use borrow.Author.Count.{below_more}
use lib.Dec.{eqb}
use lib.IntN.{ℤ, pos, negsuc, ◌+ℤ◌, ◌-ℤ◌, ◌*ℤ◌}
use mir.Syntax.{w32}
use mir.Val.{to_z, of_z}
use Rattle.integers.specs.Sum.{when}
use Rattle.integers.proofs.Omega.{atoms₁, atoms₄, parts, equal}
use Rattle.integers.proofs.Tests.{eqb_true, eqb_false}
use Rattle.maps.specs.Dart.{rev}
use Rattle.maps.specs.Map.{Map, darts}
use Rattle.maps.specs.Walk.{Walk, here, along}
use Rattle.maps.specs.Orbit.{iter}
use Rattle.maps.proofs.Darts.{rev_rev, rev_apart}
use Rattle.maps.proofs.Orbits.{iter_zero, iter_suc}
use Rattle.flows.specs.inner.UnitFlow.{single, walk_flow}
use Rattle.traversal.specs.inner.Spread.{Follows}
use Rattle.traversal.proofs.Spreading.{place}
use Rattle.lengths.specs.inner.Lengths.{Treed, Once, taken, Climbable, Climbed}
use Rattle.integers.specs.inner.Limited.{Limited}
use Rattle.arrays.specs.inner.Sizes.{most_value, most_length}
use Rattle.signed.proofs.Limits.{same_bits}
use Rattle.lengths.proofs.Limits.{less_nothing}
use Rattle.lengths.proofs.Place.{met_before}

-- a walk between two nodes that carries this flow
abbrev Carrying : Map → (ℕ → ℤ) → ℕ → ℕ → Type 0
Carrying 𝓜 flow v w = (r : Walk 𝓜 v w) × ((d : ℕ) → walk_flow r d ≡ flow d)

pub record Climbing (n x : ℕ) (order from : ℕ → ℕ) (value : ℤ) (length₀ length : ℕ → ℤ) (y : ℕ) : Type 0 where
  pub below : y < n
  pub flow : ℕ → ℤ
  pub once : (d : ℕ) → Once from d (flow d)
  pub unused : (d : ℕ) → place order n d ≤ place order n y → place order n (rev d) ≤ place order n y → flow d ≡ pos 0
  pub lengths : (d : ℕ) → d < n → length d ≡ length₀ d -ℤ value *ℤ flow d
  pub walk : (𝓜 : Map) → Treed 𝓜 n order from → (r : Walk 𝓜 (𝓜.tail y) (𝓜.tail x)) × ((d : ℕ) → walk_flow r d ≡ flow d)
  pub steps : ℕ
  pub here : iter from steps x ≡ y
  pub onward : (k : ℕ) → k < steps → from (iter from k x) ≢ iter from k x
  pub flow_is : (d : ℕ) → flow d ≡ taken from steps x d

-- ── what a step takes ──
taken_none : (from : ℕ → ℕ) (x d : ℕ) → pos 0 ≡ taken from 0 x d
unfolding taken
taken_none from x d = refl

taken_turned : (from : ℕ → ℕ) (k x d : ℕ) → iter from k x ≢ rev (iter from (suc k) x) → taken from k x d ≡ taken from (suc k) x d
unfolding taken
taken_turned from k x d h = rw (eqb_false (iter from k x) (rev (iter from (suc k) x)) h) (sym (nothing (taken from k x d)))
  where
    nothing : (f : ℤ) → pos 0 +ℤ f ≡ f
    nothing f = let t = atoms₁ f in equal (search parts) (omega arith)

taken_over : (from : ℕ → ℕ) (k x d : ℕ) → iter from k x ≡ rev (iter from (suc k) x)
    → single (iter from (suc k) x) d +ℤ taken from k x d ≡ taken from (suc k) x d
unfolding taken
taken_over from k x d h = rw (eqb_true (iter from k x) (rev (iter from (suc k) x)) h) refl

-- over one dart, and on
over_dart : {𝓜 : Map} {flow : ℕ → ℤ} {w : ℕ} (p : ℕ) → p < darts 𝓜 → Carrying 𝓜 flow (𝓜.tail (rev p)) w → Carrying 𝓜 (λ d. single p d +ℤ flow d) (𝓜.tail p) w
unfolding walk_flow
over_dart p l (r, h) = (along p l refl r, λ d. ap (λ f. single p d +ℤ f) (h d))

stay : (𝓜 : Map) (v : ℕ) → Carrying 𝓜 (λ d. pos 0) v v
unfolding walk_flow
stay 𝓜 v = (here, λ d. refl)

-- off the edge of p, the flow along p is none
single_off : (p d : ℕ) → d ≢ p → d ≢ rev p → single p d ≡ pos 0
single_off p d h g = rw (eqb_false d p h, eqb_false d (rev p) g) refl

module _ {n x : ℕ} {order from : ℕ → ℕ} {value : ℤ} {length₀ : ℕ → ℤ} (ok : Climbable n x order from length₀ value) where
  pub climbing_start : Climbing n x order from value length₀ length₀ x
  climbing_start = record {
    below = ok.below;
    flow = λ d. pos 0;
    once = λ d. inl refl;
    unused = λ d h g. refl;
    lengths = λ d l. sym (less_nothing (length₀ d) value);
    walk = λ 𝓜 ρ. stay 𝓜 (𝓜.tail x);
    steps = 0;
    here = iter_zero from x;
    onward = λ k l. absurd (omega (arith, l));
    flow_is = taken_none from x;
  }

  module _ {length : ℕ → ℤ} {y : ℕ} (ξ : Climbing n x order from value length₀ length y) where
    -- at the first dart of the tree
    pub climbing_end : {p : ℕ} → p ≡ from y → p ≡ y → Climbed n x order from value length₀ length y
    climbing_end is-p e = record {
      top_in = ξ.below;
      own = sym is-p ∙ e;
      flow = ξ.flow;
      once = ξ.once;
      lengths = ξ.lengths;
      along = ξ.walk;
      steps = ξ.steps;
      stops = record { own = ap from ξ.here ∙ sym is-p ∙ e ∙ sym ξ.here; onward = ξ.onward };
      top_is = sym ξ.here;
      flow_is = ξ.flow_is;
    }

    -- one step up, to the dart p that y was met from
    module _ {p : ℕ} (is-p : p ≡ from y) (other : p ≢ y) where
      pub origin_in : p < n
      origin_in = (met_before ok.treed y p ξ.below is-p other).0

      -- p is one step further up
      up : iter from (suc ξ.steps) x ≡ p
      up = iter_suc from ξ.steps x ∙ ap from ξ.here ∙ sym is-p

      onwards : (k : ℕ) → k < suc ξ.steps → from (iter from k x) ≢ iter from k x
      onwards k l =
          below_more (λ k. from (iter from k x) ≢ iter from k x) ξ.steps ξ.onward
          (λ e. other (is-p ∙ ap from (sym ξ.here) ∙ e ∙ ξ.here)) k (omega (arith, l))

      pub nearer : place order n p < place order n y
      nearer = (met_before ok.treed y p ξ.below is-p other).1

      -- at the same node: nothing is carried
      pub climbing_turned : y ≢ rev p → Climbing n x order from value length₀ length p
      climbing_turned turned = record {
        below = origin_in;
        flow = ξ.flow;
        once = ξ.once;
        unused = λ d h g. ξ.unused d (omega (arith, h, nearer)) (omega (arith, g, nearer));
        lengths = ξ.lengths;
        walk = λ 𝓜 ρ.
            subst (λ v. Carrying 𝓜 ξ.flow v (𝓜.tail x)) (one_node 𝓜 ρ (met_before ρ y p ξ.below is-p other).2) (ξ.walk 𝓜 ρ);
        steps = suc ξ.steps;
        here = up;
        onward = onwards;
        flow_is = λ d. ξ.flow_is d ∙ taken_turned from ξ.steps x d (λ e. turned (sym ξ.here ∙ e ∙ ap rev up));
      }
        where
          one_node : (𝓜 : Map) → Treed 𝓜 n order from → Follows 𝓜.rotation y p → 𝓜.tail y ≡ 𝓜.tail p
          one_node 𝓜 ρ (inl e) = absurd (turned e)
          one_node 𝓜 ρ (inr e) = ap 𝓜.tail e ∙ ρ.sound.same_tail p (omega (arith, origin_in, ρ.all_darts))

      -- over the edge of p
      module _ (is_y : y ≡ rev p) where
        back_again : rev y ≡ p
        back_again = ap rev is_y ∙ rev_rev p

        p_unused : ξ.flow p ≡ pos 0
        p_unused = ξ.unused p (omega (arith, nearer)) (omega (arith, ap (place order n) is_y))

        y_unused : ξ.flow y ≡ pos 0
        y_unused = ξ.unused y (omega arith) (omega (arith, nearer, ap (place order n) back_again))

        -- what `carry` needs
        pub edge_fresh : (p < n) × (y < n) × (y ≢ p) × Limited most_length (length p) × Limited most_length (length y)
        edge_fresh = (origin_in, ξ.below, λ e. other (sym e), fresh p origin_in p_unused, fresh y ξ.below y_unused)
          where
            fresh : (d : ℕ) → d < n → ξ.flow d ≡ pos 0 → Limited most_length (length d)
            fresh d l z =
                subst (Limited most_length) (sym (ξ.lengths d l ∙ ap (λ f. length₀ d -ℤ value *ℤ f) z ∙ less_nothing (length₀ d) value)) (ok.short d l)

        pub climbing_carried : {length' : ℕ → ℤ} → ((d : ℕ) → length' d ≡ length d -ℤ value *ℤ (when (eqb d p) (pos 1) -ℤ when (eqb d y) (pos 1)))
            → Climbing n x order from value length₀ length' p
        climbing_carried {length'} carried = record {
          below = origin_in;
          flow = λ d. single p d +ℤ ξ.flow d;
          once = λ d. on d (ℕ_discrete d p) (ℕ_discrete d (rev p));
          unused = λ d h g.
              ap₂ ◌+ℤ◌ (single_off p d (λ e. absurd (omega (arith, g, nearer, ap (λ c. place order n (rev c)) e, ap (place order n) is_y)))
              (λ e. absurd (omega (arith, h, nearer, ap (place order n) (e ∙ sym is_y)))))
              (ξ.unused d (omega (arith, h, nearer)) (omega (arith, g, nearer)));
          lengths = λ d l.
              carried d
              ∙ ap₂ (λ a c. a -ℤ value *ℤ (when (eqb d p) (pos 1) -ℤ when (eqb d c) (pos 1))) (ξ.lengths d l) is_y
              ∙ regroup (length₀ d) value (ξ.flow d) (single p d);
          walk = λ 𝓜 ρ.
              over_dart p (omega (arith, origin_in, ρ.all_darts))
              (subst (λ c. Carrying 𝓜 ξ.flow (𝓜.tail c) (𝓜.tail x)) is_y (ξ.walk 𝓜 ρ));
          steps = suc ξ.steps;
          here = up;
          onward = onwards;
          flow_is = λ d.
              ap₂ (λ q f. single q d +ℤ f) (sym up) (ξ.flow_is d)
              ∙ taken_over from ξ.steps x d (ξ.here ∙ is_y ∙ ap rev (sym up));
        }
          where
            regroup : (c v f s : ℤ) → (c -ℤ v *ℤ f) -ℤ v *ℤ s ≡ c -ℤ v *ℤ (s +ℤ f)
            regroup c v f s = let t = atoms₄ c v f s in equal (search parts) (omega arith)

            no_more : (s : ℤ) → s +ℤ pos 0 ≡ s
            no_more s = let t = atoms₁ s in equal (search parts) (omega arith)

            nothing_and : (f : ℤ) → pos 0 +ℤ f ≡ f
            nothing_and f = let t = atoms₁ f in equal (search parts) (omega arith)

            forth : single p p ≡ pos 1
            forth = rw (eqb_true p p refl, eqb_false p (rev p) (λ e. rev_apart p (sym e))) refl

            back : single p y ≡ negsuc 0
            back = rw (eqb_false y p (λ e. other (sym e)), eqb_true y (rev p) is_y) refl

            on : (d : ℕ) → Dec (d ≡ p) → Dec (d ≡ rev p) → Once from d (single p d +ℤ ξ.flow d)
            on d (yes e) q =
                subst (λ c. Once from c (single p c +ℤ ξ.flow c)) (sym e)
                (inr (inl (ap₂ ◌+ℤ◌ forth p_unused, ap from (sym is_y) ∙ sym is-p)))
            on d (no e) (yes q) =
                subst (λ c. Once from c (single p c +ℤ ξ.flow c)) (sym (q ∙ sym is_y))
                (inr (inr (ap₂ ◌+ℤ◌ back y_unused, sym is-p ∙ sym back_again)))
            on d (no e) (no q) = subst (Once from d) (sym (ap (λ s. s +ℤ ξ.flow d) (single_off p d e q) ∙ nothing_and (ξ.flow d))) (ξ.once d)

-- the machine holds the value as its bits, from which it is read back
pub by_bits : {n x : ℕ} {order from : ℕ → ℕ} {length : ℕ → ℤ} {value : ℤ} → Climbable n x order from length value
    → Climbable n x order from length (to_z w32 (of_z w32 value))
by_bits {n} {x} {order} {from} {length} {value} ok = subst (Climbable n x order from length) (sym (same_bits (omega arith) ok.small)) ok

pub from_bits : {n x : ℕ} {order from : ℕ → ℕ} {value : ℤ} {length length' : ℕ → ℤ} {top : ℕ} → Limited most_value value
    → Climbed n x order from (to_z w32 (of_z w32 value)) length length' top → Climbed n x order from value length length' top
from_bits {n} {x} {order} {from} {value} {length} {length'} {top} small =
    subst (λ v. Climbed n x order from v length length' top) (same_bits (omega arith) small)
