-- Two climbs, one for the value and one against it: on each dart the tree's own unit may be taken by the one, by the other or by both, which cancel. Where both
-- end at one dart, what is left is a unit flow between the nodes where they began; where they do not, no walk joins those nodes.
use mathlib.Core.Path.{◌≡◌, sym, ◌∙◌, ap, ap₂, subst}
use mathlib.Core.Logic.{inl, inr, ◌≢◌}
use mathlib.Core.Bool.{Bool}
use Prim.Native.Nat.{ℕ, ◌<◌}
use native.Mathlib.Omega.{arith}
use lib.Dec.{eqb}
use mir.Syntax.{w32}
use mir.Val.{to_z, of_z}
use lib.IntN.{ℤ, pos, neg_ℤ, ◌-ℤ◌, ◌*ℤ◌}
use Rattle.integers.specs.Sum.{when}
use Rattle.integers.specs.inner.Limited.{Limited}
use Rattle.integers.proofs.Omega.{atoms₂, atoms₃, atoms₄, parts, equal, at_most}
use Rattle.integers.proofs.Tests.{eqb_eq, eqb_ne}
use Rattle.integers.proofs.Limits.{limited_minus}
use Rattle.signed.proofs.Limits.{same_bits}
use Rattle.maps.specs.Dart.{rev}
use Rattle.maps.specs.Map.{Map}
use Rattle.maps.specs.Walk.{Walk}
use Rattle.maps.specs.Flow.{Antisymmetric, net}
use Rattle.maps.proofs.Darts.{rev_in}
use Rattle.maps.proofs.Walks.{walk_append, walk_back}
use Rattle.flows.specs.inner.UnitFlow.{UnitFlow, walk_flow}
use Rattle.flows.proofs.UnitFlow.{walk_unit}
use Rattle.flows.proofs.Nets.{net_ext, net_sub}
use Rattle.traversal.proofs.Forests.{own_one}
use Rattle.traversal.specs.inner.Forest.{Forest}
use Rattle.lengths.specs.inner.Lengths.{Treed, Once, Climbable, Climbed, Fillable, Filled}
use Rattle.arrays.specs.inner.Sizes.{most_value, most_length}
use Rattle.lengths.proofs.Limits.{Unit, limited_unit}
use Rattle.lengths.proofs.Place.{one_way}

once_unit : (from : ℕ → ℕ) (d : ℕ) (f : ℤ) → Once from d f → Unit f
once_unit from d f (inl e) = inl e
once_unit from d f (inr (inl r)) = inr (inl r.0)
once_unit from d f (inr (inr r)) = inr (inr r.0)

-- two takings of the tree's own unit differ by a unit at most
twice : (from : ℕ → ℕ) (d : ℕ) (f g : ℤ) → (from (rev d) ≡ d → from d ≡ rev d → ⊥) → Once from d f → Once from d g → Unit (f -ℤ g)
twice from d f g only (inl e) (inl h) = inl (ap₂ ◌-ℤ◌ e h)
twice from d f g only (inl e) (inr (inl h)) = inr (inr (ap₂ ◌-ℤ◌ e h.0))
twice from d f g only (inl e) (inr (inr h)) = inr (inl (ap₂ ◌-ℤ◌ e h.0))
twice from d f g only (inr (inl e)) (inl h) = inr (inl (ap₂ ◌-ℤ◌ e.0 h))
twice from d f g only (inr (inl e)) (inr (inl h)) = inl (ap₂ ◌-ℤ◌ e.0 h.0)
twice from d f g only (inr (inl e)) (inr (inr h)) = absurd (only e.1 h.1)
twice from d f g only (inr (inr e)) (inl h) = inr (inr (ap₂ ◌-ℤ◌ e.0 h))
twice from d f g only (inr (inr e)) (inr (inl h)) = absurd (only h.1 e.1)
twice from d f g only (inr (inr e)) (inr (inr h)) = inl (ap₂ ◌-ℤ◌ e.0 h.0)

nothing : Limited 0 (pos 0)
nothing = record { low = at_most (search parts) (omega arith); high = at_most (search parts) (omega arith) }

module _ {n start finish : ℕ} {order from : ℕ → ℕ} {capacity : ℕ → ℤ} {value : ℤ} (ok : Fillable n start finish order from capacity value) where
  -- ── the climb from the finish, with the value ──
  module _ {copied less : ℕ → ℤ} (same : (d : ℕ) → d < n → copied d ≡ capacity d) {down : ℕ} (α : Climbed n finish order from value copied less down) where
    taken : (d : ℕ) → d < n → less d ≡ capacity d -ℤ value *ℤ α.flow d
    taken d l = α.lengths d l ∙ ap (λ c. c -ℤ value *ℤ α.flow d) (same d l)

    -- ── the climb from the start, against it ──
    module _ {against : ℤ} (turned : against ≡ pos 0 -ℤ value) where
      pub up_climbable : Climbable n start order from less against
      up_climbable = record {
        few = ok.few;
        map = ok.map;
        treed = ok.treed;
        below = ok.start_in;
        short = λ d l.
            subst (Limited most_length) (sym (taken d l)) (limited_unit (α.flow d) (once_unit from d (α.flow d) (α.once d)) (ok.capacities d l) ok.small);
        small = subst (Limited most_value) (sym turned) (limited_minus nothing ok.small);
      }

      module _ {length : ℕ → ℤ} {up : ℕ} (β : Climbed n start order from against less length up) where
        -- what is left of both
        flow : ℕ → ℤ
        flow d = α.flow d -ℤ β.flow d

        only_once : (d : ℕ) → d < n → from (rev d) ≡ d → from d ≡ rev d → ⊥
        only_once d l =
            one_way ok.treed d l
            (omega (arith, ok.treed.all_darts, rev_in ok.map.edges d (omega (arith, ok.treed.all_darts))))

        unit_left : (d : ℕ) → d < n → Unit (flow d)
        unfolding flow
        unit_left d l = twice from d (α.flow d) (β.flow d) (only_once d l) (α.once d) (β.once d)

        left_over : (d : ℕ) → d < n → length d ≡ capacity d -ℤ value *ℤ flow d
        unfolding flow
        left_over d l =
            β.lengths d l
            ∙ ap₂ (λ a b. a -ℤ b *ℤ β.flow d) (taken d l) turned
            ∙ (let t = atoms₄ (capacity d) value (α.flow d) (β.flow d) in equal (search parts) (omega arith))

        module _ (𝓜 : Map) (ρ : Treed 𝓜 n order from) where
          to_finish : Walk 𝓜 (𝓜.tail down) (𝓜.tail finish)
          to_finish = (α.along 𝓜 ρ).0

          to_start : Walk 𝓜 (𝓜.tail up) (𝓜.tail start)
          to_start = (β.along 𝓜 ρ).0

          turned_over : Antisymmetric 𝓜 flow
          unfolding flow to_finish to_start
          turned_over d l =
              ap₂ ◌-ℤ◌ (opposite α.flow (to_finish) (α.along 𝓜 ρ).1 d l) (opposite β.flow (to_start) (β.along 𝓜 ρ).1 d l)
              ∙ (let t = atoms₂ (α.flow d) (β.flow d) in equal (search parts) (omega arith))
            where
              opposite : (f : ℕ → ℤ) {v w : ℕ} (r : Walk 𝓜 v w) → ((d : ℕ) → walk_flow r d ≡ f d) → Antisymmetric 𝓜 f
              opposite f r h d l = sym (h (rev d)) ∙ (walk_unit r).antisymmetric d l ∙ ap neg_ℤ (h d)

          unit_flow : up ≡ down → UnitFlow 𝓜 (𝓜.tail start) (𝓜.tail finish) flow
          unfolding flow to_finish to_start
          unit_flow e = record { antisymmetric = turned_over; nets = nets }
            where
              nets : (v : ℕ) → net 𝓜 flow v ≡ when (eqb v (𝓜.tail start)) (pos 1) -ℤ when (eqb v (𝓜.tail finish)) (pos 1)
              nets v =
                  net_sub 𝓜 v α.flow β.flow
                  ∙ ap₂ ◌-ℤ◌ (net_ext 𝓜 v α.flow (walk_flow to_finish) (λ d l. sym ((α.along 𝓜 ρ).1 d)) ∙ (walk_unit to_finish).nets v)
                  (net_ext 𝓜 v β.flow (walk_flow to_start) (λ d l. sym ((β.along 𝓜 ρ).1 d)) ∙ (walk_unit to_start).nets v)
                  ∙ ap (λ y. (when (eqb v (𝓜.tail down)) (pos 1) -ℤ when (eqb v (𝓜.tail finish)) (pos 1))
                  -ℤ (when (eqb v (𝓜.tail y)) (pos 1) -ℤ when (eqb v (𝓜.tail start)) (pos 1))) e
                  ∙ (let t = atoms₃ (when (eqb v (𝓜.tail down)) (pos 1)) (when (eqb v (𝓜.tail finish)) (pos 1)) (when (eqb v (𝓜.tail start)) (pos 1)) in
                  equal (search parts) (omega arith))

          far_apart : up ≢ down → Walk 𝓜 (𝓜.tail start) (𝓜.tail finish) → ⊥
          far_apart h w =
              h (own_one ρ.sound (subst (λ k. Forest k 𝓜.rotation ρ.first order from ρ.trees) (sym ρ.all_darts) ρ.forest) up down
              (omega (arith, β.top_in, ρ.all_darts)) (omega (arith, α.top_in, ρ.all_darts)) β.own α.own
              (walk_append to_start (walk_append w (walk_back to_finish))))

        pub both_filled : Filled n start finish order from capacity value length (eqb up down)
        unfolding flow
        both_filled = record {
          flow = flow;
          lengths = left_over;
          limited = λ d l. subst (Limited most_length) (sym (left_over d l)) (limited_unit (flow d) (unit_left d l) (ok.capacities d l) ok.small);
          against = turned_over;
          unit = λ e 𝓜 ρ. unit_flow 𝓜 ρ (eqb_eq up down e);
          apart = λ e 𝓜 ρ. far_apart 𝓜 ρ (eqb_ne up down e);
          way = record {
            up = β.steps;
            down = α.steps;
            up_top = β.stops;
            down_top = α.stops;
            lengths = λ d l. left_over d l ∙ ap₂ (λ f g. capacity d -ℤ value *ℤ (f -ℤ g)) (α.flow_is d) (β.flow_is d);
            joined_is = ap₂ eqb β.top_is α.top_is;
          };
        }

-- the machine holds the value as its bits, from which it is read back
pub fill_by_bits : {n start finish : ℕ} {order from : ℕ → ℕ} {capacity : ℕ → ℤ} {value : ℤ} → Fillable n start finish order from capacity value
    → Fillable n start finish order from capacity (to_z w32 (of_z w32 value))
fill_by_bits {n} {start} {finish} {order} {from} {capacity} {value} ok =
    subst (Fillable n start finish order from capacity) (sym (same_bits (omega arith) ok.small)) ok

pub fill_from_bits : {n start finish : ℕ} {order from : ℕ → ℕ} {capacity : ℕ → ℤ} {value : ℤ} {length : ℕ → ℤ} {joined : Bool} → Limited most_value value
    → Filled n start finish order from capacity (to_z w32 (of_z w32 value)) length joined → Filled n start finish order from capacity value length joined
fill_from_bits {n} {start} {finish} {order} {from} {capacity} {value} {length} {joined} small =
    subst (λ v. Filled n start finish order from capacity v length joined) (same_bits (omega arith) small)
