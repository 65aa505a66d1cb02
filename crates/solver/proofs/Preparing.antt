-- What a decision stands on: the lengths from the walk over the darts, or the nodes of one part; and a signed argument as the number of its bits.
use mathlib.Core.Path.{◌≡◌, refl, sym, ◌∙◌, subst}
use mathlib.Core.Logic.{◌⊎◌, inl, inr, ◌≢◌}
use mathlib.Core.Bool.{Bool, true, false}
use mathlib.Core.List.{List}
use Prim.Native.Nat.{ℕ, ◌≤◌, ◌<◌}
use native.Mathlib.Omega.{arith}
use lib.IntN.{ℤ, pos}
use lib.Signed.{◌<ℤ◌}
use mir.Syntax.{w32}
use mir.Val.{to_z, of_z}
use Rattle.integers.specs.inner.Limited.{Limited}
use Rattle.signed.proofs.Limits.{same_bits}
use Rattle.integers.proofs.Tests.{either, eqb_true, eqb_eq}
use Rattle.maps.specs.Dart.{rev}
use Rattle.maps.specs.Map.{Map, darts, head}
use Rattle.maps.specs.Walk.{Walk}
use Rattle.maps.proofs.Darts.{rev_rev, rev_in}
use Rattle.maps.proofs.Walks.{walk_back}
use Rattle.maps.specs.Face.{faces}
use Rattle.maps.specs.Check.{Sound}
use Rattle.flows.specs.ProvingSet.{Proves}
use Rattle.flows.proofs.UnitFlow.{unit_carries, none_carried}
use Rattle.flows.proofs.Apart.{part_of_source, part_of_sink}
use Rattle.arrays.specs.At.{at}
use Rattle.arrays.specs.inner.Flags.{flagged}
use Rattle.traversal.specs.inner.Mark.{unmarked}
use Rattle.traversal.specs.inner.Spread.{Spread, FlagsMet}
use Rattle.traversal.proofs.Reach.{start_in, start_marked, node_marked, back_marked, met_walk}
use Rattle.lengths.specs.inner.Lengths.{Treed, Fillable, Filled}
use Rattle.search.proofs.OfMap.{faces_few}
use Rattle.arrays.specs.inner.Drawn.{Drawn}
use Rattle.arrays.specs.inner.Sizes.{most_capacity, most_value}
use Rattle.solver.specs.inner.Search.{Lengthened, PartFlagged, Measured}
use Rattle.solver.specs.inner.Decision.{Decided}

-- a signed argument that is passed on comes as the number of its bits
pub same_value : {v : ℤ} → Limited most_value v → to_z w32 (of_z w32 v) ≡ v
same_value h = same_bits (omega arith) h

pub small_value : {v : ℤ} → Limited most_value v → Limited most_value (to_z w32 (of_z w32 v))
small_value h = subst (Limited most_value) (sym (same_value h)) h

-- ── the lengths ──
module _ {𝓜 : Map} (few : 𝓜.edges ≤ 512) {order from : ℕ → ℕ} (ρ : Treed 𝓜 (darts 𝓜) order from) {start finish : ℕ} where
  pub lengths_fillable : {c : ℕ → ℤ} {value : ℤ} → start < darts 𝓜 → finish < darts 𝓜 → ((d : ℕ) → d < darts 𝓜 → Limited most_capacity (c d))
      → Limited most_value value → Fillable (darts 𝓜) start finish order from c value
  lengths_fillable start_in finish_in capacities small = record {
    few = omega (arith, few);
    map = 𝓜;
    treed = ρ;
    start_in = start_in;
    finish_in = finish_in;
    capacities = capacities;
    small = small;
  }

  module _ {c : ℕ → ℤ} {value asked : ℤ} {length : ℕ → ℤ} {joined : Bool} (e : value ≡ asked)
      (h : Filled (darts 𝓜) start finish order from c value length joined) where
    -- along the path between two darts of one tree
    pub lengthened : joined ≡ true → Lengthened 𝓜 (𝓜.tail start) (𝓜.tail finish) c asked length
    lengthened j =
        subst (λ v. Lengthened 𝓜 (𝓜.tail start) (𝓜.tail finish) c v length) e
        record { along = h.flow; carrier = unit_carries (h.unit j 𝓜 ρ) value; is = h.lengths; short = h.limited }

    -- the value 0 needs no path
    pub lengthened_none : asked ≡ pos 0 → Lengthened 𝓜 (𝓜.tail start) (𝓜.tail finish) c asked length
    lengthened_none z =
        subst (λ v. Lengthened 𝓜 (𝓜.tail start) (𝓜.tail finish) c v length) e
        record { along = h.flow; carrier = none_carried (h.against 𝓜 ρ) (𝓜.tail start) (𝓜.tail finish) value (e ∙ z); is = h.lengths; short = h.limited }

    -- ── source and sink in different parts ──
    module _ (S : ℕ → Bool) (j : joined ≡ false) where
      pub source_part : finish < darts 𝓜 → PartFlagged 𝓜 start S → pos 0 <ℤ asked → Proves 𝓜 c (𝓜.tail start) (𝓜.tail finish) asked S
      source_part l π more = part_of_source 𝓜 c S π.whole (π.holds, π.others finish l (h.apart j 𝓜 ρ)) asked more

      pub sink_part : start < darts 𝓜 → PartFlagged 𝓜 finish S → asked <ℤ pos 0 → Proves 𝓜 c (𝓜.tail start) (𝓜.tail finish) asked S
      sink_part l π below = part_of_sink 𝓜 c S π.whole (π.others start l (λ w. h.apart j 𝓜 ρ (walk_back w)), π.holds) asked below

-- ── the nodes of one part ──
module _ {𝓜 : Map} (σ : Sound 𝓜) {start : ℕ} {order from : ℕ → ℕ} {met : ℕ} (ξ : Spread (darts 𝓜) 𝓜.rotation start order from met)
    (nodes : 𝓜.nodes ≤ 1024) (inside : List ℕ) (flags : FlagsMet (darts 𝓜) 𝓜.tail from (at inside)) where
  node_below : (d : ℕ) → d < darts 𝓜 → 𝓜.tail d < 1024
  node_below d l = omega (arith, σ.range.tail_in d l, nodes)

  flag_on : (d : ℕ) → d < darts 𝓜 → from d ≢ unmarked → flagged inside (𝓜.tail d) ≡ true
  flag_on d l h = eqb_true (at inside (𝓜.tail d)) 1 (flags.set d l h)

  on_flag : (d : ℕ) → d < darts 𝓜 → flagged inside (𝓜.tail d) ≡ true → from d ≢ unmarked
  on_flag d l e =
      let r = flags.only (𝓜.tail d) (node_below d l) (eqb_eq (at inside (𝓜.tail d)) 1 e) in
      node_marked σ ξ r.0 d r.1 l r.2 r.3

  -- both ends of a dart are flagged or neither
  flags_whole : (d : ℕ) → d < darts 𝓜 → flagged inside (𝓜.tail d) ≡ flagged inside (head 𝓜 d)
  flags_whole d l = same (flagged inside (𝓜.tail d)) (flagged inside (head 𝓜 d)) over back
    where
      r_in : rev d < darts 𝓜
      r_in = rev_in 𝓜.edges d l

      over : flagged inside (𝓜.tail d) ≡ true → flagged inside (head 𝓜 d) ≡ true
      over e = flag_on (rev d) r_in (back_marked σ ξ d l (on_flag d l e))

      back : flagged inside (head 𝓜 d) ≡ true → flagged inside (𝓜.tail d) ≡ true
      back e = flag_on d l (subst (λ x. from x ≢ unmarked) (rev_rev d) (back_marked σ ξ (rev d) r_in (on_flag (rev d) r_in e)))

      same : (a b : Bool) → (a ≡ true → b ≡ true) → (b ≡ true → a ≡ true) → a ≡ b
      same true b h g = sym (h refl)
      same false true h g = g refl
      same false false h g = refl

  pub part_flagged : PartFlagged 𝓜 start (flagged inside)
  part_flagged = record { whole = flags_whole; holds = flag_on start (start_in σ ξ) (start_marked σ ξ); others = others }
    where
      others : (d : ℕ) → d < darts 𝓜 → (Walk 𝓜 (𝓜.tail start) (𝓜.tail d) → ⊥) → flagged inside (𝓜.tail d) ≡ false
      others d l far = go (either (flagged inside (𝓜.tail d)))
        where
          go : (flagged inside (𝓜.tail d) ≡ true) ⊎ (flagged inside (𝓜.tail d) ≡ false) → flagged inside (𝓜.tail d) ≡ false
          go (inl e) = absurd (far (met_walk σ ξ d l (on_flag d l e)))
          go (inr e) = e

-- the darts found stand at the ends
pub measured_for : (𝓜 : Map) (c : ℕ → ℤ) (length : ℕ → ℤ) (inside : List ℕ) {s t s' t' : ℕ} {v v' : ℤ} (r : Bool)
    → s' ≡ s → t' ≡ t → v' ≡ v → Measured 𝓜 s' t' c v' length inside r → Measured 𝓜 s t c v length inside r
measured_for 𝓜 c length inside r p q e h = rw (← p, ← q, ← e) h

module _ {𝓜 : Map} {left : ℕ → ℕ} {count outer : ℕ} {c : ℕ → ℤ} (drawn : Drawn 𝓜 left count outer c) where
  pub faces_most : faces 𝓜 ≤ 1024
  faces_most = omega (arith, faces_few 𝓜, drawn.few_edges)

-- a decision for equal ends and an equal value
pub decided_for : (𝓜 : Map) (outer : ℕ) (c : ℕ → ℤ) {s t s' t' : ℕ} {v v' : ℤ} → s' ≡ s → t' ≡ t → v' ≡ v → (flows flows' : List ℤ) (inside : List ℕ) (r : Bool)
    → Decided 𝓜 outer c s' t' v' flows flows' inside r → Decided 𝓜 outer c s t v flows flows' inside r
decided_for 𝓜 outer c p q e flows flows' inside r h = rw (← p, ← q, ← e) h
