-- A decision names one set: two ways in which a set comes about for one question on one drawing lead to the same nodes.
use mathlib.Core.Path.{◌≡◌, refl, sym, ◌∙◌, ap, ap₂, subst}
use mathlib.Core.Logic.{◌⊎◌, inl, inr}
use mathlib.Core.Bool.{Bool, true, false, true≢false}
use mathlib.Core.List.{List, ◌∷◌}
use Prim.Native.Nat.{ℕ, zero, suc, ◌<◌}
use native.Mathlib.Omega.{arith}
use native.Mathlib.Decide.{dec_lt}
use lib.Seq.{ext_get_or}
use lib.IntN.{ℤ, pos}
use lib.Signed.{◌<ℤ◌}
use Rattle.integers.proofs.Omega.{atoms₁, parts, from_less, from_equal}
use Rattle.integers.proofs.Tests.{either}
use Rattle.maps.specs.Dart.{rev}
use Rattle.maps.specs.Orbit.{iter}
use Rattle.maps.specs.Map.{Map, darts, head}
use Rattle.maps.specs.Face.{left}
use Rattle.maps.specs.Walk.{Walk, here, along}
use Rattle.maps.specs.Check.{Sound}
use Rattle.maps.proofs.Darts.{rev_in}
use Rattle.maps.proofs.Orbits.{iter_zero, iter_suc}
use Rattle.maps.proofs.Faces.{step_permutes}
use Rattle.arrays.specs.At.{at, atℤ}
use Rattle.arrays.specs.Maps.{right_of}
use Rattle.traversal.specs.inner.Spread.{Met}
use Rattle.traversal.specs.inner.Forest.{Reached, Forest}
use Rattle.traversal.proofs.Spreading.{all_met}
use Rattle.traversal.proofs.Coming.{same_order, same_from, same_begins, same_trees}
use Rattle.grouping.specs.inner.Walked.{Walked}
use Rattle.grouping.proofs.OneGrouping as grouping
use Rattle.lengths.specs.inner.Lengths.{Along}
use Rattle.lengths.proofs.OneWay.{same_lengths, same_joined}
use Rattle.search.specs.Parents.{up, down}
use Rattle.search.specs.Given.{given}
use Rattle.search.specs.Trace.{Searches}
use Rattle.search.proofs.Alike.{Alike, alike_one}
use Rattle.std.proofs.Common.{Ok, Err}
use Rattle.search.specs.Outcome.{Outcome, closed_by}
use Rattle.windings.specs.inner.Winding.{crossings, Round}
use Rattle.heights.proofs.OneHeight.{same_height}
use Rattle.thresholds.proofs.OneThreshold.{same_set}
use Rattle.solver.specs.inner.Search.{PartFlagged}
use Rattle.solver.specs.inner.Named.{FirstDart, ApartBy, MadeOfRing, RingNamed, NamedBy, Named}

-- ── the first dart of a node ──
first_one : {𝓜 : Map} {v d e : ℕ} → FirstDart 𝓜 v d → FirstDart 𝓜 v e → d ≡ e
first_one {d = d} {e} a b = by (dec_lt d e) (dec_lt e d)
  where
    by : Dec (d < e) → Dec (e < d) → d ≡ e
    by (yes p) q = absurd (b.none_before d p a.leaves)
    by (no p) (yes q) = absurd (a.none_before e q b.leaves)
    by (no p) (no q) = omega (arith, p, q)

-- ── the nodes of one part ──
module _ {𝓜 : Map} (σ : Sound 𝓜) {d : ℕ} {S S' : ℕ → Bool} (π : PartFlagged 𝓜 d S) (π' : PartFlagged 𝓜 d S') where
  along_walk : (T : ℕ → Bool) → ((e : ℕ) → e < darts 𝓜 → T (𝓜.tail e) ≡ T (head 𝓜 e)) → {v w : ℕ} → Walk 𝓜 v w → T v ≡ T w
  along_walk T whole here = refl
  along_walk T whole (along e l q r) = ap T (sym q) ∙ whole e l ∙ along_walk T whole r

  part_one : (v : ℕ) → v < 𝓜.nodes → S v ≡ S' v
  part_one v l = by (either (S v)) (either (S' v))
    where
      e : ℕ
      e = (σ.has_dart v l).0

      e_in : e < darts 𝓜
      e_in = (σ.has_dart v l).1

      e_at : 𝓜.tail e ≡ v
      e_at = (σ.has_dart v l).2

      by : (S v ≡ true) ⊎ (S v ≡ false) → (S' v ≡ true) ⊎ (S' v ≡ false) → S v ≡ S' v
      by (inl a) (inl b) = a ∙ sym b
      by (inr a) (inr b) = a ∙ sym b
      by (inl a) (inr b) =
          absurd (true≢false (sym a ∙ ap S (sym e_at)
          ∙ π.others e e_in (λ w. true≢false (sym π'.holds ∙ along_walk S' π'.whole w ∙ ap S' e_at ∙ b))))
      by (inr a) (inl b) =
          absurd (true≢false (sym b ∙ ap S' (sym e_at)
          ∙ π'.others e e_in (λ w. true≢false (sym π.holds ∙ along_walk S π.whole w ∙ ap S e_at ∙ a))))

-- ── a ring followed round, of faces that agree on the darts ──
module _ (right right' parent : ℕ → ℕ) (n : ℕ) (same : (d : ℕ) → d < n → right d ≡ right' d) (y : ℕ)
    (dart : (k : ℕ) → parent (iter (up right parent) k y) < n) where
  steps : (k : ℕ) → iter (up right parent) k y ≡ iter (up right' parent) k y
  steps zero = iter_zero (up right parent) y ∙ sym (iter_zero (up right' parent) y)
  steps (suc k) =
      iter_suc (up right parent) k y ∙ same (parent (iter (up right parent) k y)) (dart k) ∙ ap (λ x. right' (parent x)) (steps k)
      ∙ sym (iter_suc (up right' parent) k y)

  downs : (k : ℕ) → down right parent k y ≡ down right' parent k y
  unfolding down
  downs zero = refl
  downs (suc k) = ap₂ (λ x ds. parent x ∷ ds) (steps k) (downs k)

  round_there : (r : Round right parent n y) → Round right' parent n y
  round_there r = record {
    size = r.size;
    some = r.some;
    few = r.few;
    closes = sym (steps r.size) ∙ r.closes;
    first = λ k a b e. r.first k a b (steps k ∙ e);
    inside = λ k. omega (arith, r.inside k, steps k);
    dart = λ k. omega (arith, r.dart k, ap parent (steps k));
  }

-- ── the set made from it ──
module _ {𝓜 : Map} (σ : Sound 𝓜) {first parts : ℕ} {order from order' from' : ℕ → ℕ}
    (𝓕 : Forest (darts 𝓜) 𝓜.rotation first order from parts)
    (orders : (i : ℕ) → i < darts 𝓜 → order i ≡ order' i) (froms : (i : ℕ) → i < darts 𝓜 → from (order i) ≡ from' (order' i))
    {right right' : ℕ → ℕ} (rights : (d : ℕ) → d < darts 𝓜 → right d ≡ right' d)
    {length length' : ℕ → ℤ} (lengths : (d : ℕ) → d < darts 𝓜 → length d ≡ length' d) {parent : ℕ → ℕ} {y : ℕ} {S S' : ℕ → Bool}
    (α : MadeOfRing 𝓜 right length order from parent y S) (β : MadeOfRing 𝓜 right' length' order' from' parent y S') where
  windings : (d : ℕ) → d < darts 𝓜 → α.winding d ≡ β.winding d
  unfolding round_there
  windings d l =
      let r = α.round in
      α.wound.crossed r d l
      ∙ ap (λ ds. crossings ds d) (downs right right' parent (darts 𝓜) rights y r.dart r.size)
      ∙ sym (β.wound.crossed (round_there right right' parent (darts 𝓜) rights y r.dart r) d l)

  heights : (v : ℕ) → v < 𝓜.nodes → α.height v ≡ β.height v
  heights v l =
      let d = σ.has_dart v l in
      subst (λ u. α.height u ≡ β.height u) d.2
      (same_height 𝓕 σ.same_tail α.winding α.height β.height α.heights (λ e m. windings e m ∙ β.heights e m) α.rooted
      (λ i m own. ap (λ x. β.height (𝓜.tail x)) (orders i m) ∙ β.rooted i m (sym (froms i m) ∙ own ∙ orders i m)) d.0 d.1)

  made_one : (v : ℕ) → v < 𝓜.nodes → S v ≡ S' v
  made_one = same_set (omega arith) σ.range.tail_in lengths heights α.serves β.serves

closing_of : Outcome → ℕ
closing_of (Ok _) = 0
closing_of (Err x) = x.dart

closing_one : {d e : ℕ} → ◌≡◌ {A = Outcome} (closed_by d) (closed_by e) → d ≡ e
unfolding closing_of
closing_one h = ap closing_of h

-- ── the search and its ring ──
module _ {𝓜 : Map} (σ : Sound 𝓜) {outer count parts : ℕ} {lefts order from grouped starts lefts' order' from' grouped' starts' : List ℕ}
    (left_is : (d : ℕ) → d < darts 𝓜 → at lefts d ≡ left 𝓜 d) (left_is' : (d : ℕ) → d < darts 𝓜 → at lefts' d ≡ left 𝓜 d)
    (walked : Walked (darts 𝓜) count outer parts 𝓜.rotation lefts order from grouped starts)
    (walked' : Walked (darts 𝓜) count outer parts 𝓜.rotation lefts' order' from' grouped' starts') where
  orders : (i : ℕ) → i < darts 𝓜 → at order i ≡ at order' i
  orders = same_order walked.forest.apart walked'.forest.apart walked.first_come walked'.first_come

  froms : (i : ℕ) → i < darts 𝓜 → at from (at order i) ≡ at from' (at order' i)
  froms = same_from walked.forest.apart walked'.forest.apart walked.first_come walked'.first_come

  lefts_same : (d : ℕ) → d < darts 𝓜 → at lefts d ≡ at lefts' d
  lefts_same d l = left_is d l ∙ sym (left_is' d l)

  rights_same : (d : ℕ) → d < darts 𝓜 → right_of lefts d ≡ right_of lefts' d
  rights_same d l = lefts_same (rev d) (rev_in 𝓜.edges d l)

  module _ (lengths lengths' : List ℤ) (same : (d : ℕ) → d < darts 𝓜 → atℤ lengths d ≡ atℤ lengths' d) where
    alike : Alike (darts 𝓜) count lefts lefts' lengths lengths' grouped grouped' starts starts'
    alike = record {
      same_lefts = lefts_same;
      same_rights = rights_same;
      same_lengths = same;
      same_starts = grouping.same_starts (step_permutes σ) walked.in-rounds walked'.in-rounds;
      same_order = grouping.same_grouped (step_permutes σ) walked.in-rounds walked'.in-rounds;
    }

    module _ {proposal : List ℕ} {S S' : ℕ → Bool} (α : RingNamed 𝓜 outer count parts lefts order from grouped starts lengths proposal S)
        (β : RingNamed 𝓜 outer count parts lefts' order' from' grouped' starts' lengths' proposal S') where
      queues : α.queue ≡ β.queue
      queues = ext_get_or 0 α.queue β.queue (α.size ∙ sym β.size) (λ t l. by t (dec_lt t parts))
        where
          by : (t : ℕ) → Dec (t < parts) → at α.queue t ≡ at β.queue t
          by t (yes l) =
              let b = walked.forest.planted.begins t in
              let b-in = walked.forest.planted.begins_in t l in
              let there = (same_begins walked.forest walked'.forest orders froms t l).1 in
              α.roots.are walked.forest t l
              ∙ lefts_same (at order b) (walked.forest.inside b b-in)
              ∙ ap (at lefts') (orders b b-in ∙ ap (at order') there)
              ∙ sym (β.roots.are walked'.forest t l)
          by t (no n) = α.roots.kept t (omega (arith, n)) ∙ sym (β.roots.kept t (omega (arith, n)))

      ended : (◌≡◌ {A = Outcome} (closed_by α.closing) (closed_by β.closing)) × (α.parents ≡ β.parents)
      ended =
          alike_one alike walked.groups α.queue parts α.size α.few α.sound α.joined α.searched
          (subst (λ q. Searches (given lefts' lengths' grouped' starts' (darts 𝓜) count) q parts proposal β.potentials β.parents
          (closed_by β.closing))
          (sym queues) β.searched)

      ring_one : (v : ℕ) → v < 𝓜.nodes → S v ≡ S' v
      ring_one =
          let y = lefts_same α.closing α.closing_in ∙ ap (at lefts') (closing_one ended.0) in
          made_one σ walked.forest orders froms rights_same same α.made
          (subst (λ f. MadeOfRing 𝓜 (right_of lefts') (atℤ lengths') (at order') (at from') (at α.parents) f S') (sym y)
          (subst (λ p. MadeOfRing 𝓜 (right_of lefts') (atℤ lengths') (at order') (at from') (at p) (at lefts' β.closing) S') (sym ended.1) β.made))

-- ── the whole ──
module _ {𝓜 : Map} {outer : ℕ} {c : ℕ → ℤ} {s t : ℕ} {value : ℤ} {proposal : List ℕ} {S S' : ℕ → Bool}
    (α : Named 𝓜 outer c s t value proposal S) (β : Named 𝓜 outer c s t value proposal S') where
  same_orders : (i : ℕ) → i < darts 𝓜 → at α.order i ≡ at β.order i
  same_orders =
      same_order α.walked.forest.apart β.walked.forest.apart α.walked.first_come β.walked.first_come

  same_origins : (i : ℕ) → i < darts 𝓜 → at α.from (at α.order i) ≡ at β.from (at β.order i)
  same_origins =
      same_from α.walked.forest.apart β.walked.forest.apart α.walked.first_come β.walked.first_come

  met : (d : ℕ) → d < darts 𝓜 → Met (at α.order) (darts 𝓜) d
  met = all_met (darts 𝓜) (darts 𝓜) (at α.order) α.walked.forest.inside α.walked.forest.apart refl

  same_marks : (d : ℕ) → d < darts 𝓜 → at α.from d ≡ at β.from d
  same_marks d l =
      let r = met d l in
      ap (at α.from) (sym r.2) ∙ same_origins r.0 r.1 ∙ ap (at β.from) (sym (same_orders r.0 r.1) ∙ r.2)

  marks_in : (d : ℕ) → d < darts 𝓜 → at α.from d < darts 𝓜
  marks_in d l = let r = met d l in subst (λ x. at α.from x < darts 𝓜) r.2 (by r.0 r.1 (α.walked.forest.planted.met r.0 r.1))
    where
      by : (i : ℕ) → i < darts 𝓜
          → ((u : ℕ) × (u < α.parts) × (α.walked.forest.planted.begins u ≡ i)) ⊎ Reached 𝓜.rotation (at α.order) (at α.from) i
          → at α.from (at α.order i) < darts 𝓜
      by i m (inl (u, k, e)) =
          let own = subst (λ x. at α.from (at α.order x) ≡ at α.order x) e (α.walked.forest.planted.own u k) in
          omega (arith, own, α.walked.forest.inside i m)
      by i m (inr r) = omega (arith, r.2, α.walked.forest.inside r.0 (omega (arith, r.1, m)))

  starts_one : α.start ≡ β.start
  starts_one = first_one α.start_first β.start_first

  finishes_one : α.finish ≡ β.finish
  finishes_one = first_one α.finish_first β.finish_first

  way : Along (darts 𝓜) α.start α.finish (at β.from) c value (atℤ β.lengths) β.measured.joined
  way =
      subst (λ x. Along (darts 𝓜) x α.finish (at β.from) c value (atℤ β.lengths) β.measured.joined) (sym starts_one)
      (subst (λ x. Along (darts 𝓜) β.start x (at β.from) c value (atℤ β.lengths) β.measured.joined) (sym finishes_one)
      β.measured.along)

  row_one : (d : ℕ) → d < darts 𝓜 → atℤ α.lengths d ≡ atℤ β.lengths d
  row_one = same_lengths marks_in same_marks α.start_first.inside α.finish_first.inside α.measured.along way

  joined_one : α.measured.joined ≡ β.measured.joined
  joined_one = same_joined marks_in same_marks α.start_first.inside α.finish_first.inside α.measured.along way

  both_signs : pos 0 <ℤ value → value <ℤ pos 0 → ⊥
  both_signs h k = let a = atoms₁ value in omega (arith, from_less h (search parts), from_less k (search parts))

  not_none : pos 0 <ℤ value → value ≡ pos 0 → ⊥
  not_none h e = let a = atoms₁ value in omega (arith, from_less h (search parts), from_equal e (search parts))

  not_none' : value <ℤ pos 0 → value ≡ pos 0 → ⊥
  not_none' h e = let a = atoms₁ value in omega (arith, from_less h (search parts), from_equal e (search parts))

  abbrev Ring' : (count parts : ℕ) → Type 0
  Ring' count parts =
      RingNamed 𝓜 outer count parts β.lefts β.order β.from β.grouped β.starts β.lengths proposal S'

  abbrev Walked' : (count parts : ℕ) → Type 0
  Walked' count parts =
      Walked (darts 𝓜) count outer parts 𝓜.rotation β.lefts β.order β.from β.grouped β.starts

  by_ring : RingNamed 𝓜 outer α.count α.parts α.lefts α.order α.from α.grouped α.starts α.lengths proposal S
      → Ring' β.count β.parts → (v : ℕ) → v < 𝓜.nodes → S v ≡ S' v
  by_ring r r' =
      ring_one α.sound α.left_is β.left_is α.walked (there Walked' β.walked) α.lengths β.lengths row_one r (there Ring' r')
    where
      there : (P : ℕ → ℕ → Type 0) → P β.count β.parts → P α.count α.parts
      there P h =
          subst (λ n. P n α.parts) (β.counted ∙ sym α.counted)
          (subst (P β.count) (sym (same_trees α.walked.forest β.walked.forest same_orders same_origins)) h)

  abbrev Flagged : Type 0
  Flagged = ((pos 0 <ℤ value) × PartFlagged 𝓜 α.start S) ⊎ ((value <ℤ pos 0) × PartFlagged 𝓜 α.finish S)

  abbrev Flagged' : Type 0
  Flagged' = ((pos 0 <ℤ value) × PartFlagged 𝓜 β.start S') ⊎ ((value <ℤ pos 0) × PartFlagged 𝓜 β.finish S')

  by_parts : Flagged → Flagged' → (v : ℕ) → v < 𝓜.nodes → S v ≡ S' v
  by_parts (inl a) (inl b) = part_one α.sound a.1 (subst (λ d. PartFlagged 𝓜 d S') (sym starts_one) b.1)
  by_parts (inr a) (inr b) = part_one α.sound a.1 (subst (λ d. PartFlagged 𝓜 d S') (sym finishes_one) b.1)
  by_parts (inl a) (inr b) = absurd (both_signs a.0 b.0)
  by_parts (inr a) (inl b) = absurd (both_signs b.0 a.0)

  some_value : ((pos 0 <ℤ value) ⊎ (value <ℤ pos 0)) → value ≡ pos 0 → ⊥
  some_value (inl h) e = not_none h e
  some_value (inr h) e = not_none' h e

  sign : {P Q : Type 0} → ((pos 0 <ℤ value) × P) ⊎ ((value <ℤ pos 0) × Q) → (pos 0 <ℤ value) ⊎ (value <ℤ pos 0)
  sign (inl a) = inl a.0
  sign (inr a) = inr a.0

  -- found apart, and not
  clash : {j k : Bool} → j ≡ k → j ≡ false → ((pos 0 <ℤ value) ⊎ (value <ℤ pos 0)) → (k ≡ true) ⊎ (value ≡ pos 0) → ⊥
  clash e f h (inl g) = true≢false (sym g ∙ sym e ∙ f)
  clash e f h (inr z) = some_value h z

  by_ways : (a b : Bool) → ApartBy 𝓜 α.start α.finish value α.measured.joined S a
      → NamedBy 𝓜 outer α.count α.parts α.lefts α.order α.from α.grouped α.starts α.lengths proposal S a
      → ApartBy 𝓜 β.start β.finish value β.measured.joined S' b
      → NamedBy 𝓜 outer β.count β.parts β.lefts β.order β.from β.grouped β.starts β.lengths proposal S' b
      → (v : ℕ) → v < 𝓜.nodes → S v ≡ S' v
  by_ways true true w r w' r' = by_parts w.1 w'.1
  by_ways false false w r w' r' = by_ring r r'
  by_ways true false w r w' r' = absurd (clash joined_one w.0 (sign w.1) w')
  by_ways false true w r w' r' = absurd (clash (sym joined_one) w'.0 (sign w'.1) w)

  pub named_one : (v : ℕ) → v < 𝓜.nodes → S v ≡ S' v
  named_one = by_ways α.apart β.apart α.measured.way α.by β.measured.way β.by
