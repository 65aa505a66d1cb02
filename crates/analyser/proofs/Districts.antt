-- Several parts on one sheet (document 02, Job 8): flat in each, one face at 0 in each, and only 0 delivered between two.
use mathlib.Core.Path.{◌≡◌, refl, sym, ◌∙◌, ap, subst}
use mathlib.Core.Logic.{◌⊎◌, inl, inr, ◌↔◌}
use mathlib.Core.Bool.{Bool, true, false}
use mathlib.Core.List.{List}
use Prim.Native.Nat.{ℕ, ◌<◌}
use native.Mathlib.Decide.{ℕ_discrete}
use lib.IntN.{ℤ, pos}
use Rattle.integers.proofs.Tests.{either}
use Rattle.refusals.specs.Order.{NoneOf}
use Rattle.maps.specs.Map.{Map, darts, head}
use Rattle.maps.specs.Walk.{Walk, here, along}
use Rattle.maps.specs.Check.{Sound}
use Rattle.maps.proofs.Darts.{rev_in}
use Rattle.maps.specs.Flow.{net}
use Rattle.maps.proofs.Cuts.{sink_takes}
use Rattle.maps.proofs.Walks.{walk_append, walk_back}
use Rattle.maps.proofs.Parts.{flat_in_any}
use Rattle.flows.specs.Settings.{on_darts}
use Rattle.flows.proofs.Plane.{zero_dart, zero_one}
use Rattle.flows.proofs.Apart as apart
use Rattle.arrays.specs.At.{atℤ}
use Rattle.records.specs.Sheet.{nodes_of, capacity_of, outer_of, sheet_map}
use Rattle.sheets.specs.Open.{sheet_checks}
use Rattle.questions.specs.Question.{end_checks}
use Rattle.questions.proofs.Asked.{ends_in, ends_differ}
use Rattle.analyser.specs.Statements.{Delivers, Possible, BalancedWithin, Districts}
use Rattle.analyser.proofs.SheetPlane.{plane, outer_in}
use Rattle.analyser.proofs.Accepted.{sought}
use Rattle.analyser.proofs.Range.{range_accepted, least_and_largest}
use Rattle.analyser.proofs.Statements.{possible_and_impossible}

-- a set that holds just the nodes joined to v holds both ends of each dart or neither
joined_whole : {𝓜 : Map} → Sound 𝓜 → (v : ℕ) (S : ℕ → Bool) → ((w : ℕ) → w < 𝓜.nodes → (S w ≡ true) ↔ Walk 𝓜 v w)
    → (d : ℕ) → d < darts 𝓜 → S (𝓜.tail d) ≡ S (head 𝓜 d)
joined_whole {𝓜} σ v S is d l = same (S (𝓜.tail d)) (S (head 𝓜 d)) over back
  where
    t_in : 𝓜.tail d < 𝓜.nodes
    t_in = σ.range.tail_in d l

    h_in : head 𝓜 d < 𝓜.nodes
    h_in = σ.range.tail_in _ (rev_in 𝓜.edges d l)

    edge : Walk 𝓜 (𝓜.tail d) (head 𝓜 d)
    edge = along d l refl here

    over : S (𝓜.tail d) ≡ true → S (head 𝓜 d) ≡ true
    over e = (is (head 𝓜 d) h_in).1 (walk_append ((is (𝓜.tail d) t_in).0 e) edge)

    back : S (head 𝓜 d) ≡ true → S (𝓜.tail d) ≡ true
    back e = (is (𝓜.tail d) t_in).1 (walk_append ((is (head 𝓜 d) h_in).0 e) (walk_back edge))

    same : (a b : Bool) → (a ≡ true → b ≡ true) → (b ≡ true → a ≡ true) → a ≡ b
    same true b h g = sym (h refl)
    same false true h g = g refl
    same false false h g = refl

off : (b : Bool) → (b ≡ true → ⊥) → b ≡ false
off b h = go (either b)
  where
    go : (b ≡ true) ⊎ (b ≡ false) → b ≡ false
    go (inl e) = absurd (h e)
    go (inr e) = e

module _ (s : List ℕ) (sheet : NoneOf (sheet_checks s)) where
  σ : Sound (sheet_map s)
  σ = (plane s sheet).sound

  module _ (source sink : ℕ) (ends : NoneOf (end_checks (nodes_of s) source sink)) (far : Walk (sheet_map s) source sink → ⊥) where
    zero : (value : ℤ) (x : ℕ → ℤ) → Delivers s source sink value x → value ≡ pos 0
    zero =
        let e = ends_in (nodes_of s) source sink ends in
        apart.apart_zero (plane s sheet).sound.range e.0 e.1 (ends_differ (nodes_of s) source sink ends) (capacity_of s) far

    -- what carries 0 balances at both ends too, and what balances everywhere carries 0
    zero_balances : (x : ℕ → ℤ) → Delivers s source sink (pos 0) x → BalancedWithin s x
    zero_balances x carried =
        (record { antisymmetric = carried.antisymmetric; balanced = λ v l. go v l (ℕ_discrete v source) (ℕ_discrete v sink) }, carried.within)
      where
        go : (v : ℕ) → v < nodes_of s → Dec (v ≡ source) → Dec (v ≡ sink) → net (sheet_map s) (on_darts x) v ≡ pos 0
        go v l (yes e) q = ap (net (sheet_map s) (on_darts x)) e ∙ carried.carries
        go v l (no e) (yes q) =
            let i = ends_in (nodes_of s) source sink ends in
            ap (net (sheet_map s) (on_darts x)) q ∙ sink_takes σ.range i.0 i.1 (ends_differ (nodes_of s) source sink ends) carried
        go v l (no e) (no q) = carried.balanced v l e q

    balanced_zero : (x : ℕ → ℤ) → BalancedWithin s x → Delivers s source sink (pos 0) x
    balanced_zero x b = record {
      antisymmetric = b.0.antisymmetric;
      within = b.1;
      balanced = λ v l _ _. b.0.balanced v l;
      carries = b.0.balanced source (ends_in (nodes_of s) source sink ends).0;
    }

    exactly : (value : ℤ) → Possible s source sink value ↔ ((value ≡ pos 0) × ((x : ℕ → ℤ) × BalancedWithin s x))
    exactly value = (
      (λ p. let z = zero value p.0 p.1 in (z, (p.0, zero_balances p.0 (subst (λ v. Delivers s source sink v p.0) z p.1)))),
      (λ b. (b.1.0, subst (λ v. Delivers s source sink v b.1.0) (sym b.0) (balanced_zero b.1.0 b.1.1))),
    )

pub districts : Districts
districts = record {
  flat_in_each = λ s sheet k part κ. flat_in_any (σ s sheet) (plane s sheet).flat.components κ (plane s sheet).flat.in-each;
  has_zero_face = λ s sheet d l.
      let 𝓜 = sheet_map s in
      let κ = (plane s sheet).flat.components in
      let r = zero_dart (σ s sheet) κ (outer_of s) (outer_in s sheet) _ (κ.below (𝓜.tail d) ((σ s sheet).range.tail_in d l)) in (
        r.0,
        r.1,
        κ.joined (𝓜.tail d) (𝓜.tail r.0) ((σ s sheet).range.tail_in d l) ((σ s sheet).range.tail_in r.0 r.1) (sym r.2),
        r.3,
      );
  one_zero_face = λ s sheet d e l m w.
      let 𝓜 = sheet_map s in
      let κ = (plane s sheet).flat.components in
      zero_one (σ s sheet) κ (outer_of s) (outer_in s sheet) d e l m
      (κ.agree (𝓜.tail d) (𝓜.tail e) ((σ s sheet).range.tail_in d l) ((σ s sheet).range.tail_in e m) w);
  apart_zero = λ s source sink value x sheet ends far d. zero s sheet source sink ends far value x d;
  apart_exactly = λ s source sink value sheet ends far. exactly s sheet source sink ends far value;
  headgate_part = λ s source sink value S sheet ends is far more.
      let e = ends_in (nodes_of s) source sink ends in
      apart.part_of_source (sheet_map s) (capacity_of s) S (joined_whole (plane s sheet).sound source S is)
      ((is source e.0).1 here, off (S sink) (λ t. far ((is sink e.1).0 t))) value more;
  outfall_part = λ s source sink value S sheet ends is far less.
      let e = ends_in (nodes_of s) source sink ends in
      apart.part_of_sink (sheet_map s) (capacity_of s) S (joined_whole (plane s sheet).sound sink S is)
      (off (S source) (λ t. far (walk_back ((is source e.0).0 t))), (is sink e.1).1 here) value less;
  apart_largest = λ s source sink v flows flows' set set' far h.
      let a = sought s source sink flows set h.0 in
      zero s a.sheet source sink a.ends_two far v (atℤ flows') (possible_and_impossible.largest_carries s source sink v flows flows' set set' h);
  apart_range = λ s source sink low low' below below' high high' above above' r far h.
      let a = range_accepted s source sink low low' below below' high high' above above' h.0 in
      let only = zero s a.0 source sink a.1 far in (
        only r.least (atℤ low') (least_and_largest.least_carries s source sink low low' below below' high high' above above' r h),
        only r.largest (atℤ high') (least_and_largest.largest_carries s source sink low low' below below' high high' above above' r h),
      );
}
