-- The walk over the darts on its way: what listing one dart keeps, how a tree begins, and what is known when no listed dart waits.
use mathlib.Core.Path.{◌≡◌, refl, sym, ◌∙◌, ap, subst}
use mathlib.Core.Logic.{◌⊎◌, inl, inr, ◌≢◌}
use mathlib.Core.Bool.{cond}
use Prim.Native.Nat.{ℕ, ◌+◌, ◌/◌, ◌%◌, ◌≤◌, ◌<◌}
use native.Mathlib.Omega.{arith}
use native.Mathlib.Decide.{ℕ_discrete, dec_lt}
use lib.Dec.{eqb}
use Rattle.integers.proofs.Tests.{eqb_eq, eqb_true, eqb_false}
use Rattle.integers.proofs.Pigeonhole.{pigeonhole, Twice}
use Rattle.integers.proofs.Injections.{find, find_is, onto}
use Rattle.maps.specs.Dart.{rev}
use Rattle.maps.proofs.Darts.{rev_in}
use Rattle.traversal.specs.inner.Mark.{unmarked}
use Rattle.traversal.specs.inner.Spread.{Met, Follows, Spread, Added}
use Rattle.traversal.specs.inner.Forest.{Reached, Trees, Forest, Growing, Plantable}

-- ── listing one dart ──
pub added_old : {d origin end : ℕ} {from order : ℕ → ℕ} → from d ≢ unmarked → Added d origin from from order order end end
added_old h = record {
  longer = omega arith;
  by_one = omega arith;
  has = h;
  grew = λ y e. refl;
  only = λ y e. inl e;
  kept = λ i l. refl;
  new = λ l. absurd (omega arith);
}

pub added_new : {d origin end : ℕ} {from from' order order' : ℕ → ℕ} → origin < 1024 → from d ≡ unmarked
    → from' d ≡ origin → ((y : ℕ) → y ≢ d → from' y ≡ from y) → order' end ≡ d
    → ((i : ℕ) → i ≢ end → order' i ≡ order i) → Added d origin from from' order order' end (end + 1)
added_new {d} {origin} {end} {from} {from'} {order} {order'} small z put keep last rest = record {
  longer = omega arith;
  by_one = omega arith;
  has = λ e. omega (arith, put, e);
  grew = λ y h. keep y (λ e. h (ap from e ∙ z));
  only = λ y h. on y h (ℕ_discrete y d);
  kept = λ i l. rest i (λ e. omega arith);
  new = λ l. (last, z, put);
}
  where
    on : (y : ℕ) → from' y ≢ unmarked → Dec (y ≡ d) → (from y ≢ unmarked) ⊎ ((y ≡ d) × (end < end + 1))
    on y h (yes p) = inr (p, omega arith)
    on y h (no p) = inl (λ e. h (keep y p ∙ e))

-- a dart that was not met makes the order longer
pub added_grew : {d origin end end' : ℕ} {from from' order order' : ℕ → ℕ} → Added d origin from from' order order' end end'
    → from d ≡ unmarked → end' ≡ end + 1
added_grew {d} {end = end} {end' = end'} {from = from} a z = go (a.only d a.has)
  where
    go : (from d ≢ unmarked) ⊎ ((d ≡ d) × (end < end')) → end' ≡ end + 1
    go (inl h) = absurd (h z)
    go (inr r) = omega (arith, r.1, a.by_one)

-- numbers below n, no two equal, are at most n
pub at_most_n : (n m : ℕ) (g : ℕ → ℕ) → ((i : ℕ) → i < m → g i < n) → ((i j : ℕ) → i < m → j < m → g i ≡ g j → i ≡ j) → m ≤ n
at_most_n n m g inside apart = go (dec_lt n m)
  where
    clash : n < m → Twice g n → ⊥
    clash l t = omega (arith, t.2, t.3, apart t.0 t.1 (omega (arith, t.2, t.3)) (omega (arith, t.3)) t.4)

    go : Dec (n < m) → m ≤ n
    go (yes l) = absurd (clash l (pigeonhole n g (λ i h. inside i (omega arith))))
    go (no l) = omega (arith, l)

-- as many as n: each number below n is one of them
pub all_met : (n m : ℕ) (g : ℕ → ℕ) → ((i : ℕ) → i < m → g i < n) → ((i j : ℕ) → i < m → j < m → g i ≡ g j → i ≡ j) → m ≡ n → (d : ℕ) → d < n → Met g m d
all_met n m g inside apart e d l =
    let r = onto m g (λ i h. omega (arith, inside i h)) apart d (omega arith) in
    (r.0, r.1, sym (eqb_eq d (g r.0) r.2))

-- where a dart stands in the order
abbrev pub place : (ℕ → ℕ) → ℕ → ℕ → ℕ
place order count d = find count (λ i. eqb d (order i))

pub place_is : (order : ℕ → ℕ) (count d : ℕ) → Met order count d → (place order count d < count) × (order (place order count d) ≡ d)
place_is order count d r =
    let q = find_is count (λ i. eqb d (order i)) r.0 r.1 (eqb_true d (order r.0) (sym r.2)) in
    (q.0, sym (eqb_eq d (order (place order count d)) q.1))

-- no more numbers than places, where each has one
pub at_least_n : (n m : ℕ) (g : ℕ → ℕ) → ((d : ℕ) → d < n → Met g m d) → n ≤ m
at_least_n n m g every =
    at_most_n m n (place g m) (λ d l. (place_is g m d (every d l)).0)
    (λ c d lc ld e. sym (place_is g m c (every c lc)).1 ∙ ap g e ∙ (place_is g m d (every d ld)).1)

-- ── on the way ──
pub growing_none : {darts : ℕ} {rotation : ℕ → ℕ} {first : ℕ} {order from : ℕ → ℕ} → darts ≤ 1024 → ((y : ℕ) → y < 1024 → from y ≡ unmarked)
    → Growing darts rotation first order from 0 0 0
growing_none small none = record {
  ordered = omega arith;
  inside = λ i l. absurd (omega arith);
  apart = λ i j l m e. absurd (omega arith);
  marked = λ i l. absurd (omega arith);
  listed = λ y l h. absurd (h (none y (omega arith)));
  done = λ i l. absurd (omega arith);
  planted = record {
    begins = λ t. 0;
    begins_in = λ t l. absurd (omega arith);
    at_first = λ l. absurd (omega arith);
    rising = λ t u l m. absurd (omega arith);
    own = λ t l. absurd (omega arith);
    met = λ i l. absurd (omega arith);
    closed = λ t l. absurd (omega arith);
    lowest = λ t z l. absurd (omega arith);
  };
}

module _ {darts : ℕ} {rotation : ℕ → ℕ} {first : ℕ} {order from : ℕ → ℕ} {front end trees : ℕ}
    (ξ : Growing darts rotation first order from front end trees) where
  pub few : end ≤ darts
  few = at_most_n darts end order ξ.inside ξ.apart

  -- a dart that was not met has room in the order
  pub room : (d : ℕ) → d < darts → from d ≡ unmarked → end < darts
  room d l z = go (ℕ_discrete end darts)
    where
      full : Met order end d → ⊥
      full (i, m, e) = ξ.marked i m (ap from e ∙ z)

      go : Dec (end ≡ darts) → end < darts
      go (yes e) = absurd (full (all_met darts end order ξ.inside ξ.apart e d l))
      go (no e) = omega (arith, few, e)

  -- a full order: every dart is marked
  pub all_marked : darts ≤ end → (d : ℕ) → d < darts → from d ≢ unmarked
  all_marked h d l z = omega (arith, room d l z)

  -- where all darts are marked, all are listed
  pub all_listed : ((d : ℕ) → d < darts → from d ≢ unmarked) → darts ≤ end
  all_listed every = at_least_n darts end order (λ d l. ξ.listed d l (every d l))

  -- each tree has a place of its own
  pub trees_few : trees ≤ end
  trees_few = at_most_n end trees ξ.planted.begins ξ.planted.begins_in (λ t u l m e. same t u l m e (dec_lt t u) (dec_lt u t))
    where
      same : (t u : ℕ) → t < trees → u < trees → ξ.planted.begins t ≡ ξ.planted.begins u → Dec (t < u) → Dec (u < t) → t ≡ u
      same t u l m e (yes p) q = absurd (omega (arith, ξ.planted.rising t u p m))
      same t u l m e (no p) (yes q) = absurd (omega (arith, ξ.planted.rising u t q l))
      same t u l m e (no p) (no q) = omega (arith, p, q)

-- when no dart waits, the neighbours of each listed dart are listed
module _ {darts : ℕ} {rotation : ℕ → ℕ} {first : ℕ} {order from : ℕ → ℕ} {front end trees : ℕ} (ξ : Growing darts rotation first order from front end trees)
    (over : end ≤ front) (even : darts % 2 ≡ 0) (stays : (d : ℕ) → d < darts → rotation d < darts) where
  pub both_listed : (i : ℕ) → i < end → Met order end (rotation (order i)) × Met order end (rev (order i))
  both_listed i l =
      let r = ξ.done i (omega arith) in
      (ξ.listed (rotation (order i)) (stays (order i) (ξ.inside i l)) r.0, ξ.listed (rev (order i)) back r.1)
    where
      back : rev (order i) < darts
      back = omega (arith, rev_in (darts / 2) (order i) (omega (arith, ξ.inside i l)))

-- one tree is the walk from its first dart
pub finished : {darts : ℕ} {rotation : ℕ → ℕ} {first : ℕ} {order from : ℕ → ℕ} {end : ℕ} → Growing darts rotation first order from end end 1
    → darts % 2 ≡ 0 → ((d : ℕ) → d < darts → rotation d < darts) → Spread darts rotation first order from end
finished {darts} {rotation} {first} {order} {from} {end} ξ even stays = record {
  some = omega (arith, ξ.planted.begins_in 0 (omega arith));
  few = few ξ;
  first = (ξ.planted.at_first (omega arith)).1;
  inside = ξ.inside;
  apart = ξ.apart;
  met = λ i z l. go i z (ξ.planted.met i l);
  closed = both_listed ξ (omega arith) even stays;
  marked = ξ.marked;
  listed = ξ.listed;
}
  where
    go : (i : ℕ) → 0 < i → ((t : ℕ) × (t < 1) × (ξ.planted.begins t ≡ i)) ⊎ Reached rotation order from i → Reached rotation order from i
    go i z (inl (t, l, e)) = let q : t ≡ 0 = omega arith in absurd (omega (arith, e, ap ξ.planted.begins q, (ξ.planted.at_first (omega arith)).0))
    go i z (inr r) = r

-- all darts are marked: the trees are a forest
pub all_grown : {darts : ℕ} {rotation : ℕ → ℕ} {first : ℕ} {order from : ℕ → ℕ} {end trees : ℕ} → Growing darts rotation first order from end end trees
    → 0 < trees → ((d : ℕ) → d < darts → from d ≢ unmarked) → Forest darts rotation first order from trees
all_grown {darts} {rotation} {first} {order} {from} {end} {trees} ξ some every =
    record { some = some; inside = ξ'.inside; apart = ξ'.apart; planted = ξ'.planted }
  where
    full : end ≡ darts
    full = omega (arith, few ξ, all_listed ξ every)

    ξ' : Growing darts rotation first order from darts darts trees
    ξ' = subst (λ n. Growing darts rotation first order from n n trees) full ξ

follows_same : (rotation : ℕ → ℕ) {d d' p p' : ℕ} → d' ≡ d → p' ≡ p → Follows rotation d p → Follows rotation d' p'
follows_same rotation e q (inl r) = inl (e ∙ r ∙ sym (ap rev q))
follows_same rotation e q (inr r) = inr (e ∙ r ∙ sym (ap rotation q))

-- ── a dart is listed ──
module _ {darts : ℕ} {rotation : ℕ → ℕ} {first d origin : ℕ} {order order' from from' : ℕ → ℕ} {front end end' trees : ℕ}
    (ξ : Growing darts rotation first order from front end trees) (d_in : d < darts) (a : Added d origin from from' order order' end end') where
  still : (y : ℕ) → from y ≢ unmarked → from' y ≢ unmarked
  still y h e = h (sym (a.grew y h) ∙ e)

  -- the dart at a place of the longer order
  old_from : (i : ℕ) → i < end → from' (order' i) ≡ from (order i)
  old_from i m = ap from' (a.kept i m) ∙ a.grew (order i) (ξ.marked i m)

  last : (i : ℕ) → i < end' → (i < end → ⊥) → (i ≡ end) × (end < end')
  last i m n = (omega (arith, a.by_one, n), omega (arith, n))

  inside' : (i : ℕ) → i < end' → Dec (i < end) → order' i < darts
  inside' i m (yes p) = omega (arith, a.kept i p, ξ.inside i p)
  inside' i m (no p) = let r = last i m p in omega (arith, ap order' r.0, (a.new r.1).0)

  -- an old place does not hold the new dart
  no_clash : (i j : ℕ) → i < end → j < end' → (j < end → ⊥) → order' i ≡ order' j → ⊥
  no_clash i j m n p e =
      let r = last j n p in
      let w = a.new r.1 in
      ξ.marked i m (ap from (sym (a.kept i m) ∙ e ∙ ap order' r.0 ∙ w.0) ∙ w.1)

  apart' : (i j : ℕ) → i < end' → j < end' → order' i ≡ order' j → Dec (i < end) → Dec (j < end) → i ≡ j
  apart' i j m n e (yes p) (yes q) = ξ.apart i j p q (sym (a.kept i p) ∙ e ∙ a.kept j q)
  apart' i j m n e (yes p) (no q) = absurd (no_clash i j p n q e)
  apart' i j m n e (no p) (yes q) = absurd (no_clash j i q m p (sym e))
  apart' i j m n e (no p) (no q) = (last i m p).0 ∙ sym (last j n q).0

  marked' : (i : ℕ) → i < end' → Dec (i < end) → from' (order' i) ≢ unmarked
  marked' i m (yes p) = λ e. ξ.marked i p (sym (old_from i p) ∙ e)
  marked' i m (no p) = let r = last i m p in λ e. a.has (sym (ap from' (ap order' r.0 ∙ (a.new r.1).0)) ∙ e)

  listed' : (y : ℕ) → y < darts → (from y ≢ unmarked) ⊎ ((y ≡ d) × (end < end')) → Met order' end' y
  listed' y m (inl h) = let r = ξ.listed y m h in (r.0, omega (arith, r.1, a.longer), a.kept r.0 r.1 ∙ r.2)
  listed' y m (inr r) = (end, r.1, (a.new r.1).0 ∙ sym r.0)

  done' : (i : ℕ) → i < front → (from' (rotation (order' i)) ≢ unmarked) × (from' (rev (order' i)) ≢ unmarked)
  done' i m =
      let r = ξ.done i m in
      let e = a.kept i (omega (arith, ξ.ordered)) in (
        λ q. still (rotation (order i)) r.0 (sym (ap (λ x. from' (rotation x)) e) ∙ q),
        λ q. still (rev (order i)) r.1 (sym (ap (λ x. from' (rev x)) e) ∙ q),
      )

  -- what was met stays met, and from where
  reached' : (i : ℕ) → i < end → Reached rotation order from i → Reached rotation order' from' i
  reached' i p r =
      (r.0, r.1, a.kept r.0 (omega (arith, r.1)) ∙ r.2 ∙ sym (old_from i p), follows_same rotation (a.kept i p) (old_from i p) r.3)

  met_still : (n y : ℕ) → n ≤ end → Met order n y → Met order' n y
  met_still n y l (i, m, e) = (i, m, a.kept i (omega arith) ∙ e)

  closed' : (n i : ℕ) → n ≤ end → i < n → Met order n (rotation (order i)) × Met order n (rev (order i))
      → Met order' n (rotation (order' i)) × Met order' n (rev (order' i))
  closed' n i l m r =
      let e = a.kept i (omega arith) in (
        subst (λ x. Met order' n (rotation x)) (sym e) (met_still n (rotation (order i)) l r.0),
        subst (λ x. Met order' n (rev x)) (sym e) (met_still n (rev (order i)) l r.1),
      )

  -- a neighbour of the dart at place j
  module _ {j : ℕ} (l : j < end) (is-there : origin ≡ order j) (near : Follows rotation d (order j)) where
    τ : Trees rotation first order from end trees
    τ = ξ.planted

    begins_at : (t : ℕ) → t < trees → order' (τ.begins t) ≡ order (τ.begins t)
    begins_at t m = a.kept (τ.begins t) (τ.begins_in t m)

    met' : (i : ℕ) → i < end' → Dec (i < end) → ((t : ℕ) × (t < trees) × (τ.begins t ≡ i)) ⊎ Reached rotation order' from' i
    met' i m (yes p) = go (τ.met i p)
      where
        go : ((t : ℕ) × (t < trees) × (τ.begins t ≡ i)) ⊎ Reached rotation order from i
            → ((t : ℕ) × (t < trees) × (τ.begins t ≡ i)) ⊎ Reached rotation order' from' i
        go (inl r) = inl r
        go (inr r) = inr (reached' i p r)
    met' i m (no p) =
        let r = last i m p in
        let w = a.new r.1 in
        let e : order' i ≡ d = ap order' r.0 ∙ w.0 in
        let o : from' (order' i) ≡ order j = ap from' e ∙ w.2 ∙ is-there in
        inr (j, omega (arith, r.0), a.kept j l ∙ sym o, follows_same rotation e o near)

    pub growing_added : Growing darts rotation first order' from' front end' trees
    growing_added = record {
      ordered = omega (arith, a.longer, ξ.ordered);
      inside = λ i m. inside' i m (dec_lt i end);
      apart = λ i j m n e. apart' i j m n e (dec_lt i end) (dec_lt j end);
      marked = λ i m. marked' i m (dec_lt i end);
      listed = λ y m h. listed' y m (a.only y h);
      done = done';
      planted = record {
        begins = τ.begins;
        begins_in = λ t m. omega (arith, τ.begins_in t m, a.longer);
        at_first = λ m. ((τ.at_first m).0, a.kept 0 (omega arith) ∙ (τ.at_first m).1);
        rising = τ.rising;
        own = λ t m. old_from (τ.begins t) (τ.begins_in t m) ∙ τ.own t m ∙ sym (begins_at t m);
        met = λ i m. met' i m (dec_lt i end);
        closed = λ t m i n. closed' (τ.begins t) i (omega (arith, τ.begins_in t m)) n (τ.closed t m i n);
        lowest = λ t z m e n. met_still (τ.begins t) e (omega (arith, τ.begins_in t m)) (τ.lowest t z m e (omega (arith, n, begins_at t m)));
      };
    }

-- ── a tree begins ──
module _ {darts : ℕ} {rotation : ℕ → ℕ} {first d : ℕ} {order order' from from' : ℕ → ℕ} {end end' trees : ℕ}
    (ξ : Growing darts rotation first order from end end trees) (even : darts % 2 ≡ 0) (stays : (d : ℕ) → d < darts → rotation d < darts)
    (π : Plantable darts first from end trees d) (a : Added d d from from' order order' end end') where
  σ : Trees rotation first order from end trees
  σ = ξ.planted

  grew : end < end'
  grew = omega (arith, added_grew a π.fresh)

  -- the places at which trees begin now: the new one at the end
  starts : ℕ → ℕ
  starts t = cond (eqb t trees) end (σ.begins t)

  new_start : starts trees ≡ end
  unfolding starts
  new_start = rw (eqb_true trees trees refl)

  old_start : (t : ℕ) → t < trees → starts t ≡ σ.begins t
  unfolding starts σ
  old_start t l = rw (eqb_false t trees (λ e. omega arith))

  -- a tree is the new one or an old one
  each : (P : ℕ → Type 0) → P trees → ((t : ℕ) → t < trees → P t) → (t : ℕ) → t < trees + 1 → P t
  each P new old t l = go (ℕ_discrete t trees)
    where
      go : Dec (t ≡ trees) → P t
      go (yes e) = subst P (sym e) new
      go (no e) = old t (omega (arith, e))

  new_dart : order' end ≡ d
  new_dart = (a.new grew).0

  place_old : (t : ℕ) → t < trees → order' (starts t) ≡ order (σ.begins t)
  place_old t l = ap order' (old_start t l) ∙ a.kept (σ.begins t) (σ.begins_in t l)

  place_new : order' (starts trees) ≡ d
  place_new = ap order' new_start ∙ new_dart

  begins_in' : (t : ℕ) → t < trees + 1 → starts t < end'
  begins_in' = each (λ t. starts t < end') (omega (arith, new_start, grew)) (λ t l. omega (arith, old_start t l, σ.begins_in t l, grew))

  at_first' : (starts 0 ≡ 0) × (order' 0 ≡ first)
  at_first' = go π.next
    where
      go : ((trees ≡ 0) × (end ≡ 0) × (d ≡ first)) ⊎ ((0 < trees) × ((e : ℕ) → e < d → from e ≢ unmarked)) → (starts 0 ≡ 0) × (order' 0 ≡ first)
      go (inl r) = (ap starts (sym r.0) ∙ new_start ∙ r.1, ap order' (sym r.1) ∙ new_dart ∙ r.2)
      go (inr r) =
          let q = σ.at_first r.0 in
          let z : 0 < end = omega (arith, σ.begins_in 0 r.0) in
          (old_start 0 r.0 ∙ q.0, a.kept 0 z ∙ q.1)

  rising' : (t u : ℕ) → t < u → u < trees + 1 → starts t < starts u
  rising' t u l m =
      each (λ u. t < u → starts t < starts u) (λ l. omega (arith, new_start, old_start t l, σ.begins_in t l))
      (λ u m l. omega (arith, old_start u m, old_start t (omega arith), σ.rising t u l m)) u m l

  own' : (t : ℕ) → t < trees + 1 → from' (order' (starts t)) ≡ order' (starts t)
  own' =
      each (λ t. from' (order' (starts t)) ≡ order' (starts t)) (ap from' place_new ∙ (a.new grew).2 ∙ sym place_new)
      (λ t l.
      ap (λ x. from' (order' x)) (old_start t l) ∙ old_from ξ π.inside a (σ.begins t) (σ.begins_in t l) ∙ σ.own t l ∙ sym (place_old t l))

  met_planted : (i : ℕ) → i < end' → Dec (i < end) → ((t : ℕ) × (t < trees + 1) × (starts t ≡ i)) ⊎ Reached rotation order' from' i
  met_planted i m (yes p) = go (σ.met i p)
    where
      go : ((t : ℕ) × (t < trees) × (σ.begins t ≡ i)) ⊎ Reached rotation order from i
          → ((t : ℕ) × (t < trees + 1) × (starts t ≡ i)) ⊎ Reached rotation order' from' i
      go (inl (t, l, e)) = inl (t, omega arith, old_start t l ∙ e)
      go (inr r) = inr (reached' ξ π.inside a i p r)
  met_planted i m (no p) = inl (trees, omega arith, new_start ∙ sym (last ξ π.inside a i m p).0)

  closed_planted : (t : ℕ) → t < trees + 1 → (i : ℕ) → i < starts t → Met order' (starts t) (rotation (order' i)) × Met order' (starts t) (rev (order' i))
  closed_planted =
      each (λ t. (i : ℕ) → i < starts t → Met order' (starts t) (rotation (order' i)) × Met order' (starts t) (rev (order' i)))
      (λ i l. at end (sym new_start) i (omega (arith, new_start)) (λ m. both_listed ξ (omega arith) even stays i m) (omega arith))
      (λ t m i l. at (σ.begins t) (sym (old_start t m)) i (omega (arith, old_start t m)) (λ n. σ.closed t m i n) (omega (arith, σ.begins_in t m)))
    where
      at : (n : ℕ) {s : ℕ} → n ≡ s → (i : ℕ) → i < n → (i < n → Met order n (rotation (order i)) × Met order n (rev (order i))) → n ≤ end
          → Met order' s (rotation (order' i)) × Met order' s (rev (order' i))
      at n e i l r m =
          subst (λ s. Met order' s (rotation (order' i)) × Met order' s (rev (order' i))) e (closed' ξ π.inside a n i m l (r l))

  lowest_planted : (t : ℕ) → 0 < t → t < trees + 1 → (e : ℕ) → e < order' (starts t) → Met order' (starts t) e
  lowest_planted t z l =
      each (λ t. 0 < t → (e : ℕ) → e < order' (starts t) → Met order' (starts t) e)
      (λ z e m. subst (λ s. Met order' s e) (sym new_start) (new z e (omega (arith, m, place_new)) π.next))
      (λ t l z e m.
      subst (λ s. Met order' s e) (sym (old_start t l))
      (met_still ξ π.inside a (σ.begins t) e (omega (arith, σ.begins_in t l)) (σ.lowest t z l e (omega (arith, m, place_old t l))))) t l z
    where
      new : 0 < trees → (e : ℕ) → e < d → ((trees ≡ 0) × (end ≡ 0) × (d ≡ first)) ⊎ ((0 < trees) × ((e : ℕ) → e < d → from e ≢ unmarked)) → Met order' end e
      new z e m (inl r) = absurd (omega (arith, r.0))
      new z e m (inr r) = met_still ξ π.inside a end e (omega arith) (ξ.listed e (omega (arith, m, π.inside)) (r.1 e m))

  pub growing_planted : Growing darts rotation first order' from' end end' (trees + 1)
  growing_planted = record {
    ordered = omega (arith, grew);
    inside = λ i m. inside' ξ π.inside a i m (dec_lt i end);
    apart = λ i j m n e. apart' ξ π.inside a i j m n e (dec_lt i end) (dec_lt j end);
    marked = λ i m. marked' ξ π.inside a i m (dec_lt i end);
    listed = λ y m h. listed' ξ π.inside a y m (a.only y h);
    done = done' ξ π.inside a;
    planted = record {
      begins = starts;
      begins_in = begins_in';
      at_first = λ m. at_first';
      rising = rising';
      own = own';
      met = λ i m. met_planted i m (dec_lt i end);
      closed = closed_planted;
      lowest = lowest_planted;
    };
  }

-- once the rotation of the dart at the front is listed, a dart that was not met still has room
pub room_between : {darts : ℕ} {rotation : ℕ → ℕ} {first p t : ℕ} {order order' from from' : ℕ → ℕ} {front end end' trees : ℕ}
    → Growing darts rotation first order from front end trees
    → front < end → order front ≡ p → rotation p ≡ t → t < darts
    → Added t p from from' order order' end end' → (d : ℕ) → d < darts → from' d ≡ unmarked → end' < darts
room_between {rotation = rotation} ξ l e et t_in a = room (growing_added ξ t_in a l (sym e) (inr (sym et ∙ ap rotation (sym e))))

-- the dart at the front is passed, once both its neighbours are listed
pub growing_passed : {darts : ℕ} {rotation : ℕ → ℕ} {first : ℕ} {order from : ℕ → ℕ} {front end trees : ℕ}
    → Growing darts rotation first order from front end trees → front < end
    → from (rotation (order front)) ≢ unmarked → from (rev (order front)) ≢ unmarked → Growing darts rotation first order from (front + 1) end trees
growing_passed {darts} {rotation} {first} {order} {from} {front} {end} ξ l a b = record {
  ordered = omega arith;
  inside = ξ.inside;
  apart = ξ.apart;
  marked = ξ.marked;
  listed = ξ.listed;
  done = λ i m. both i m (ℕ_discrete i front);
  planted = ξ.planted;
}
  where
    both : (i : ℕ) → i < front + 1 → Dec (i ≡ front) → (from (rotation (order i)) ≢ unmarked) × (from (rev (order i)) ≢ unmarked)
    both i m (yes p) = rw p (a, b)
    both i m (no p) = ξ.done i (omega (arith, p))

-- both neighbours of the dart at the front, one after the other
pub growing_on : {darts : ℕ} {rotation : ℕ → ℕ} {first p t back : ℕ} {order order₁ order₂ from from₁ from₂ : ℕ → ℕ} {front end end₁ end₂ trees : ℕ}
    → Growing darts rotation first order from front end trees
    → front < end → order front ≡ p → rotation p ≡ t → rev p ≡ back → t < darts → back < darts
    → Added t p from from₁ order order₁ end end₁ → Added back p from₁ from₂ order₁ order₂ end₁ end₂
    → Growing darts rotation first order₂ from₂ (front + 1) end₂ trees
growing_on {darts} {rotation} {first} {p} {t} {back} {order} {order₁} {order₂} {from}
    {from₁} {from₂} {front} {end} {end₁} {end₂} {trees} ξ l e et eb t_in back_in a b =
    growing_passed ξ₂ l₂ (λ q. still ξ₁ back_in b t a.has (sym (ap from₂ (ap rotation head₂ ∙ et)) ∙ q))
    (λ q. b.has (sym (ap from₂ (ap rev head₂ ∙ eb)) ∙ q))
  where
    ξ₁ : Growing darts rotation first order₁ from₁ front end₁ trees
    ξ₁ = growing_added ξ t_in a l (sym e) (inr (sym et ∙ ap rotation (sym e)))

    l₁ : front < end₁
    l₁ = omega (arith, a.longer)

    head₁ : order₁ front ≡ p
    head₁ = a.kept front l ∙ e

    ξ₂ : Growing darts rotation first order₂ from₂ front end₂ trees
    ξ₂ = growing_added ξ₁ back_in b l₁ (sym head₁) (inl (sym eb ∙ ap rev (sym head₁)))

    l₂ : front < end₂
    l₂ = omega (arith, l₁, b.longer)

    head₂ : order₂ front ≡ p
    head₂ = b.kept front l₁ ∙ head₁

-- a mark stays
pub marks_stay : {t p q back : ℕ} {order order₁ order₂ from from₁ from₂ : ℕ → ℕ} {end end₁ end₂ : ℕ}
    → Added t p from from₁ order order₁ end end₁ → Added back q from₁ from₂ order₁ order₂ end₁ end₂
    → (y : ℕ) → from y ≢ unmarked → from₂ y ≢ unmarked
marks_stay {from = from} {from₁ = from₁} {from₂ = from₂} a b y h e = first (λ q. h (sym (a.grew y h) ∙ q))
  where
    first : from₁ y ≢ unmarked → ⊥
    first g = g (sym (b.grew y g) ∙ e)
