-- The faces numbered so far, with their darts in groups: what numbering one face more keeps, and what is known when every dart has its number.
use mathlib.Core.Path.{◌≡◌, refl, sym, ◌∙◌, ap, subst}
use mathlib.Core.Logic.{◌≢◌}
use mathlib.Core.List.{List}
use Prim.Native.Nat.{ℕ, zero, suc, ◌+◌, ◌*◌, ◌≤◌, ◌<◌}
use native.Mathlib.Numerals.{add-one}
use native.Mathlib.Omega.{arith}
use native.Mathlib.Decide.{ℕ_discrete, dec_lt}
use Rattle.maps.specs.Dart.{rev}
use Rattle.maps.specs.Orbit.{Orbit, lowest, orbit_of}
use Rattle.maps.proofs.Darts.{rev_in, rev_rev}
use Rattle.maps.proofs.Orbits.{orbit_decided}
use Rattle.arrays.specs.At.{at}
use Rattle.arrays.specs.Maps.{right_of}
use Rattle.grouping.specs.Grouped.{end_of, Grouped}
use Rattle.grouping.specs.inner.InRounds.{Rounded, InRounds}
use Rattle.traversal.specs.inner.Mark.{unmarked}
use Rattle.rotations.specs.inner.Marking.{Markable, Marked}
use Rattle.rotations.specs.inner.Laying.{Laid}

-- where the groups up to f end does not follow from where the group f starts
ends_kept : (darts : ℕ) (starts starts' : ℕ → ℕ) (f : ℕ) → ((g : ℕ) → g ≢ f → starts' g ≡ starts g) → (g : ℕ) → g ≤ f
    → end_of darts starts' g ≡ end_of darts starts g
ends_kept darts starts starts' f kept zero l = refl
ends_kept darts starts starts' f kept (suc g) l = kept g (λ e. omega (arith, e, l))

-- f faces have their numbers and their groups, which fill the places from `low` on
pub record Grouping (edges : ℕ) (label grouped starts : ℕ → ℕ) (f low : ℕ) : Type 0 where
  pub stands : (y : ℕ) → y < 2 * edges → label y ≢ unmarked
      → (label y < f) × ((j : ℕ) × (starts (label y) ≤ j) × (j < end_of (2 * edges) starts (label y)) × (grouped j ≡ rev y))
  pub ordered : (g : ℕ) → g < f → (low ≤ starts g) × (starts g ≤ end_of (2 * edges) starts g) × (end_of (2 * edges) starts g ≤ 2 * edges)
  pub low_is : low ≡ end_of (2 * edges) starts f
  pub room : low ≤ 2 * edges
  pub holds : (g j : ℕ) → g < f → starts g ≤ j → j < end_of (2 * edges) starts g → (grouped j < 2 * edges) × (label (rev (grouped j)) ≡ g)

pub grouping_none : {edges : ℕ} {label grouped starts : ℕ → ℕ} → 2 * edges ≤ 1024 → ((y : ℕ) → y < 1024 → label y ≡ unmarked)
    → Grouping edges label grouped starts 0 (2 * edges)
grouping_none few none = record {
  stands = λ y l h. absurd (h (none y (omega arith)));
  ordered = λ g l. absurd (omega arith);
  low_is = refl;
  room = omega arith;
  holds = λ g j l. absurd (omega arith);
}

-- the face of d is numbered f, and its group is laid before the others
module _ {edges : ℕ} {next label label' grouped grouped' starts starts' : ℕ → ℕ} {d f low low' : ℕ}
    (γ : Grouping edges label grouped starts f low) (μ : Markable (2 * edges) next label d f) (m : Marked (2 * edges) next label label' d f)
    (laid : Laid (2 * edges) next grouped grouped' d low' low) (begins : starts' f ≡ low') (starts-kept : (g : ℕ) → g ≢ f → starts' g ≡ starts g) where
  stops : end_of (2 * edges) starts' f ≡ low
  stops = ends_kept (2 * edges) starts starts' f starts-kept f (omega arith) ∙ sym γ.low_is

  stopped : (g : ℕ) → g < f → end_of (2 * edges) starts' g ≡ end_of (2 * edges) starts g
  stopped g l = ends_kept (2 * edges) starts starts' f starts-kept g (omega (arith, l))

  stands' : (y : ℕ) → y < 2 * edges → label' y ≢ unmarked → Dec (Orbit next d y)
      → (label' y < f + 1) × ((j : ℕ) × (starts' (label' y) ≤ j) × (j < end_of (2 * edges) starts' (label' y)) × (grouped' j ≡ rev y))
  stands' y l h (yes o) =
      let e = m.on y o in
      let r = laid.has y o in
      let s = ap starts' e ∙ begins in
      let t = ap (end_of (2 * edges) starts') e ∙ stops in
      (omega (arith, e), (r.0, omega (arith, s, r.1), omega (arith, t, r.2), r.3))
  stands' y l h (no far) =
      let e = m.off y l far in
      let r = γ.stands y l (λ q. h (e ∙ q)) in
      let s = ap starts' e ∙ starts-kept (label y) (λ q. omega (arith, q, r.0)) in
      let t = ap (end_of (2 * edges) starts') e ∙ stopped (label y) r.0 in
      let k = γ.ordered (label y) r.0 in (
        omega (arith, e, r.0),
        (r.1.0, omega (arith, s, r.1.1), omega (arith, t, r.1.2), laid.kept r.1.0 (omega (arith, r.1.1, k.0)) ∙ r.1.3),
      )

  ordered' : (g : ℕ) → g < f + 1 → Dec (g ≡ f) → (low' ≤ starts' g) × (starts' g ≤ end_of (2 * edges) starts' g) × (end_of (2 * edges) starts' g ≤ 2 * edges)
  ordered' g l (yes p) =
      let s = ap starts' p ∙ begins in
      let t = ap (end_of (2 * edges) starts') p ∙ stops in
      (omega (arith, s), omega (arith, s, t, laid.some), omega (arith, t, γ.room))
  ordered' g l (no p) =
      let k = γ.ordered g (omega (arith, p)) in
      let s = starts-kept g p in
      let t = stopped g (omega (arith, p)) in
      (omega (arith, k.0, s, laid.some), omega (arith, k.1, s, t), omega (arith, k.2, t))

  holds' : (g j : ℕ) → g < f + 1 → starts' g ≤ j → j < end_of (2 * edges) starts' g → Dec (g ≡ f) → (grouped' j < 2 * edges) × (label' (rev (grouped' j)) ≡ g)
  holds' g j l a b (yes p) =
      let s = ap starts' p ∙ begins in
      let t = ap (end_of (2 * edges) starts') p ∙ stops in
      let r = laid.holds j (omega (arith, s, a)) (omega (arith, t, b)) in
      (r.0, m.on (rev (grouped' j)) r.1 ∙ sym p)
  holds' g j l a b (no p) =
      let l' : g < f = omega (arith, p) in
      let b' : j < end_of (2 * edges) starts g = omega (arith, b, stopped g l') in
      let r = γ.holds g j l' (omega (arith, a, starts-kept g p)) b' in
      let same = laid.kept j (omega (arith, a, starts-kept g p, (γ.ordered g l').0)) in
      let inside : rev (grouped j) < 2 * edges = rev_in edges (grouped j) r.0 in (
        omega (arith, same, r.0),
        ap (λ x. label' (rev x)) same ∙ old (rev (grouped j)) inside r.1 l' (orbit_decided μ.permutes d (rev (grouped j)) μ.inside),
      )
    where
      -- a dart of another face is not in the orbit of d, none of which had a number
      old : (y : ℕ) → y < 2 * edges → label y ≡ g → g < f → Dec (Orbit next d y) → label' y ≡ g
      old y l e less (yes o) = absurd (omega (arith, μ.free y o, e, less, μ.small))
      old y l e less (no far) = m.off y l far ∙ e

  pub grouping_on : Grouping edges label' grouped' starts' (f + 1) low'
  grouping_on = record {
    stands = λ y l h. stands' y l h (orbit_decided μ.permutes d y μ.inside);
    ordered = λ g l. ordered' g l (ℕ_discrete g f);
    low_is = sym begins ∙ ap (end_of (2 * edges) starts') (sym (add-one f));
    room = omega (arith, laid.some, γ.room);
    holds = λ g j l a b. holds' g j l a b (ℕ_discrete g f);
  }

-- every dart has its number
module _ {edges : ℕ} (lefts grouped starts : List ℕ) {f low : ℕ} (γ : Grouping edges (at lefts) (at grouped) (at starts) f low)
    (every : (y : ℕ) → y < 2 * edges → at lefts y ≢ unmarked) where
  spot : (d : ℕ) → Dec (d < 2 * edges) → ℕ
  spot d (yes l) = (γ.stands (rev d) (rev_in edges d l) (every (rev d) (rev_in edges d l))).1.0
  spot d (no l) = 0

  spot_is : (d : ℕ) (q : Dec (d < 2 * edges)) → d < 2 * edges
      → (at grouped (spot d q) ≡ d) × (at starts (right_of lefts d) ≤ spot d q) × (spot d q < end_of (2 * edges) (at starts) (right_of lefts d))
  unfolding spot
  spot_is d (yes l) m = let r = (γ.stands (rev d) (rev_in edges d l) (every (rev d) (rev_in edges d l))).1 in (r.3 ∙ rev_rev d, r.1, r.2)
  spot_is d (no l) m = absurd (l m)

  pub grouping_end : Grouped (right_of lefts) (2 * edges) f grouped starts
  grouping_end = record {
    place = λ d. spot d (dec_lt d (2 * edges));
    stands = λ d l. (spot_is d (dec_lt d (2 * edges)) l).0;
    from_start = λ d l. (spot_is d (dec_lt d (2 * edges)) l).1;
    before_end = λ d l. (spot_is d (dec_lt d (2 * edges)) l).2;
    ordered = λ g l. (γ.ordered g l).1;
    ends_in = λ g l. (γ.ordered g l).2;
    dart = λ g j l a b. (γ.holds g j l a b).0;
    right_is = λ g j l a b. (γ.holds g j l a b).1;
  }

-- ── the groups in rounds ──
-- the same on the way: f groups, the last of which begins at `low`
pub record Rounding (darts : ℕ) (step : ℕ → ℕ) (grouped starts : ℕ → ℕ) (f low : ℕ) : Type 0 where
  pub so_far : InRounds darts step f grouped starts
  pub low_most : (g : ℕ) → g < f → low ≤ starts g

pub rounding_none : {darts : ℕ} {step grouped starts : ℕ → ℕ} → Rounding darts step grouped starts 0 darts
rounding_none = record {
  so_far = record {
    head = λ f. 0;
    head_in = λ f l. absurd (omega (arith, l));
    lowest_is = λ f l. absurd (omega (arith, l));
    numbered = λ f l. absurd (omega (arith, l));
    rounded = λ f l. absurd (omega (arith, l));
  };
  low_most = λ g l. absurd (omega (arith, l));
}

-- the face of d is laid before the others
module _ {darts : ℕ} {step grouped grouped' starts starts' : ℕ → ℕ} {d f low low' : ℕ}
    (γ : Rounding darts step grouped starts f low) (inside : d < darts) (first : lowest step darts d ≡ d) (number : orbit_of darts step d ≡ f)
    (round : Rounded step grouped' d low' low) (kept : (i : ℕ) → low ≤ i → grouped' i ≡ grouped i)
    (begins : starts' f ≡ low') (starts-kept : (g : ℕ) → g ≢ f → starts' g ≡ starts g)
    (low_is : low ≡ end_of darts starts f) where
  kept_end : (g : ℕ) → g ≤ f → end_of darts starts' g ≡ end_of darts starts g
  kept_end g l = ends_kept darts starts starts' f starts-kept g l

  pick : (g : ℕ) → Dec (g ≡ f) → ℕ
  pick g (yes p) = d
  pick g (no p) = γ.so_far.head g

  module _ (g : ℕ) (l : g < f + 1) where
    head_in' : (q : Dec (g ≡ f)) → pick g q < darts
    unfolding pick
    head_in' (yes p) = inside
    head_in' (no p) = γ.so_far.head_in g (omega (arith, l, p))

    lowest_is' : (q : Dec (g ≡ f)) → lowest step darts (pick g q) ≡ pick g q
    unfolding pick
    lowest_is' (yes p) = first
    lowest_is' (no p) = γ.so_far.lowest_is g (omega (arith, l, p))

    numbered' : (q : Dec (g ≡ f)) → orbit_of darts step (pick g q) ≡ g
    unfolding pick
    numbered' (yes p) = number ∙ sym p
    numbered' (no p) = γ.so_far.numbered g (omega (arith, l, p))

    rounded' : (q : Dec (g ≡ f)) → Rounded step grouped' (pick g q) (starts' g) (end_of darts starts' g)
    unfolding pick
    rounded' (yes p) =
        subst (λ b. Rounded step grouped' d b (end_of darts starts' g)) (sym begins ∙ ap starts' (sym p))
        (subst (λ e. Rounded step grouped' d low' e) (low_is ∙ sym (kept_end f (omega arith)) ∙ ap (end_of darts starts') (sym p)) round)
    rounded' (no p) =
        let less : g < f = omega (arith, l, p) in
        let r = γ.so_far.rounded g less in
        let low_is = γ.low_most g less in
        subst (λ b. Rounded step grouped' (γ.so_far.head g) b (end_of darts starts' g)) (sym (starts-kept g p))
        (subst (λ e. Rounded step grouped' (γ.so_far.head g) (starts g) e) (sym (kept_end g (omega (arith, less))))
        (record {
          some = r.some;
          lays = λ i j a e. kept j (omega (arith, a, low_is)) ∙ r.lays i j a e;
          closes = r.closes;
          opens = r.opens;
        }))

  most' : (g : ℕ) → g < f + 1 → Dec (g ≡ f) → low' ≤ starts' g
  most' g l (yes p) = omega (arith, ap starts' p, begins)
  most' g l (no p) = omega (arith, γ.low_most g (omega (arith, l, p)), starts-kept g p, round.some)

  pub rounding_on : Rounding darts step grouped' starts' (f + 1) low'
  rounding_on = record {
    so_far = record {
      head = λ g. pick g (ℕ_discrete g f);
      head_in = λ g l. head_in' g l (ℕ_discrete g f);
      lowest_is = λ g l. lowest_is' g l (ℕ_discrete g f);
      numbered = λ g l. numbered' g l (ℕ_discrete g f);
      rounded = λ g l. rounded' g l (ℕ_discrete g f);
    };
    low_most = λ g l. most' g l (ℕ_discrete g f);
  }
