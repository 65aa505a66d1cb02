-- A walk round by round comes to each dart in one way: what listing a dart keeps, and that two such walks are one.
use mathlib.Core.Path.{◌≡◌, refl, sym, ◌∙◌, ap}
use mathlib.Core.Logic.{◌⊎◌, inl, inr, ◌≢◌}
use Prim.Native.Nat.{ℕ, zero, suc, ◌+◌, ◌*◌, ◌/◌, ◌%◌, ◌≤◌, ◌<◌}
use native.Mathlib.Omega.{arith}
use native.Mathlib.Decide.{ℕ_discrete, dec_lt}
use borrow.Author.Count.{below_more}
use Rattle.maps.specs.Dart.{rev}
use Rattle.maps.specs.Orbit.{iter}
use Rattle.maps.proofs.Darts.{rev_in}
use Rattle.maps.proofs.Orbits.{iter_zero, iter_suc}
use Rattle.traversal.specs.inner.Mark.{unmarked}
use Rattle.traversal.specs.inner.Spread.{Met, Added}
use Rattle.traversal.specs.inner.Forest.{Growing, Plantable, Reached, Forest}
use Rattle.traversal.specs.inner.Rounds.{Rounds}
use Rattle.traversal.specs.inner.FirstCome.{Came, begins, turns, crosses, plants, FirstCome, RoundedOff, Comes, Unround, parted}
use Rattle.traversal.proofs.Spreading.{added_grew, trees_few}

pub none_came : {rotation : ℕ → ℕ} {first : ℕ} {order from : ℕ → ℕ} → FirstCome rotation first order from 0
none_came = record { came = λ i l. absurd (omega (arith, l)) }

-- ── one dart more ──
module _ {d origin end end' : ℕ} {from from' order order' : ℕ → ℕ} (a : Added d origin from from' order order' end end') where
  met_kept : {i : ℕ} {y : ℕ} → i ≤ end → Met order i y → Met order' i y
  met_kept l m = (m.0, m.1, a.kept m.0 (omega (arith, m.1)) ∙ m.2)

  reversed_kept : (i n : ℕ) → i ≤ end → n < end → Met order i (rev (order n)) → Met order' i (rev (order' n))
  reversed_kept i n l c m = let r = met_kept l m in (r.0, r.1, r.2 ∙ ap rev (sym (a.kept n c)))

  pub rounded_kept : (rotation : ℕ → ℕ) (i h : ℕ) → i ≤ end → h < end → Met order i (rotation (order h)) → Met order' i (rotation (order' h))
  rounded_kept rotation i h l c m = let r = met_kept l m in (r.0, r.1, r.2 ∙ ap rotation (sym (a.kept h c)))

  module _ (marked : (i : ℕ) → i < end → from (order i) ≢ unmarked) where
    from_kept : (i : ℕ) → i < end → from' (order' i) ≡ from (order i)
    from_kept i l = ap from' (a.kept i l) ∙ a.grew (order i) (marked i l)

    module _ {rotation : ℕ → ℕ} {first : ℕ} where
      came_kept : (i : ℕ) → i < end → Came rotation first order from i → Came rotation first order' from' i
      came_kept i l (begins z e f) = begins z (a.kept i l ∙ e) (from_kept i l ∙ f ∙ sym (a.kept i l))
      came_kept i l (turns h s e f) =
          let k = a.kept h (omega (arith, s, l)) in
          turns h s (a.kept i l ∙ e ∙ ap rotation (sym k)) (from_kept i l ∙ f ∙ sym k)
      came_kept i l (crosses h s m j b e f g) =
          let k = a.kept j (omega (arith, b, l)) in
          crosses h s (rounded_kept rotation i h (omega (arith, l)) (omega (arith, s, l)) m) j b
          (a.kept i l ∙ e ∙ ap rev (sym k)) (from_kept i l ∙ f ∙ sym k)
          (λ n c. reversed_kept i n (omega (arith, l)) (omega (arith, l, b, c)) (g n c))
      came_kept i l (plants h s m g low f) =
          plants h s (rounded_kept rotation i h (omega (arith, l)) (omega (arith, s, l)) m)
          (λ n c. reversed_kept i n (omega (arith, l)) (omega (arith, l, c)) (g n c))
          (λ e c. met_kept (omega (arith, l)) (low e (omega (arith, c, a.kept i l))))
          (from_kept i l ∙ f ∙ sym (a.kept i l))

      pub first_come_added : FirstCome rotation first order from end → Came rotation first order' from' end
          → FirstCome rotation first order' from' end'
      first_come_added c new =
          let all = below_more (Came rotation first order' from') end (λ i m. came_kept i m (c.came i m)) new in
          record { came = λ i l. all i (omega (arith, l, a.by_one)) }

-- ── how the next dart is come to ──
pub back_in : {darts : ℕ} → darts % 2 ≡ 0 → (y : ℕ) → y < darts → rev y < darts
back_in {darts} even y l =
    let r : rev y < 2 * (darts / 2) = rev_in (darts / 2) y (omega (arith, l, even)) in
    omega (arith, r, even)

module _ {darts : ℕ} {rotation : ℕ → ℕ} {first : ℕ} {order from : ℕ → ℕ} where
  -- the first dart of a tree, of walks whose darts lead to no other
  pub comes_planted : {listed trees d : ℕ} → Growing darts rotation first order from listed listed trees → Plantable darts first from listed trees d
      → ((y : ℕ) → y < darts → rev y < darts) → RoundedOff rotation order listed → Comes rotation first order from listed d d
  comes_planted {listed} {trees} {d} ξ π back whole order' from' end' a = by π.next
    where
      new : (order' listed ≡ d) × (from d ≡ unmarked) × (from' d ≡ d)
      new = a.new (omega (arith, added_grew a π.fresh))

      own : from' (order' listed) ≡ order' listed
      own = ap from' new.0 ∙ new.2 ∙ sym new.0

      split : (n : ℕ) → n ≡ listed → 0 < n → ((e : ℕ) → e < d → from e ≢ unmarked) → Came rotation first order' from' listed
      split zero e l low = absurd (omega (arith, l))
      split (suc h) e l low =
          plants h (sym e ∙ omega arith) (rounded_kept a rotation listed h (omega arith) (omega (arith, e)) (whole h (sym e ∙ omega arith)))
          (λ k c. reversed_kept a listed k (omega arith) c (ξ.listed (rev (order k)) (back (order k) (ξ.inside k c)) (ξ.done k c).1))
          (λ y c. met_kept a (omega arith) (ξ.listed y (omega (arith, c, new.0, π.inside)) (low y (omega (arith, c, new.0)))))
          own

      by : ((trees ≡ 0) × (listed ≡ 0) × (d ≡ first)) ⊎ ((0 < trees) × ((e : ℕ) → e < d → from e ≢ unmarked)) → Came rotation first order' from' listed
      by (inl h) = begins h.1 (new.0 ∙ h.2) own
      by (inr h) = split listed refl (omega (arith, h.0, trees_few ξ)) h.1

  -- the reverse of the dart at the front, of walks in whole rounds
  pub comes_crossed : {front end trees d origin : ℕ} → Growing darts rotation first order from front end trees → ((y : ℕ) → y < darts → rev y < darts)
      → RoundedOff rotation order end → front < end → d ≡ rev (order front) → origin ≡ order front → from d ≡ unmarked
      → Comes rotation first order from end d origin
  comes_crossed {front} {end} {trees} {d} {origin} ξ back whole l is met fresh order' from' end' a = split end refl
    where
      new : (order' end ≡ d) × (from d ≡ unmarked) × (from' d ≡ origin)
      new = a.new (omega (arith, added_grew a fresh))

      split : (n : ℕ) → n ≡ end → Came rotation first order' from' end
      split zero e = absurd (omega (arith, l, e))
      split (suc h) e =
          crosses h (sym e ∙ omega arith) (rounded_kept a rotation end h (omega arith) (omega (arith, e)) (whole h (sym e ∙ omega arith)))
          front l (new.0 ∙ is ∙ ap rev (sym (a.kept front l))) (ap from' new.0 ∙ new.2 ∙ met ∙ sym (a.kept front l))
          (λ k c. reversed_kept a end k (omega arith) (omega (arith, c, l))
          (ξ.listed (rev (order k)) (back (order k) (ξ.inside k (omega (arith, c, l)))) (ξ.done k c).1))

-- the rotation of the dart listed last
pub comes_turned : {rotation : ℕ → ℕ} {first d origin h end end' : ℕ} {from from' order order' : ℕ → ℕ}
    → Added d origin from from' order order' end end' → from d ≡ unmarked → end ≡ h + 1 → order h ≡ origin → d ≡ rotation origin
    → Came rotation first order' from' end
comes_turned {rotation} {first} {d} {origin} {h} {end} {end'} {from} {from'} {order} {order'} a fresh s last is =
    let new = a.new (omega (arith, added_grew a fresh)) in
    let kept : order' h ≡ origin = a.kept h (omega (arith, s)) ∙ last in
    turns h s (new.0 ∙ is ∙ ap rotation (sym kept)) (ap from' new.0 ∙ new.2 ∙ sym kept)

-- ── no round ──
-- a dart not met, at a node that has a round
pub parted_owned : {darts : ℕ} {tail rotation from owner : ℕ → ℕ} {d : ℕ} → Rounds darts tail rotation from owner
    → ((y : ℕ) → y < darts → rotation y < darts) → d < darts → from d ≡ unmarked → owner (tail d) ≢ 0 → Unround darts tail rotation
parted_owned {darts} {tail} {rotation} {from} {owner} {d} ρ turn l fresh owned =
    let e = ρ.leaves (tail d) owned in
    parted e.0 d e.1 l e.2 (λ o. (stays e.0 e.1 e.3 o.0).1 (ap from o.1 ∙ fresh))
  where
    stays : (x : ℕ) → x < darts → from x ≢ unmarked → (k : ℕ) → (iter rotation k x < darts) × (from (iter rotation k x) ≢ unmarked)
    stays x m h zero = (omega (arith, iter_zero rotation x, m), λ z. h (sym (ap from (iter_zero rotation x)) ∙ z))
    stays x m h (suc k) =
        let r = stays x m h k in
        let e = iter_suc rotation k x in
        (omega (arith, e, turn (iter rotation k x) r.0), λ z. (ρ.turns (iter rotation k x) r.0 r.1).0 (sym (ap from e) ∙ z))

-- ── two walks ──
module _ {darts : ℕ} {rotation : ℕ → ℕ} {first : ℕ} {order from order' from' : ℕ → ℕ}
    (apart : (i j : ℕ) → i < darts → j < darts → order i ≡ order j → i ≡ j)
    (apart' : (i j : ℕ) → i < darts → j < darts → order' i ≡ order' j → i ≡ j)
    (c : FirstCome rotation first order from darts) (c' : FirstCome rotation first order' from' darts) where
  -- the same dart at place i, met from the same one
  abbrev Same : ℕ → Type 0
  Same i = (order i ≡ order' i) × (from (order i) ≡ from' (order' i))

  module _ (i : ℕ) (l : i < darts) (same : (k : ℕ) → k < i → order k ≡ order' k) where
    -- what stands at i in the one was not met before in the other
    new : (y : ℕ) → order i ≡ y → Met order' i y → ⊥
    new y e m = omega (arith, m.1, apart m.0 i (omega (arith, m.1, l)) l (same m.0 m.1 ∙ m.2 ∙ sym e))

    new' : (y : ℕ) → order' i ≡ y → Met order i y → ⊥
    new' y e m = omega (arith, m.1, apart' m.0 i (omega (arith, m.1, l)) l (sym (same m.0 m.1) ∙ m.2 ∙ sym e))

    one : Came rotation first order from i → Came rotation first order' from' i → Same i
    one (begins z e f) (begins z' e' f') = let q = e ∙ sym e' in (q, f ∙ q ∙ sym f')
    one (begins z e f) (turns h' s' e' f') = absurd (omega (arith, z, s'))
    one (begins z e f) (crosses h' s' m' j' b' e' f' g') = absurd (omega (arith, z, s'))
    one (begins z e f) (plants h' s' m' g' low' f') = absurd (omega (arith, z, s'))
    one (turns h s e f) (begins z' e' f') = absurd (omega (arith, z', s))
    one (turns h s e f) (turns h' s' e' f') =
        let q : order h ≡ order' h' = same h (omega (arith, s)) ∙ ap order' (omega (arith, s, s')) in
        (e ∙ ap rotation q ∙ sym e', f ∙ q ∙ sym f')
    one (turns h s e f) (crosses h' s' m' j' b' e' f' g') =
        absurd (new (rotation (order' h')) (e ∙ ap rotation (same h (omega (arith, s)) ∙ ap order' (omega (arith, s, s')))) m')
    one (turns h s e f) (plants h' s' m' g' low' f') =
        absurd (new (rotation (order' h')) (e ∙ ap rotation (same h (omega (arith, s)) ∙ ap order' (omega (arith, s, s')))) m')
    one (crosses h s m j b e f g) (begins z' e' f') = absurd (omega (arith, z', s))
    one (crosses h s m j b e f g) (turns h' s' e' f') =
        absurd (new' (rotation (order h)) (e' ∙ ap rotation (sym (same h (omega (arith, s)) ∙ ap order' (omega (arith, s, s'))))) m)
    one (crosses h s m j b e f g) (crosses h' s' m' j' b' e' f' g') = by (order_of j j')
      where
        order_of : (x y : ℕ) → (x < y) ⊎ ((x ≡ y) ⊎ (y < x))
        order_of zero zero = inr (inl refl)
        order_of zero (suc y) = inl (omega arith)
        order_of (suc x) zero = inr (inr (omega arith))
        order_of (suc x) (suc y) = up (order_of x y)
          where
            up : (x < y) ⊎ ((x ≡ y) ⊎ (y < x)) → (suc x < suc y) ⊎ ((suc x ≡ suc y) ⊎ (suc y < suc x))
            up (inl a) = inl (omega (arith, a))
            up (inr (inl a)) = inr (inl (ap suc a))
            up (inr (inr a)) = inr (inr (omega (arith, a)))

        by : (j < j') ⊎ ((j ≡ j') ⊎ (j' < j)) → Same i
        by (inl a) = absurd (new (rev (order' j)) (e ∙ ap rev (same j b)) (g' j a))
        by (inr (inr a)) = absurd (new' (rev (order j')) (e' ∙ ap rev (sym (same j' b'))) (g j' a))
        by (inr (inl a)) = let q : order j ≡ order' j' = same j b ∙ ap order' a in (e ∙ ap rev q ∙ sym e', f ∙ q ∙ sym f')
    one (crosses h s m j b e f g) (plants h' s' m' g' low' f') = absurd (new (rev (order' j)) (e ∙ ap rev (same j b)) (g' j b))
    one (plants h s m g low f) (begins z' e' f') = absurd (omega (arith, z', s))
    one (plants h s m g low f) (turns h' s' e' f') =
        absurd (new' (rotation (order h)) (e' ∙ ap rotation (sym (same h (omega (arith, s)) ∙ ap order' (omega (arith, s, s'))))) m)
    one (plants h s m g low f) (crosses h' s' m' j' b' e' f' g') = absurd (new' (rev (order j')) (e' ∙ ap rev (sym (same j' b'))) (g j' b'))
    one (plants h s m g low f) (plants h' s' m' g' low' f') = by (ℕ_discrete (order i) (order' i))
      where
        by : Dec (order i ≡ order' i) → Same i
        by (yes q) = (q, f ∙ q ∙ sym f')
        by (no n) = absurd (new' (order' i) refl (low (order' i) (least n)))
          where
            least : (order i ≡ order' i → ⊥) → order' i < order i
            least n =
                let not_less : order i < order' i → ⊥ = λ z. new (order i) refl (low' (order i) z) in
                omega (arith, n, not_less)

  all_below : (n : ℕ) → n ≤ darts → (i : ℕ) → i < n → Same i
  all_below zero l i m = absurd (omega (arith, m))
  all_below (suc n) l i m =
      let before = all_below n (omega (arith, l)) in
      let here = one n (omega (arith, l)) (λ k a. (before k a).0) (c.came n (omega (arith, l))) (c'.came n (omega (arith, l))) in
      below_more Same n before here i (omega (arith, m))

  pub same_order : (i : ℕ) → i < darts → order i ≡ order' i
  same_order i l = (all_below darts (omega arith) i l).0

  pub same_from : (i : ℕ) → i < darts → from (order i) ≡ from' (order' i)
  same_from i l = (all_below darts (omega arith) i l).1

-- ── the first darts of their trees ──
module _ {darts : ℕ} {rotation : ℕ → ℕ} {first : ℕ} {order from order' from' : ℕ → ℕ} {trees trees' : ℕ}
    (𝓕 : Forest darts rotation first order from trees) (𝓖 : Forest darts rotation first order' from' trees')
    (same : (i : ℕ) → i < darts → order i ≡ order' i) (met : (i : ℕ) → i < darts → from (order i) ≡ from' (order' i)) where
  -- a tree of the one begins where some tree of the other does
  begins_there : (t : ℕ) → t < trees → (u : ℕ) × (u < trees') × (𝓖.planted.begins u ≡ 𝓕.planted.begins t)
  begins_there t l = by (𝓖.planted.met i m)
    where
      i : ℕ
      i = 𝓕.planted.begins t

      m : i < darts
      m = 𝓕.planted.begins_in t l

      by : ((u : ℕ) × (u < trees') × (𝓖.planted.begins u ≡ i)) ⊎ Reached rotation order' from' i → (u : ℕ) × (u < trees') × (𝓖.planted.begins u ≡ i)
      by (inl r) = r
      by (inr r) =
          absurd (omega (arith, r.1, 𝓖.apart r.0 i (omega (arith, r.1, m)) m (r.2 ∙ sym (met i m) ∙ 𝓕.planted.own t l ∙ same i m)))

module _ {darts : ℕ} {rotation : ℕ → ℕ} {first : ℕ} {order from order' from' : ℕ → ℕ} {trees trees' : ℕ}
    (𝓕 : Forest darts rotation first order from trees) (𝓖 : Forest darts rotation first order' from' trees')
    (same : (i : ℕ) → i < darts → order i ≡ order' i) (met : (i : ℕ) → i < darts → from (order i) ≡ from' (order' i)) where
  abbrev Together : ℕ → Type 0
  Together t = t < trees → (t < trees') × (𝓕.planted.begins t ≡ 𝓖.planted.begins t)

  together_next : (n : ℕ) → ((t : ℕ) → t < n → Together t) → Together n
  together_next n before b = by (dec_lt r.0 n) (dec_lt n r.0)
    where
      r : (u : ℕ) × (u < trees') × (𝓖.planted.begins u ≡ 𝓕.planted.begins n)
      r = begins_there 𝓕 𝓖 same met n b

      clash : n < r.0 → (w : ℕ) → w < trees → 𝓕.planted.begins w ≡ 𝓖.planted.begins n → 𝓕.planted.begins w < 𝓕.planted.begins n
          → Dec (w < n) → Dec (n < w) → ⊥
      clash m w a e less (yes p) q = omega (arith, 𝓖.planted.rising w n p (omega (arith, m, r.1)), (before w p a).1, e)
      clash m w a e less (no p) (yes q) = omega (arith, less, 𝓕.planted.rising n w q a)
      clash m w a e less (no p) (no q) = let here : w ≡ n = omega (arith, p, q) in omega (arith, less, ap 𝓕.planted.begins here)

      behind : n < r.0 → ⊥
      behind m =
          let w = begins_there 𝓖 𝓕 (λ i l. sym (same i l)) (λ i l. sym (met i l)) n (omega (arith, m, r.1)) in
          clash m w.0 w.1 w.2 (omega (arith, w.2, r.2, 𝓖.planted.rising n r.0 m r.1)) (dec_lt w.0 n) (dec_lt n w.0)

      by : Dec (r.0 < n) → Dec (n < r.0) → (n < trees') × (𝓕.planted.begins n ≡ 𝓖.planted.begins n)
      by (yes p) q =
          absurd (omega (arith, 𝓕.planted.rising r.0 n p b, (before r.0 p (omega (arith, p, b))).1, r.2))
      by (no p) (yes q) = absurd (behind q)
      by (no p) (no q) =
          let e : r.0 ≡ n = omega (arith, p, q) in
          (omega (arith, e, r.1), sym r.2 ∙ ap 𝓖.planted.begins e)

  together : (n t : ℕ) → t < n → Together t
  together zero t l = absurd (omega (arith, l))
  together (suc n) t l = below_more Together n (together n) (together_next n (together n)) t (omega (arith, l))

  pub same_begins : (t : ℕ) → t < trees → (t < trees') × (𝓕.planted.begins t ≡ 𝓖.planted.begins t)
  same_begins t l = together (t + 1) t (omega arith) l

pub same_trees : {darts : ℕ} {rotation : ℕ → ℕ} {first : ℕ} {order from order' from' : ℕ → ℕ} {trees trees' : ℕ}
    (𝓕 : Forest darts rotation first order from trees) (𝓖 : Forest darts rotation first order' from' trees')
    → ((i : ℕ) → i < darts → order i ≡ order' i) → ((i : ℕ) → i < darts → from (order i) ≡ from' (order' i)) → trees ≡ trees'
same_trees {trees = trees} {trees'} 𝓕 𝓖 same met = by (dec_lt trees trees') (dec_lt trees' trees)
  where
    by : Dec (trees < trees') → Dec (trees' < trees) → trees ≡ trees'
    by (yes p) q = absurd (omega (arith, (same_begins 𝓖 𝓕 (λ i l. sym (same i l)) (λ i l. sym (met i l)) trees p).0))
    by (no p) (yes q) = absurd (omega (arith, (same_begins 𝓕 𝓖 same met trees' q).0))
    by (no p) (no q) = omega (arith, p, q)
