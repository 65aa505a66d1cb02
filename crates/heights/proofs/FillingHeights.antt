-- The pass that fills the heights, on its way: the nodes of the darts passed have their heights, none of them too large for the machine.
use mathlib.Core.Path.{◌≡◌, refl, sym, ◌∙◌, ap, ap₂, subst}
use mathlib.Core.Logic.{◌⊎◌, inl, inr, ◌≢◌}
use mathlib.Core.List.{List}
use Prim.Native.Nat.{ℕ, ◌+◌, ◌*◌, ◌≤◌, ◌<◌}
use native.Mathlib.Omega.{arith}
use native.Mathlib.Decide.{ℕ_discrete}
use lib.IntN.{ℤ, pos, ◌-ℤ◌, +ℤ_invr}
use lib.ListN.{length, set, length-set}
use lib.Seq.{get_or-set_same, get_or-set_other}
use mir.Syntax.{w16, w32}
use mir.Val.{to_z, of_z, SFits}
use Rattle.integers.proofs.Omega.{atoms₃, parts, equal}
use Rattle.maps.specs.Dart.{rev}
use Rattle.maps.proofs.Darts.{rev_apart}
use Rattle.traversal.specs.inner.Spread.{Follows}
use Rattle.traversal.specs.inner.Forest.{Reached}
use Rattle.traversal.proofs.Spreading.{all_met}
use Rattle.heights.specs.inner.Heights.{Based, Fillable, HeightsOf, Filled, Rooted}
use Rattle.arrays.specs.At.{atℤ}
use Rattle.integers.specs.inner.Limited.{Limited}
use Rattle.arrays.specs.inner.Sizes.{most_winding, most_height}
use Rattle.integers.proofs.Limits.{limited_minus, limited_more, limited_zero}
use Rattle.signed.proofs.Limits.{limited_fits, same_bits, same_bits16}

pub record Filling (darts : ℕ) (tail order from : ℕ → ℕ) (winding height : ℕ → ℤ) (i : ℕ) : Type 0 where
  pub begun : 0 < i
  pub ordered : i ≤ darts
  pub limited : (j : ℕ) → j < i → Limited (i * most_winding) (height (tail (order j)))
  pub on : Based darts tail order from
  pub right : (H : ℕ → ℤ) → HeightsOf darts tail winding H → (j : ℕ) → j < i → height (tail (order j)) ≡ H (tail (order j)) -ℤ H (on.base (tail (order j)))

pub filling_start : {darts : ℕ} {tail order from : ℕ → ℕ} {winding height : ℕ → ℤ} → 0 < darts → Based darts tail order from → from (order 0) ≡ order 0
    → height (tail (order 0)) ≡ pos 0 → Filling darts tail order from winding height 1
filling_start {darts} {tail} {order} {from} {winding} {height} some based own z = record {
  begun = omega arith;
  ordered = omega arith;
  limited = λ j l. subst (Limited (1 * most_winding)) (sym (at_start j l)) (limited_zero (1 * most_winding));
  on = based;
  right = λ H h j l.
      let e : j ≡ 0 = omega arith in
      at_start j l ∙ sym (ap (λ k. H (tail (order k)) -ℤ H (based.base (tail (order k)))) e ∙ nothing H);
}
  where
    at_start : (j : ℕ) → j < 1 → height (tail (order j)) ≡ pos 0
    at_start j l = let e : j ≡ 0 = omega arith in ap (λ k. height (tail (order k))) e ∙ z

    nothing : (H : ℕ → ℤ) → H (tail (order 0)) -ℤ H (based.base (tail (order 0))) ≡ pos 0
    nothing H = ap (λ v. H (tail (order 0)) -ℤ H v) (based.at_start 0 some own) ∙ +ℤ_invr (H (tail (order 0)))

module _ {darts : ℕ} {tail order from : ℕ → ℕ} {winding : ℕ → ℤ} (ok : Fillable darts tail order from winding) where
  -- the places that the pass reads and writes
  pub dart_in : {i d : ℕ} → i < darts → d ≡ order i → d < darts
  dart_in {i} {d} l e = omega (arith, ok.forest.inside i l)

  -- a dart begins a tree, and is marked with its own number, or was met from one before it
  how : (i : ℕ) → i < darts → (from (order i) ≡ order i) ⊎ Reached ok.rotation order from i
  how i l = go (ok.forest.planted.met i l)
    where
      go : ((t : ℕ) × (t < ok.trees) × (ok.forest.planted.begins t ≡ i)) ⊎ Reached ok.rotation order from i
          → (from (order i) ≡ order i) ⊎ Reached ok.rotation order from i
      go (inl (t, m, e)) = inl (subst (λ x. from (order x) ≡ order x) e (ok.forest.planted.own t m))
      go (inr r) = inr r

  pub first_own : from (order 0) ≡ order 0
  first_own =
      subst (λ x. from (order x) ≡ order x) (ok.forest.planted.at_first ok.forest.some).0 (ok.forest.planted.own 0 ok.forest.some)

  pub some-dart : 0 < darts
  some-dart = omega (arith, ok.forest.planted.begins_in 0 ok.forest.some)

  pub origin_in : {i d p : ℕ} → i < darts → d ≡ order i → p ≡ from d → p < darts
  origin_in {i} {d} {p} l e o = go (how i l)
    where
      go : (from (order i) ≡ order i) ⊎ Reached ok.rotation order from i → p < darts
      go (inl q) = omega (arith, ap from e, q, ok.forest.inside i l)
      go (inr r) = omega (arith, ap from e, r.2, ok.forest.inside r.0 (omega (arith, r.1)))

  pub node_in : {d v : ℕ} → d < darts → v ≡ tail d → v < 1024
  node_in {d} {v} l e = omega (arith, ok.tail_in d l)

  module _ {height : ℕ → ℤ} {i : ℕ} (ξ : Filling darts tail order from winding height i) where
    -- when all darts are passed
    pub filled : darts ≤ i → Filled darts tail winding height
    filled over = record {
      right = λ H h d l.
          h d l
          ∙ sym (ap₂ ◌-ℤ◌ (is H h d l) (is H h (rev d) (ok.back_in d l) ∙ ap (λ v. H (tail (rev d)) -ℤ H v) (ξ.on.across d l))
          ∙ shift (H (tail d)) (H (tail (rev d))) (H (ξ.on.base (tail d))));
      limited = λ d l.
          let r = met d l in
          subst (λ c. Limited most_height (height (tail c))) r.2
          (limited_more (omega (arith, ξ.ordered, ok.few)) (ξ.limited r.0 (omega (arith, r.1))));
    }
      where
        met : (d : ℕ) → d < darts → (j : ℕ) × (j < darts) × (order j ≡ d)
        met = all_met darts darts order ok.forest.inside ok.forest.apart refl

        is : (H : ℕ → ℤ) → HeightsOf darts tail winding H → (d : ℕ) → d < darts → height (tail d) ≡ H (tail d) -ℤ H (ξ.on.base (tail d))
        is H h d l =
            let r = met d l in
            subst (λ c. height (tail c) ≡ H (tail c) -ℤ H (ξ.on.base (tail c))) r.2 (ξ.right H h r.0 (omega (arith, r.1)))

        shift : (a b z : ℤ) → (a -ℤ z) -ℤ (b -ℤ z) ≡ a -ℤ b
        shift a b z = let k = atoms₃ a b z in equal (search parts) (omega arith)

    pub filled_rooted : darts ≤ i → Rooted darts tail order from winding height
    filled_rooted over = record {
      zero = λ H h j l own.
          ξ.right H h j (omega (arith, l, over))
          ∙ ap (λ v. H (tail (order j)) -ℤ H v) (ξ.on.at_start j l own) ∙ +ℤ_invr (H (tail (order j)));
    }

    -- one dart more: its node has a height that is right and not too large, and no other node's height changes
    passed : {height' : ℕ → ℤ} {value : ℤ} → i < darts → Limited ((i + 1) * most_winding) value
        → ((H : ℕ → ℤ) → HeightsOf darts tail winding H → value ≡ H (tail (order i)) -ℤ H (ξ.on.base (tail (order i))))
        → height' (tail (order i)) ≡ value → ((v : ℕ) → v ≢ tail (order i) → height' v ≡ height v) → Filling darts tail order from winding height' (i + 1)
    passed {height'} {value} l small is put keep = record {
      begun = omega arith;
      ordered = omega arith;
      limited = λ j m. lim j m (ℕ_discrete (tail (order j)) (tail (order i)));
      on = ξ.on;
      right = λ H h j m. rig H h j m (ℕ_discrete (tail (order j)) (tail (order i)));
    }
      where
        -- the dart at j has another node than the one at i, so j is less
        earlier : (j : ℕ) → j < i + 1 → tail (order j) ≢ tail (order i) → j < i
        earlier j m n = go (ℕ_discrete j i)
          where
            go : Dec (j ≡ i) → j < i
            go (yes e) = absurd (n (ap (λ k. tail (order k)) e))
            go (no e) = omega (arith, e)

        lim : (j : ℕ) → j < i + 1 → Dec (tail (order j) ≡ tail (order i)) → Limited ((i + 1) * most_winding) (height' (tail (order j)))
        lim j m (yes e) = subst (Limited ((i + 1) * most_winding)) (sym (ap height' e ∙ put)) small
        lim j m (no n) = subst (Limited ((i + 1) * most_winding)) (sym (keep (tail (order j)) n)) (limited_more (omega arith) (ξ.limited j (earlier j m n)))

        rig : (H : ℕ → ℤ) → HeightsOf darts tail winding H → (j : ℕ) → j < i + 1 → Dec (tail (order j) ≡ tail (order i))
            → height' (tail (order j)) ≡ H (tail (order j)) -ℤ H (ξ.on.base (tail (order j)))
        rig H h j m (yes e) = ap height' e ∙ put ∙ is H h ∙ ap (λ v. H v -ℤ H (ξ.on.base v)) (sym e)
        rig H h j m (no n) = keep (tail (order j)) n ∙ ξ.right H h j (earlier j m n)

    -- a dart that begins a tree: its node is at 0
    pub filling_begun : {height' : ℕ → ℤ} → i < darts → from (order i) ≡ order i → height' (tail (order i)) ≡ pos 0
        → ((v : ℕ) → v ≢ tail (order i) → height' v ≡ height v) → Filling darts tail order from winding height' (i + 1)
    filling_begun l own put keep =
        passed l (limited_zero ((i + 1) * most_winding))
        (λ H h. sym (ap (λ v. H (tail (order i)) -ℤ H v) (ξ.on.at_start i l own) ∙ +ℤ_invr (H (tail (order i))))) put keep

    -- the next dart d, and the dart p that it was met from, which was passed before
    module _ {d p : ℕ} (l : i < darts) (is-d : d ≡ order i) (is-p : p ≡ from d) (other : p ≢ d) where
      origin : (j : ℕ) × (j < i) × (order j ≡ p) × Follows ok.rotation d p
      origin = go (how i l)
        where
          same : from (order i) ≡ p
          same = ap from (sym is-d) ∙ sym is-p

          go : (from (order i) ≡ order i) ⊎ Reached ok.rotation order from i → (j : ℕ) × (j < i) × (order j ≡ p) × Follows ok.rotation d p
          go (inl q) = absurd (other (sym same ∙ q ∙ sym is-d))
          go (inr r) =
              (r.0, r.1, r.2 ∙ same, subst (λ y. Follows ok.rotation y p) (sym is-d) (subst (λ q. Follows ok.rotation (order i) q) same r.3))

      p_in : p < darts
      p_in = origin_in l is-d is-p

      known_limited : Limited (i * most_winding) (height (tail p))
      known_limited = subst (λ c. Limited (i * most_winding) (height (tail c))) origin.2 (ξ.limited origin.0 origin.1)

      known_right : (H : ℕ → ℤ) → HeightsOf darts tail winding H → height (tail p) ≡ H (tail p) -ℤ H (ξ.on.base (tail p))
      known_right H h = subst (λ c. height (tail c) ≡ H (tail c) -ℤ H (ξ.on.base (tail c))) origin.2 (ξ.right H h origin.0 origin.1)

      -- at the same node: its height is known
      pub filling_turned : d ≢ rev p → Filling darts tail order from winding height (i + 1)
      filling_turned turned =
          passed l (limited_more (omega arith) known_limited)
          (λ H h. known_right H h ∙ ap (λ v. H v -ℤ H (ξ.on.base v)) (sym same)) (ap height same) (λ v n. refl)
        where
          one_node : Follows ok.rotation d p → tail d ≡ tail p
          one_node (inl e) = absurd (turned e)
          one_node (inr e) = ap tail e ∙ ok.same_tail p p_in

          same : tail (order i) ≡ tail p
          same = ap tail (sym is-d) ∙ one_node origin.3

      pub filling_over : {height' : ℕ → ℤ} {value : ℤ} → d ≡ rev p → value ≡ height (tail p) -ℤ winding p
          → height' (tail d) ≡ value → ((v : ℕ) → v ≢ tail d → height' v ≡ height v) → Filling darts tail order from winding height' (i + 1)
      filling_over {height'} {value} back is put keep =
          passed l (limited_more (omega arith) (subst (Limited (i * most_winding + most_winding)) (sym is) (limited_minus known_limited (ok.small p p_in))))
          right (ap (λ y. height' (tail y)) (sym is-d) ∙ put) (λ v n. keep v (λ e. n (e ∙ ap tail is-d)))
        where
          lower : (a b c : ℤ) → (a -ℤ c) -ℤ (a -ℤ b) ≡ b -ℤ c
          lower a b c = let t = atoms₃ a b c in equal (search parts) (omega arith)

          right : (H : ℕ → ℤ) → HeightsOf darts tail winding H → value ≡ H (tail (order i)) -ℤ H (ξ.on.base (tail (order i)))
          right H h =
              is
              ∙ ap₂ (λ a b. a -ℤ b) (known_right H h) (h p p_in)
              ∙ lower (H (tail p)) (H (tail (rev p))) (H (ξ.on.base (tail p)))
              ∙ ap (λ v. H (tail (rev p)) -ℤ H v) (sym (ξ.on.across p p_in))
              ∙ ap (λ y. H (tail y) -ℤ H (ξ.on.base (tail y))) (sym back ∙ is-d)

-- one step of the machine: the height at `known` less the winding fits, and storing it at `next` passes one dart
module _ {darts : ℕ} {tail order from : ℕ → ℕ} {winding : ℕ → ℤ} (ok : Fillable darts tail order from winding) (heights : List ℤ) {i d p known : ℕ}
    (ξ : Filling darts tail order from winding (atℤ heights) i) (l : i < darts) (is-d : d ≡ order i) (is-p : p ≡ from d) (is_Known : known ≡ tail p)
    (back : d ≡ rev p) {fall : ℤ} (is-fall : fall ≡ to_z w16 (of_z w16 (winding p))) where
  other : p ≢ d
  other e = rev_apart p (sym back ∙ sym e)

  small_p : Limited most_winding (winding p)
  small_p = ok.small p (origin_in ok l is-d is-p)

  read_limited : Limited (i * most_winding) (atℤ heights known)
  read_limited = subst (λ v. Limited (i * most_winding) (atℤ heights v)) (sym is_Known) (known_limited ok ξ l is-d is-p other)

  fits_32 : (i * most_winding < 2147483648) × (i * most_winding + most_winding < 2147483648)
  fits_32 = (omega (arith, ok.few), omega (arith, ok.few))

  fall_is : fall ≡ winding p
  fall_is = is-fall ∙ same_bits16 (omega arith) small_p

  fall_bits : to_z w32 (of_z w32 fall) ≡ winding p
  fall_bits = same_bits (omega arith) (subst (Limited most_winding) (sym fall_is) small_p) ∙ fall_is

  abbrev read : ℤ
  read = to_z w32 (of_z w32 (atℤ heights known)) -ℤ to_z w32 (of_z w32 fall)

  read_is : read ≡ atℤ heights known -ℤ winding p
  read_is = ap₂ (λ a b. a -ℤ b) (same_bits fits_32.0 read_limited) fall_bits

  new_limited : Limited (i * most_winding + most_winding) read
  new_limited = subst (Limited (i * most_winding + most_winding)) (sym read_is) (limited_minus read_limited small_p)

  pub new_fits : SFits w32 read
  new_fits = limited_fits (i * most_winding + most_winding) read fits_32.1 new_limited

  pub filling_stored : {next : ℕ} → length heights ≡ 1024 → next ≡ tail d
      → (length (set heights next (to_z w32 (of_z w32 read))) ≡ 1024)
      × Filling darts tail order from winding (atℤ (set heights next (to_z w32 (of_z w32 read)))) (i + 1)
  filling_stored {next} long is-next = (
    length-set heights next bits ∙ long,
    filling_over ok ξ l is-d is-p other back (read_is ∙ ap (λ v. atℤ heights v -ℤ winding p) is_Known)
        (ap (atℤ (set heights next bits)) (sym is-next)
        ∙ get_or-set_same heights next bits (pos 0) (omega (arith, long, node_in ok (dart_in ok l is-d) is-next))
        ∙ same_bits fits_32.1 new_limited)
        (λ v n. get_or-set_other heights next v bits (pos 0) (λ e. n (e ∙ is-next))),
  )
    where
      bits : ℤ
      bits = to_z w32 (of_z w32 read)

-- a dart that begins a tree has its node set to 0
pub filling_rooted : {darts : ℕ} {tail order from : ℕ → ℕ} {winding : ℕ → ℤ} (ok : Fillable darts tail order from winding) (heights : List ℤ) {i d p base : ℕ}
    → Filling darts tail order from winding (atℤ heights) i → i < darts → d ≡ order i → p ≡ from d → p ≡ d → base ≡ tail d → length heights ≡ 1024
    → (length (set heights base (pos 0)) ≡ 1024) × Filling darts tail order from winding (atℤ (set heights base (pos 0))) (i + 1)
filling_rooted {tail = tail} {order = order} {from = from} ok heights {i} {d} {p} {base} ξ l is-d is-p own is_base long = (
  length-set heights base (pos 0) ∙ long,
  filling_begun ok ξ l (ap from (sym is-d) ∙ sym is-p ∙ own ∙ is-d)
      (ap (atℤ (set heights base (pos 0))) (sym place) ∙ get_or-set_same heights base (pos 0) (pos 0)
      (omega (arith, long, node_in ok (dart_in ok l is-d) is_base)))
      (λ v n. get_or-set_other heights base v (pos 0) (pos 0) (λ e. n (e ∙ place))),
)
  where
    place : base ≡ tail (order i)
    place = is_base ∙ ap tail is-d
