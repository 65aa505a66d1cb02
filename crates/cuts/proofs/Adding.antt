-- The cut added up edge by edge: nothing at first, one edge more, and every sum within 64 bits.
use mathlib.Core.Path.{◌≡◌, refl, sym, ◌∙◌, ap, ap₂, subst}
use mathlib.Core.Logic.{◌≢◌}
use mathlib.Core.Bool.{Bool, true, false, not, ◌&&◌, false≢true}
use Prim.Native.Nat.{ℕ, ◌+◌, ◌*◌, ◌/◌, ◌%◌, ◌≤◌, ◌<◌}
use native.Mathlib.Omega.{arith}
use lib.Dec.{eqb}
use lib.IntN.{ℤ, pos, ◌+ℤ◌}
use mir.Syntax.{w32, w64}
use mir.Val.{SFits, to_z, of_z}
use mir.ValLaws.{to_z-of_z}
use Rattle.integers.specs.Sum.{Integers, when}
use Rattle.integers.specs.inner.Limited.{Limited}
use Rattle.integers.proofs.Omega.{atoms₁, atoms₃, parts, equal}
use Rattle.integers.proofs.Sums.{sum_zero, sum_more}
use Rattle.integers.proofs.Limits.{limited_when, limited_sum}
use Rattle.integers.proofs.Tests.{eqb_true, eqb_false}
use Rattle.signed.proofs.Laws.{number_of_bits}
use Rattle.signed.proofs.Limits.{limited_fits, limited_fits64}
use Rattle.maps.specs.Dart.{rev}
use Rattle.maps.proofs.Darts.{rev_in, rev_even, rev_odd}
use Rattle.cuts.specs.inner.Cut.{leaves_of, cut_of}
use Rattle.arrays.specs.inner.Sizes.{most_capacity, most_length}

-- of an even number of darts, each has its reverse among them
pub reverse_in : (n d : ℕ) → n % 2 ≡ 0 → d < n → rev d < n
reverse_in n d e l = let q : 2 * (n / 2) ≡ n = omega arith in rw q at (rev_in (n / 2) d (omega arith))

-- ── a test that is known ──
pub when_yes : {b : Bool} (x : ℤ) → b ≡ true → x ≡ when b x
when_yes x e = rw e

pub when_no : {b : Bool} (x : ℤ) → b ≡ false → pos 0 ≡ when b x
when_no x e = rw e

-- ── the cut of the first darts ──
pub cut_none : (tail : ℕ → ℕ) (length : ℕ → ℤ) (S : ℕ → Bool) → cut_of 0 tail length S ≡ pos 0
unfolding cut_of
cut_none tail length S = sum_zero Integers _

cut_more : (d : ℕ) (tail : ℕ → ℕ) (length : ℕ → ℤ) (S : ℕ → Bool)
    → cut_of (d + 1) tail length S ≡ cut_of d tail length S +ℤ when (leaves_of tail S d) (length d)
unfolding cut_of
cut_more d tail length S = sum_more Integers d _

-- one edge more: both of its darts
cut_edge : (e : ℕ) (tail : ℕ → ℕ) (length : ℕ → ℤ) (S : ℕ → Bool)
    → cut_of (2 * e) tail length S +ℤ (when (leaves_of tail S (2 * e)) (length (2 * e)) +ℤ when (leaves_of tail S (2 * e + 1)) (length (2 * e + 1)))
    ≡ cut_of (2 * (e + 1)) tail length S
cut_edge e tail length S =
    regroup (cut_of (2 * e) tail length S) (when (leaves_of tail S (2 * e)) (length (2 * e))) (when (leaves_of tail S (2 * e + 1)) (length (2 * e + 1)))
    ∙ ap (λ x. x +ℤ when (leaves_of tail S (2 * e + 1)) (length (2 * e + 1))) (sym (cut_more (2 * e) tail length S))
    ∙ sym (cut_more (2 * e + 1) tail length S)
    ∙ ap (λ n. cut_of n tail length S) next
  where
    next : 2 * e + 1 + 1 ≡ 2 * (e + 1)
    next = omega arith

    regroup : (x y z : ℤ) → x +ℤ (y +ℤ z) ≡ (x +ℤ y) +ℤ z
    regroup x y z = let a = atoms₃ x y z in equal (search parts) (omega arith)

-- ── the two darts of an edge: a its tail's flag, b its head's ──
zero_right : (x : ℤ) → x ≡ x +ℤ pos 0
zero_right x = let a = atoms₁ x in equal (search parts) (omega arith)

zero_left : (x : ℤ) → x ≡ pos 0 +ℤ x
zero_left x = let a = atoms₁ x in equal (search parts) (omega arith)

first_leaves : (a b : Bool) (x y : ℤ) → (a && not b) ≡ true → x ≡ when (a && not b) x +ℤ when (b && not a) y
first_leaves true false x y e = zero_right x
first_leaves true true x y e = absurd (false≢true e)
first_leaves false b x y e = absurd (false≢true e)

second_leaves : (a b : Bool) (x y : ℤ) → (b && not a) ≡ true → y ≡ when (a && not b) x +ℤ when (b && not a) y
second_leaves false true x y e = zero_left y
second_leaves true true x y e = absurd (false≢true e)
second_leaves true false x y e = absurd (false≢true e)
second_leaves false false x y e = absurd (false≢true e)

neither_leaves : (a b : Bool) (x y : ℤ) → (a && not b) ≡ false → (b && not a) ≡ false → pos 0 ≡ when (a && not b) x +ℤ when (b && not a) y
neither_leaves a b x y e f = rw (e, f)

-- the marks of the two ends, tested in turn: are they one, is the first 1, is the second
alike : (b : Bool) → (b && not b) ≡ false
alike true = refl
alike false = refl

pub one_mark : (x y : ℕ) → x ≡ y → ((eqb x 1 && not (eqb y 1)) ≡ false) × ((eqb y 1 && not (eqb x 1)) ≡ false)
one_mark x y q =
    (subst (λ z. (eqb x 1 && not (eqb z 1)) ≡ false) q (alike (eqb x 1)), subst (λ z. (eqb z 1 && not (eqb x 1)) ≡ false) q (alike (eqb x 1)))

pub first_marked : (x y : ℕ) → x ≢ y → x ≡ 1 → (eqb x 1 && not (eqb y 1)) ≡ true
first_marked x y n t = rw (eqb_true x 1 t, eqb_false y 1 (λ q. n (t ∙ sym q)))

pub second_marked : (x y : ℕ) → x ≢ 1 → y ≡ 1 → (eqb y 1 && not (eqb x 1)) ≡ true
second_marked x y n t = rw (eqb_true y 1 t, eqb_false x 1 n)

module _ (e : ℕ) (tail : ℕ → ℕ) (length : ℕ → ℤ) (S : ℕ → Bool) (a b : Bool) (tail_is : a ≡ S (tail (2 * e))) (head_is : b ≡ S (tail (2 * e + 1))) where
  abbrev Share : ℤ → Type 0
  Share r = r ≡ when (leaves_of tail S (2 * e)) (length (2 * e)) +ℤ when (leaves_of tail S (2 * e + 1)) (length (2 * e + 1))

  by_flags : (r : ℤ) → r ≡ when (a && not b) (length (2 * e)) +ℤ when (b && not a) (length (2 * e + 1)) → Share r
  by_flags r h =
      h ∙ ap₂ (λ p q. when p (length (2 * e)) +ℤ when q (length (2 * e + 1)))
      (ap₂ (λ p q. p && not q) tail_is (head_is ∙ ap (λ d. S (tail d)) (sym (rev_even e))))
      (ap₂ (λ p q. p && not q) head_is (tail_is ∙ ap (λ d. S (tail d)) (sym (rev_odd e))))

  pub share_first : (a && not b) ≡ true → Share (length (2 * e))
  share_first h = by_flags _ (first_leaves a b _ _ h)

  pub share_second : (b && not a) ≡ true → Share (length (2 * e + 1))
  share_second h = by_flags _ (second_leaves a b _ _ h)

  pub share_none : (a && not b) ≡ false → (b && not a) ≡ false → Share (pos 0)
  share_none h g = by_flags _ (neither_leaves a b _ _ h g)

cut_fits : (d : ℕ) (tail : ℕ → ℕ) (length : ℕ → ℤ) (S : ℕ → Bool) → d ≤ 1024 → ((i : ℕ) → i < d → Limited most_length (length i))
    → SFits w64 (cut_of d tail length S)
unfolding cut_of
cut_fits d tail length S few short =
    limited_fits64 (d * most_length) _ (omega arith) (limited_sum d most_length _ (λ i l. limited_when (leaves_of tail S i) (short i l)))

-- the share of edge e in the sum, as the loop holds them at 32 and at 64 bits
module _ (e : ℕ) (tail : ℕ → ℕ) (length : ℕ → ℤ) (S : ℕ → Bool) (sum share : ℤ) (so_far : sum ≡ cut_of (2 * e) tail length S)
    (narrow : SFits w32 share)
    (share_is : share ≡ when (leaves_of tail S (2 * e)) (length (2 * e)) +ℤ when (leaves_of tail S (2 * e + 1)) (length (2 * e + 1))) where
  -- a share of 0 is left out
  pub sum_stays : of_z w32 share ≡ 0 → sum ≡ cut_of (2 * (e + 1)) tail length S
  sum_stays z =
      let none : pos 0 ≡ share = sym (ap (to_z w32) z) ∙ number_of_bits share narrow in
      so_far ∙ zero_right _ ∙ ap (λ x. cut_of (2 * e) tail length S +ℤ x) (none ∙ share_is) ∙ cut_edge e tail length S

  module _ (wide : ℤ) (f : SFits w64 wide) (q : wide ≡ to_z w32 (of_z w32 share)) where
    sum_next : sum +ℤ to_z w64 (of_z w64 wide) ≡ cut_of (2 * (e + 1)) tail length S
    sum_next = ap₂ ◌+ℤ◌ so_far (to_z-of_z w64 wide f ∙ q ∙ number_of_bits share narrow ∙ share_is) ∙ cut_edge e tail length S

    module _ (few : 2 * (e + 1) ≤ 1024) (short : (i : ℕ) → i < 2 * (e + 1) → Limited most_length (length i)) where
      pub sum_fits : SFits w64 (sum +ℤ to_z w64 (of_z w64 wide))
      sum_fits = rw sum_next (cut_fits (2 * (e + 1)) tail length S few short)

      pub sum_held : to_z w64 (of_z w64 (sum +ℤ to_z w64 (of_z w64 wide))) ≡ cut_of (2 * (e + 1)) tail length S
      sum_held = to_z-of_z w64 _ sum_fits ∙ sum_next

-- 1,024 darts of at most 2,000,000 stay below 2^31
pub capacity_fits : (d : ℕ) (tail : ℕ → ℕ) (capacity : ℕ → ℤ) (S : ℕ → Bool) → d ≤ 1024 → ((i : ℕ) → i < d → Limited most_capacity (capacity i))
    → SFits w32 (cut_of d tail capacity S)
unfolding cut_of
capacity_fits d tail capacity S few small =
    limited_fits (d * most_capacity) _ (omega arith) (limited_sum d most_capacity _ (λ i l. limited_when (leaves_of tail S i) (small i l)))
