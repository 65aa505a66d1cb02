-- Equations and orders over ℤ by `omega`, which itself reads ℕ only.
--
-- `Parts z` writes z as plus - minus, two naturals; `search parts` builds one along the sums, differences, products and literals of z from those of
-- its atoms, which `atoms₁`, `atoms₂`, .. bring into scope. What is left is arithmetic of ℕ. A page of examples:
--
--   an equation        regroup x y c = let a = atoms₃ x y c in equal (search parts) (omega arith)
--   an order           below x y c h = let a = atoms₃ x y c in less (search parts) (omega (arith, from_at_most h (search parts)))
--   a hypothesis       from_equal h (search parts), from_at_most h (search parts), from_less h (search parts), in omega's list
--   a contradiction    clash x h g = let a = atoms₁ x in omega (arith, from_less h (search parts), from_less g (search parts))
--   a product          `omega` multiplies out: equations of polynomials go the same way
--   a deep term        search parts depth 9
--
-- They stand checked at the end of this file. An atom is any term: `let a = atoms₂ (ρ (left d)) (f e) in ..`.
use mathlib.Core.Path.{◌≡◌, refl, ap}
use mathlib.Core.Logic.{◌⊎◌, inl, inr}
use mathlib.Core.Bool.{Bool, true, false, cond}
use Prim.Native.Nat.{ℕ, zero, suc, ◌+◌, ◌*◌, ◌-◌, ◌≤◌, ◌<◌}
use native.Mathlib.Omega.{arith}
use lib.Dec.{T, ltb, ltb→lt, nltb→le, lt→ltb, le→leb, leb→le}
use lib.IntN.{ℤ, pos, negsuc, neg_ℤ, ◌+ℤ◌, ◌-ℤ◌, ◌*ℤ◌, sub_ℕ}
use lib.Signed.{◌≤ℤ◌, ◌<ℤ◌, le_z, lt_z, le_z_yes, lt_z_yes}

-- ── the positive and the negative part of an integer ──
unfoldable pub positive : ℤ → ℕ
positive (pos a) = a
positive (negsuc a) = 0

unfoldable pub negative : ℤ → ℕ
negative (pos a) = 0
negative (negsuc a) = suc a

sub_parts : (a b : ℕ) → positive (sub_ℕ a b) + b ≡ a + negative (sub_ℕ a b)
unfolding positive negative
sub_parts a b = go (ltb a b) refl
  where
    go : (t : Bool) → ltb a b ≡ t → positive (cond t (negsuc (b - suc a)) (pos (a - b))) + b ≡ a + negative (cond t (negsuc (b - suc a)) (pos (a - b)))
    go true e = let h : a < b = ltb→lt a b (rw e tt) in omega arith
    go false e = let h : b ≤ a = nltb→le a b (rw e tt) in omega arith

add_parts : (z w : ℤ) → positive (z +ℤ w) + negative z + negative w ≡ positive z + positive w + negative (z +ℤ w)
unfolding positive negative
add_parts (pos a) (pos b) = omega arith
add_parts (pos a) (negsuc b) = omega (arith, sub_parts a (suc b))
add_parts (negsuc a) (pos b) = omega (arith, sub_parts b (suc a))
add_parts (negsuc a) (negsuc b) = omega arith

neg_parts : (z : ℤ) → positive (neg_ℤ z) + positive z ≡ negative z + negative (neg_ℤ z)
unfolding positive negative
neg_parts (pos zero) = refl
neg_parts (pos (suc n)) = omega arith
neg_parts (negsuc n) = omega arith

neg_pos_parts : (k : ℕ) → (positive (neg_ℤ (pos k)) ≡ 0) × (negative (neg_ℤ (pos k)) ≡ k)
unfolding positive negative
neg_pos_parts zero = (refl, refl)
neg_pos_parts (suc k) = (refl, refl)

mul_parts : (z w : ℤ)
    → positive (z *ℤ w) + (positive z * negative w + negative z * positive w) ≡ positive z * positive w + negative z * negative w + negative (z *ℤ w)
unfolding positive negative
mul_parts (pos a) (pos b) = omega arith
mul_parts (pos a) (negsuc b) = omega (arith, (neg_pos_parts (a * suc b)).0, (neg_pos_parts (a * suc b)).1)
mul_parts (negsuc a) (pos b) = omega (arith, (neg_pos_parts (suc a * b)).0, (neg_pos_parts (suc a * b)).1)
mul_parts (negsuc a) (negsuc b) = omega arith

same_by_parts : (z w : ℤ) → positive z + negative w ≡ positive w + negative z → z ≡ w
unfolding positive negative
same_by_parts (pos a) (pos b) e = ap pos (omega arith)
same_by_parts (pos a) (negsuc b) e = absurd (omega arith)
same_by_parts (negsuc a) (pos b) e = absurd (omega arith)
same_by_parts (negsuc a) (negsuc b) e = ap negsuc (omega arith)

le_by_parts : (z w : ℤ) → positive z + negative w ≤ positive w + negative z → T (le_z z w)
unfolding positive negative
le_by_parts (pos a) (pos b) e = le→leb a b (omega arith)
le_by_parts (pos a) (negsuc b) e = absurd (omega arith)
le_by_parts (negsuc a) (pos b) e = tt
le_by_parts (negsuc a) (negsuc b) e = le→leb b a (omega arith)

parts_of_le : (z w : ℤ) → T (le_z z w) → positive z + negative w ≤ positive w + negative z
unfolding positive negative
parts_of_le (pos a) (pos b) t = let h : a ≤ b = leb→le a b t in omega arith
parts_of_le (pos a) (negsuc b) t = absurd t
parts_of_le (negsuc a) (pos b) t = omega arith
parts_of_le (negsuc a) (negsuc b) t = let h : b ≤ a = leb→le b a t in omega arith

lt_by_parts : (z w : ℤ) → positive z + negative w < positive w + negative z → T (lt_z z w)
unfolding positive negative
lt_by_parts (pos a) (pos b) e = lt→ltb a b (omega arith)
lt_by_parts (pos a) (negsuc b) e = absurd (omega arith)
lt_by_parts (negsuc a) (pos b) e = tt
lt_by_parts (negsuc a) (negsuc b) e = lt→ltb b a (omega arith)

parts_of_lt : (z w : ℤ) → T (lt_z z w) → positive z + negative w < positive w + negative z
unfolding positive negative
parts_of_lt (pos a) (pos b) t = let h : a < b = ltb→lt a b t in omega arith
parts_of_lt (pos a) (negsuc b) t = absurd t
parts_of_lt (negsuc a) (pos b) t = omega arith
parts_of_lt (negsuc a) (negsuc b) t = let h : b < a = ltb→lt b a t in omega arith

-- ── an integer as a difference of naturals ──
pub record Parts (z : ℤ) : Type 0 where
  pub plus : ℕ
  pub minus : ℕ
  pub is : plus + negative z ≡ positive z + minus

abbrev pub atom : (z : ℤ) → Parts z
atom z = record { plus = positive z; minus = negative z; is = refl }

pub literal_is : (k : ℕ) → k + negative (pos k) ≡ positive (pos k) + 0
unfolding positive negative
literal_is k = refl

abbrev pub literal : (k : ℕ) → Parts (pos k)
literal k = record { plus = k; minus = 0; is = literal_is k }

pub negative_literal_is : (k : ℕ) → 0 + negative (negsuc k) ≡ positive (negsuc k) + suc k
unfolding positive negative
negative_literal_is k = omega arith

abbrev pub negative_literal : (k : ℕ) → Parts (negsuc k)
negative_literal k = record { plus = 0; minus = suc k; is = negative_literal_is k }

pub added_is : {z w : ℤ} (r : Parts z) (s : Parts w) → (r.plus + s.plus) + negative (z +ℤ w) ≡ positive (z +ℤ w) + (r.minus + s.minus)
added_is {z} {w} r s = omega (arith, add_parts z w, r.is, s.is)

abbrev pub added : {z w : ℤ} → Parts z → Parts w → Parts (z +ℤ w)
added r s = record { plus = r.plus + s.plus; minus = r.minus + s.minus; is = added_is r s }

pub negated_is : {z : ℤ} (r : Parts z) → r.minus + negative (neg_ℤ z) ≡ positive (neg_ℤ z) + r.plus
negated_is {z} r = omega (arith, neg_parts z, r.is)

abbrev pub negated : {z : ℤ} → Parts z → Parts (neg_ℤ z)
negated r = record { plus = r.minus; minus = r.plus; is = negated_is r }

pub multiplied_is : {z w : ℤ} (r : Parts z) (s : Parts w)
    → (r.plus * s.plus + r.minus * s.minus) + negative (z *ℤ w) ≡ positive (z *ℤ w) + (r.plus * s.minus + r.minus * s.plus)
multiplied_is {z} {w} r s =
    omega (
      arith,
      mul_parts z w,
      ap (λ x. x * s.plus) r.is,
      ap (λ x. x * s.minus) r.is,
      ap (λ x. positive z * x) s.is,
      ap (λ x. negative z * x) s.is,
    )

abbrev pub multiplied : {z w : ℤ} → Parts z → Parts w → Parts (z *ℤ w)
multiplied r s = record { plus = r.plus * s.plus + r.minus * s.minus; minus = r.plus * s.minus + r.minus * s.plus; is = multiplied_is r s }

pub ruleset parts = (added, negated, multiplied, literal, negative_literal)

abbrev pub atoms₁ : (x : ℤ) → Parts x
atoms₁ = atom

abbrev pub atoms₂ : (x y : ℤ) → Parts x × Parts y
atoms₂ x y = (atom x, atom y)

abbrev pub atoms₃ : (x y z : ℤ) → Parts x × Parts y × Parts z
atoms₃ x y z = (atom x, atom y, atom z)

abbrev pub atoms₄ : (x y z w : ℤ) → Parts x × Parts y × Parts z × Parts w
atoms₄ x y z w = (atom x, atom y, atom z, atom w)

abbrev pub atoms₅ : (x y z w v : ℤ) → Parts x × Parts y × Parts z × Parts w × Parts v
atoms₅ x y z w v = (atom x, atom y, atom z, atom w, atom v)

-- ── goals ──
pub equal : {z w : ℤ} (r : Parts z × Parts w) → r.0.plus + r.1.minus ≡ r.1.plus + r.0.minus → z ≡ w
equal {z} {w} r e = same_by_parts z w (omega (arith, r.0.is, r.1.is))

pub at_most : {z w : ℤ} (r : Parts z × Parts w) → r.0.plus + r.1.minus ≤ r.1.plus + r.0.minus → z ≤ℤ w
at_most {z} {w} r e = le_z_yes (le_by_parts z w (omega (arith, r.0.is, r.1.is)))

pub less : {z w : ℤ} (r : Parts z × Parts w) → r.0.plus + r.1.minus < r.1.plus + r.0.minus → z <ℤ w
less {z} {w} r e = lt_z_yes (lt_by_parts z w (omega (arith, r.0.is, r.1.is)))

-- ── hypotheses ──
pub from_equal : {z w : ℤ} → z ≡ w → (r : Parts z × Parts w) → r.0.plus + r.1.minus ≡ r.1.plus + r.0.minus
from_equal {z} {w} e r = omega (arith, r.0.is, r.1.is, ap positive e, ap negative e)

pub from_at_most : {z w : ℤ} → z ≤ℤ w → (r : Parts z × Parts w) → r.0.plus + r.1.minus ≤ r.1.plus + r.0.minus
from_at_most {z} {w} h r = omega (arith, r.0.is, r.1.is, parts_of_le z w h.le)

pub from_less : {z w : ℤ} → z <ℤ w → (r : Parts z × Parts w) → r.0.plus + r.1.minus < r.1.plus + r.0.minus
from_less {z} {w} h r = omega (arith, r.0.is, r.1.is, parts_of_lt z w h.lt)

-- the positive part of any difference
pub positive_is : {z : ℤ} (r : Parts z) → positive z ≡ r.plus - r.minus
unfolding positive negative
positive_is {z} r = go (one_is_nil z)
  where
    one_is_nil : (z : ℤ) → (positive z ≡ 0) ⊎ (negative z ≡ 0)
    one_is_nil (pos n) = inr refl
    one_is_nil (negsuc n) = inl refl

    go : (positive z ≡ 0) ⊎ (negative z ≡ 0) → positive z ≡ r.plus - r.minus
    go (inl e) = omega (arith, r.is)
    go (inr e) = omega (arith, r.is)

-- ── the examples of the header ──
regroup : (x y c : ℤ) → (x +ℤ c) -ℤ (y +ℤ c) ≡ x -ℤ y
regroup x y c = let a = atoms₃ x y c in equal (search parts) (omega arith)

below : (x y c : ℤ) → x ≤ℤ y → ((x +ℤ c) -ℤ pos 1) <ℤ (y +ℤ c)
below x y c h = let a = atoms₃ x y c in less (search parts) (omega (arith, from_at_most h (search parts)))

clash : (x : ℤ) → pos 2 <ℤ x → x <ℤ pos 3 → ⊥
clash x h g = let a = atoms₁ x in omega (arith, from_less h (search parts), from_less g (search parts))

squares : (x y : ℤ) → (x -ℤ y) *ℤ (x +ℤ y) ≡ x *ℤ x -ℤ y *ℤ y
squares x y = let a = atoms₂ x y in equal (search parts) (omega arith)

deep : (x y c d e : ℤ) → (x +ℤ c) -ℤ (y +ℤ (d -ℤ c)) +ℤ neg_ℤ (neg_ℤ e) -ℤ pos 3 ≡ (x -ℤ d) -ℤ ((pos 3 -ℤ e) +ℤ neg_ℤ (c +ℤ c)) -ℤ y
deep x y c d e = let a = atoms₅ x y c d e in equal (search parts depth 9) (omega arith)
