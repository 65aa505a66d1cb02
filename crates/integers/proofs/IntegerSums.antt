-- Sums of integers: negation, order, a common factor, naturals among them, and the term that makes a sum negative.
use mathlib.Core.Path.{◌≡◌, refl, sym, ◌∙◌, ap}
use mathlib.Core.Logic.{◌⊎◌, inl, inr}
use mathlib.Core.Bool.{Bool, true, false}
use Prim.Native.Nat.{ℕ, zero, suc, ◌<◌}
use native.Mathlib.Omega.{arith}
use lib.IntN.{ℤ, pos, neg_ℤ, ◌+ℤ◌, ◌-ℤ◌, ◌*ℤ◌, neg_ℤ-+ℤ}
use lib.Signed.{◌≤ℤ◌, ◌<ℤ◌, ≤ℤ_refl}
use Rattle.integers.specs.Sum.{Integers, sum, sumℤ, sumℕ, when}
use Rattle.integers.proofs.Omega.{atoms₁, atoms₂, parts, equal, from_less, from_at_most}
use Rattle.integers.proofs.Laws.{le_add, lt_or_ge, lt_le_clash, mul_distrib_left}
use Rattle.integers.proofs.Sums.{sum_add}

-- ── selected terms ──
pub when_zero : (b : Bool) → when b (pos 0) ≡ pos 0
when_zero true = refl
when_zero false = refl

pub when_neg : (b : Bool) (x : ℤ) → when b (neg_ℤ x) ≡ neg_ℤ (when b x)
when_neg true x = refl
when_neg false x = refl

pub when_add : (b : Bool) (x y : ℤ) → when b (x +ℤ y) ≡ when b x +ℤ when b y
when_add true x y = refl
when_add false x y = refl

pub when_le : (b : Bool) {x y : ℤ} → x ≤ℤ y → when b x ≤ℤ when b y
when_le true h = h
when_le false h = ≤ℤ_refl (pos 0)

pub when_mul : (b : Bool) (k x : ℤ) → when b (k *ℤ x) ≡ k *ℤ when b x
when_mul true k x = refl
when_mul false k x = let a = atoms₁ k in equal (search parts) (omega arith)

-- ── sums ──
pub sum_neg : (n : ℕ) (f : ℕ → ℤ) → sumℤ n (λ i. neg_ℤ (f i)) ≡ neg_ℤ (sumℤ n f)
unfolding sum
sum_neg zero f = refl
sum_neg (suc n) f = ap (λ x. x +ℤ neg_ℤ (f n)) (sum_neg n f) ∙ sym (neg_ℤ-+ℤ (sumℤ n f) (f n))

pub sum_sub : (n : ℕ) (f g : ℕ → ℤ) → sumℤ n (λ i. f i -ℤ g i) ≡ sumℤ n f -ℤ sumℤ n g
sum_sub n f g = sum_add Integers n f (λ i. neg_ℤ (g i)) ∙ ap (λ x. sumℤ n f +ℤ x) (sum_neg n g)

pub sum_mul : (n : ℕ) (k : ℤ) (f : ℕ → ℤ) → sumℤ n (λ i. k *ℤ f i) ≡ k *ℤ sumℤ n f
unfolding sum
sum_mul zero k f = let a = atoms₁ k in equal (search parts) (omega arith)
sum_mul (suc n) k f = ap (λ x. x +ℤ k *ℤ f n) (sum_mul n k f) ∙ sym (mul_distrib_left k (sumℤ n f) (f n))

pub sum_le : (n : ℕ) (f g : ℕ → ℤ) → ((i : ℕ) → i < n → f i ≤ℤ g i) → sumℤ n f ≤ℤ sumℤ n g
unfolding sum
sum_le zero f g h = ≤ℤ_refl (pos 0)
sum_le (suc n) f g h = le_add (sum_le n f g (λ i l. h i (omega arith))) (h n (omega arith))

pub sum_pos : (n : ℕ) (f : ℕ → ℕ) → sumℤ n (λ i. pos (f i)) ≡ pos (sumℕ n f)
unfolding sum
sum_pos zero f = refl
sum_pos (suc n) f = ap (λ x. x +ℤ pos (f n)) (sum_pos n f)

-- a sum below zero has a term below zero
pub negative_term : (n : ℕ) (f : ℕ → ℤ) → sumℤ n f <ℤ pos 0 → (i : ℕ) × (i < n) × (f i <ℤ pos 0)
unfolding sum
negative_term zero f h = absurd (lt_le_clash h (≤ℤ_refl (pos 0)))
negative_term (suc n) f h = go (lt_or_ge (f n) (pos 0)) (negative_term n f)
  where
    go : (f n <ℤ pos 0) ⊎ (pos 0 ≤ℤ f n) → (sumℤ n f <ℤ pos 0 → (i : ℕ) × (i < n) × (f i <ℤ pos 0)) → (i : ℕ) × (i < suc n) × (f i <ℤ pos 0)
    go (inl l) r = (n, omega arith, l)
    go (inr g) r = let q = r less_rest in (q.0, omega (arith, q.1), q.2)
      where
        less_rest : sumℤ n f <ℤ pos 0
        less_rest =
            let a = atoms₂ (sumℤ n f) (f n) in
            Rattle.integers.proofs.Omega.less (search parts) (omega (arith, from_less h (search parts), from_at_most g (search parts)))
