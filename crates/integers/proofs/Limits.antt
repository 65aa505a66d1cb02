-- Numbers of limited size: sums, differences, negatives.
use mathlib.Core.Bool.{Bool, true, false}
use Prim.Native.Nat.{ℕ, zero, suc, ◌+◌, ◌*◌, ◌≤◌, ◌<◌}
use native.Mathlib.Omega.{arith}
use lib.IntN.{ℤ, pos, neg_ℤ, ◌+ℤ◌, ◌-ℤ◌}
use lib.Signed.{◌≤ℤ◌}
use Rattle.integers.specs.Sum.{sum, sumℤ, when}
use Rattle.integers.specs.inner.Limited.{Limited}
use Rattle.integers.proofs.Omega.{atoms₁, atoms₂, parts, at_most, from_at_most}

pub limited_plus : {a b : ℕ} {x y : ℤ} → Limited a x → Limited b y → Limited (a + b) (x +ℤ y)
limited_plus {a} {b} {x} {y} h g =
    let t = atoms₂ x y in
    record {
      low = at_most (search parts) (omega (arith, from_at_most h.low (search parts), from_at_most g.low (search parts)));
      high = at_most (search parts) (omega (arith, from_at_most h.high (search parts), from_at_most g.high (search parts)));
    }

pub limited_minus : {a b : ℕ} {x y : ℤ} → Limited a x → Limited b y → Limited (a + b) (x -ℤ y)
limited_minus {a} {b} {x} {y} h g =
    let t = atoms₂ x y in
    record {
      low = at_most (search parts) (omega (arith, from_at_most h.low (search parts), from_at_most g.high (search parts)));
      high = at_most (search parts) (omega (arith, from_at_most h.high (search parts), from_at_most g.low (search parts)));
    }

pub limited_more : {a b : ℕ} {x : ℤ} → a ≤ b → Limited a x → Limited b x
limited_more {a} {b} {x} l h =
    let t = atoms₁ x in
    record {
      low = at_most (search parts) (omega (arith, from_at_most h.low (search parts)));
      high = at_most (search parts) (omega (arith, from_at_most h.high (search parts)));
    }

pub limited_neg : {b : ℕ} {x : ℤ} → Limited b x → Limited b (neg_ℤ x)
limited_neg {b} {x} h =
    let t = atoms₁ x in
    record {
      low = at_most (search parts) (omega (arith, from_at_most h.high (search parts)));
      high = at_most (search parts) (omega (arith, from_at_most h.low (search parts)));
    }

pub limited_zero : (b : ℕ) → Limited b (pos 0)
limited_zero b = record { low = at_most (search parts) (omega arith); high = at_most (search parts) (omega arith) }

pub limited_when : (b : Bool) {n : ℕ} {x : ℤ} → Limited n x → Limited n (when b x)
limited_when true h = h
limited_when false {n} h = limited_zero n

-- at most so much, and its negative too
pub limited_both : {n : ℕ} {x : ℤ} → x ≤ℤ pos n → neg_ℤ x ≤ℤ pos n → Limited n x
limited_both {n} {x} h g = let t = atoms₁ x in record { low = at_most (search parts) (omega (arith, from_at_most g (search parts))); high = h }

pub limited_sum : (n b : ℕ) (f : ℕ → ℤ) → ((i : ℕ) → i < n → Limited b (f i)) → Limited (n * b) (sumℤ n f)
unfolding sum
limited_sum zero b f h = limited_zero (0 * b)
limited_sum (suc n) b f h = limited_more (omega arith) (limited_plus (limited_sum n b f (λ i l. h i (omega arith))) (h n (omega arith)))
