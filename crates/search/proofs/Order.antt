-- Orders of integers that the search's steps need, the magnitude of a sum, and tests of the machine.
use mathlib.Core.Path.{◌≡◌, ap}
use mathlib.Core.Logic.{◌⊎◌, inl, inr}
use mathlib.Core.Bool.{Bool, true, false, cond}
use Prim.Native.Nat.{ℕ, suc, ◌+◌, ◌-◌, ◌≤◌, ◌<◌}
use native.Mathlib.Omega.{arith}
use lib.Dec.{ltb}
use lib.IntN.{ℤ, pos, negsuc, ◌+ℤ◌, sub_ℕ}
use lib.Signed.{mag, lt_z, ◌≤ℤ◌, ◌<ℤ◌, lt_z_yes, lt_z_no}
use Rattle.integers.proofs.Omega.{Parts, atoms₂, atoms₃, atoms₄, atoms₅, parts, equal, at_most, less, from_equal, from_at_most, from_less}
use Rattle.integers.proofs.Laws.{lt_or_ge}
use Rattle.search.specs.Level.{far}

pub le_of_eq : {x y : ℤ} → x ≡ y → x ≤ℤ y
le_of_eq {x} {y} e = let a = atoms₂ x y in at_most (search parts) (omega (arith, from_equal e (search parts)))

pub lt_ne : {x y : ℤ} → x <ℤ y → x ≡ y → ⊥
lt_ne {x} {y} h e = let a = atoms₂ x y in omega (arith, from_less h (search parts), from_equal e (search parts))

-- a lower start
pub fall : (x x' l y : ℤ) → (x +ℤ l) ≤ℤ y → x' <ℤ x → (x' +ℤ l) <ℤ y
fall x x' l y h k = let a = atoms₄ x x' l y in less (search parts) (omega (arith, from_at_most h (search parts), from_less k (search parts)))

-- a face that lowers itself
pub self_fall : (x l v : ℤ) → v ≡ x +ℤ l → v <ℤ x → (v +ℤ l) <ℤ v
self_fall x l v e h = let a = atoms₃ x l v in less (search parts) (omega (arith, from_equal e (search parts), from_less h (search parts)))

-- one dart more of a chain
pub add_on : (x y l t p : ℤ) → (x +ℤ l) ≤ℤ y → (y +ℤ t) ≤ℤ p → (x +ℤ (l +ℤ t)) ≤ℤ p
add_on x y l t p h k = let a = atoms₅ x y l t p in at_most (search parts) (omega (arith, from_at_most h (search parts), from_at_most k (search parts)))

-- a chain is tight only where both its parts are
pub both_tight : (x y l t p : ℤ) → (x +ℤ l) ≤ℤ y → (y +ℤ t) ≤ℤ p → x +ℤ (l +ℤ t) ≡ p → (x +ℤ l ≡ y) × (y +ℤ t ≡ p)
both_tight x y l t p h k e =
    let a = atoms₅ x y l t p in
    let h' = from_at_most {z = x +ℤ l} {w = y} h (search parts) in
    let k' = from_at_most {z = y +ℤ t} {w = p} k (search parts) in
    let e' = from_equal {z = x +ℤ (l +ℤ t)} {w = p} e (search parts) in
    (equal (search parts) (omega (arith, h', k', e')), equal (search parts) (omega (arith, h', k', e')))

-- back at the start: not above zero, and not zero
pub closed_below : (x t : ℤ) → (x +ℤ t) ≤ℤ x → (x +ℤ t ≡ x → ⊥) → t <ℤ pos 0
closed_below x t h c = by (lt_or_ge t (pos 0))
  where
    by : (t <ℤ pos 0) ⊎ (pos 0 ≤ℤ t) → t <ℤ pos 0
    by (inl l) = l
    by (inr g) = let a = atoms₂ x t in absurd (c (equal (search parts) (omega (arith, from_at_most h (search parts), from_at_most g (search parts)))))

-- a bound carried over a dart
pub carry : (x y z l : ℤ) → x ≤ℤ (y +ℤ l) → y ≤ℤ z → x ≤ℤ (z +ℤ l)
carry x y z l h k = let a = atoms₄ x y z l in at_most (search parts) (omega (arith, from_at_most h (search parts), from_at_most k (search parts)))

-- ── magnitudes ──
mag_either : (t : Bool) (a b m : ℕ) → a ≤ m → b ≤ m → mag (cond t (negsuc a) (pos b)) ≤ m
mag_either true a b m p q = p
mag_either false a b m p q = q

mag_sub : (a b : ℕ) → mag (sub_ℕ a b) ≤ a + b
mag_sub a b = mag_either (ltb a b) (b - suc a) (a - b) (a + b) (omega arith) (omega arith)

pub mag_add : (x y : ℤ) → mag (x +ℤ y) ≤ mag x + mag y + 1
mag_add (pos a) (pos b) = omega arith
mag_add (pos a) (negsuc b) = omega (arith, mag_sub a (suc b))
mag_add (negsuc a) (pos b) = omega (arith, mag_sub b (suc a))
mag_add (negsuc a) (negsuc b) = omega arith

pub near_not_far : (z : ℤ) → mag z < 2000000000000000 → z ≡ far → ⊥
near_not_far z h e = omega (arith, ap mag e)

-- what is at most a near number is not far
le_near : (y : ℤ) → far ≤ℤ y → mag y < 2000000000000000 → ⊥
le_near (pos b) h l = let a : Parts far × Parts (pos b) = search parts in omega (arith, from_at_most h a)
le_near (negsuc b) h l = let a : Parts far × Parts (negsuc b) = search parts in omega (arith, from_at_most h a)

pub below_near : (x y : ℤ) → x ≤ℤ y → mag y < 2000000000000000 → x ≡ far → ⊥
below_near x y h l e = le_near y (rw e at h) l

-- ── tests of two numbers that are known under other names ──
pub test_yes : (x y x' y' : ℤ) → x ≡ x' → y ≡ y' → lt_z x y ≡ true → x' <ℤ y'
test_yes x y x' y' p q t = rw (← p, ← q) (lt_z_yes (rw t tt))

pub test_no : (x y x' y' : ℤ) → x ≡ x' → y ≡ y' → lt_z x y ≡ false → y' ≤ℤ x'
test_no x y x' y' p q t = rw (← p, ← q) (lt_z_no (rw t tt))
