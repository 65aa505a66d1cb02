-- Rounding down to a multiple: the greatest whole number whose multiple is at most z, and that an order up to a multiple is kept when both sides are rounded.
use mathlib.Core.Logic.{◌⊎◌, inl, inr}
use Prim.Native.Nat.{ℕ, suc, ◌/◌}
use native.Mathlib.Omega.{arith}
use native.Mathlib.Nat.{div-add-mod, mod-lt}
use lib.IntN.{ℤ, pos, negsuc, ◌+ℤ◌, ◌*ℤ◌}
use lib.Signed.{◌≤ℤ◌, ◌<ℤ◌}
use mathlib.Core.Path.{◌≡◌}
use Rattle.integers.proofs.Omega.{Parts, atoms₁, atoms₃, atoms₅, parts, equal, at_most, less, from_at_most, from_less}
use Rattle.integers.proofs.Laws.{lt_or_ge, mul_le}

-- the greatest whole number that times (suc k) is at most z
pub floor : ℕ → ℤ → ℤ
floor k (pos a) = pos (a / suc k)
floor k (negsuc a) = negsuc (a / suc k)

-- with d between two multiples X and Y + N of it, an order of x and y + N cannot be
clash : (X Y N x y d : ℤ) → ((Y +ℤ N) +ℤ d) ≤ℤ X → X ≤ℤ x → y <ℤ (Y +ℤ d) → x ≤ℤ (y +ℤ N) → ⊥
clash X Y N x y d p q r h =
    let a = atoms₅ X Y N x y in
    let b = atoms₁ d in
    omega (arith, from_at_most p (search parts), from_at_most q (search parts), from_less r (search parts), from_at_most h (search parts))

module _ (k : ℕ) where
  abbrev D : ℤ
  D = pos (suc k)

  floor_low : (z : ℤ) → (D *ℤ floor k z) ≤ℤ z
  unfolding floor
  floor_low (pos a) =
      let p : Parts (pos (suc k)) × Parts (pos (a / suc k)) × Parts (pos a) = search parts in
      at_most (search parts) (omega (arith, div-add-mod a (suc k), mod-lt a {m = suc k} (omega arith)))
  floor_low (negsuc a) =
      let p : Parts (pos (suc k)) × Parts (negsuc (a / suc k)) × Parts (negsuc a) = search parts in
      at_most (search parts) (omega (arith, div-add-mod a (suc k), mod-lt a {m = suc k} (omega arith)))

  floor_high : (z : ℤ) → z <ℤ (D *ℤ floor k z +ℤ D)
  unfolding floor
  floor_high (pos a) =
      let p : Parts (pos (suc k)) × Parts (pos (a / suc k)) × Parts (pos a) = search parts in
      less (search parts) (omega (arith, div-add-mod a (suc k), mod-lt a {m = suc k} (omega arith)))
  floor_high (negsuc a) =
      let p : Parts (pos (suc k)) × Parts (negsuc (a / suc k)) × Parts (negsuc a) = search parts in
      less (search parts) (omega (arith, div-add-mod a (suc k), mod-lt a {m = suc k} (omega arith)))

  -- what is at most another and a multiple is so rounded down
  pub floor_step : (x y n : ℤ) → x ≤ℤ (y +ℤ D *ℤ n) → floor k x ≤ℤ (floor k y +ℤ n)
  floor_step x y n h = go (lt_or_ge (floor k y +ℤ n) (floor k x))
    where
      go : ((floor k y +ℤ n) <ℤ floor k x) ⊎ (floor k x ≤ℤ (floor k y +ℤ n)) → floor k x ≤ℤ (floor k y +ℤ n)
      go (inr l) = l
      go (inl l) = absurd (clash (D *ℤ floor k x) (D *ℤ floor k y) (D *ℤ n) x y D (rw spread at grown) (floor_low x) (floor_high y) h)
        where
          next : ((floor k y +ℤ n) +ℤ pos 1) ≤ℤ floor k x
          next = let a = atoms₃ (floor k x) (floor k y) n in at_most (search parts) (omega (arith, from_less l (search parts)))

          grown : (D *ℤ ((floor k y +ℤ n) +ℤ pos 1)) ≤ℤ (D *ℤ floor k x)
          grown = mul_le (suc k) next

          spread : D *ℤ ((floor k y +ℤ n) +ℤ pos 1) ≡ ((D *ℤ floor k y) +ℤ (D *ℤ n)) +ℤ D
          spread = let a = atoms₃ (floor k y) n D in equal (search parts) (omega arith)
