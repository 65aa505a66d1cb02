-- The lowest height, node by node.
use mathlib.Core.Path.{◌≡◌, ◌∙◌}
use mathlib.Core.Logic.{◌⊎◌, inl, inr}
use mathlib.Core.Bool.{true, false}
use Prim.Native.Nat.{ℕ, ◌+◌, ◌<◌}
use native.Mathlib.Omega.{arith}
use lib.IntN.{ℤ}
use lib.Signed.{◌≤ℤ◌, lt_z, ≤ℤ_refl}
use borrow.Author.Count.{below_more}
use Rattle.std.specs.Int.{int_min}
use Rattle.integers.proofs.Laws.{le_trans}
use Rattle.integers.proofs.Tests.{either}

-- x is the height of a node, and at most those of the nodes below v
pub record Low (nodes : ℕ) (height : ℕ → ℤ) (v : ℕ) (x : ℤ) : Type 0 where
  pub all : (u : ℕ) → u < v → x ≤ℤ height u
  pub one : (u : ℕ) × (u < nodes) × (x ≡ height u)

module _ (nodes : ℕ) (height : ℕ → ℤ) where
  -- the height of node 0
  pub low_start : (x : ℤ) → 0 < nodes → x ≡ height 0 → Low nodes height 1 x
  low_start x l e = record { all = λ u m. let first : u ≡ 0 = omega (arith, m) in rw (first, e) (≤ℤ_refl (height 0)); one = (0, l, e) }

  -- the lower of x and the next height
  pub low_step : (v : ℕ) (x y z : ℤ) → v < nodes → Low nodes height v x → y ≡ height v → z ≤ℤ x → z ≤ℤ y → (z ≡ x) ⊎ (z ≡ y) → Low nodes height (v + 1) z
  low_step v x y z l h e below_x below_y r =
      record {
        all = below_more (λ u. z ≤ℤ height u) v (λ u m. le_trans below_x (h.all u m)) (rw e at below_y);
        one = is r;
      }
    where
      is : (z ≡ x) ⊎ (z ≡ y) → (u : ℕ) × (u < nodes) × (z ≡ height u)
      is (inl p) = (h.one.0, h.one.1, p ∙ h.one.2)
      is (inr p) = (v, l, p ∙ e)

-- the lesser of two is one of them
pub one_of_min : (x y z : ℤ) → z ≡ int_min x y → (z ≡ x) ⊎ (z ≡ y)
one_of_min x y z e = go (either (lt_z y x))
  where
    go : (lt_z y x ≡ true) ⊎ (lt_z y x ≡ false) → (z ≡ x) ⊎ (z ≡ y)
    go (inl t) = inr (rw t at e)
    go (inr t) = inl (rw t at e)
