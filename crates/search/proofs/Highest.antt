-- Settled potentials are the highest that no dart can lower, with the roots at 0; and no potentials are so where there is a ring below zero.
use mathlib.Core.Path.{◌≡◌, sym, ◌∙◌, ap, subst}
use mathlib.Core.List.{List}
use Prim.Native.Nat.{ℕ, ◌<◌}
use native.Mathlib.Omega.{arith}
use lib.IntN.{ℤ, pos, ◌+ℤ◌, ◌-ℤ◌}
use lib.Signed.{◌≤ℤ◌}
use Rattle.integers.proofs.Omega.{atoms₁, atoms₂, atoms₄, atoms₅, parts, equal, at_most, from_at_most, from_less}
use Rattle.search.specs.Dual.{Dual, Joined}
use Rattle.search.specs.inner.Walk.{Walk, here, onward, Crossing, stay, cross, total, Ring}
use Rattle.search.specs.inner.Settled.{Still, Settled}
use Rattle.search.proofs.Order.{le_of_eq, carry}

-- potentials that no dart can lower are at most the length of any walk from a root
pub below_walk : {N : Dual} (τ : ℕ → ℤ) → Still N τ → ((m : ℕ) → m < N.roots → τ (N.root m) ≤ℤ pos 0) → {f : ℕ} {z : ℤ} → Walk N f z → τ f ≤ℤ z
below_walk τ still low (here m l e) = subst (λ f. τ f ≤ℤ pos 0) e (low m l)
below_walk {N} τ still low (onward {f} {z} {w} d l e q r) =
    rw (← e, q) (carry (τ (N.left d)) (τ (N.right d)) z (N.length d) (still d l) (below_walk τ still low r))

pub highest : {N : Dual} {ρ : ℕ → ℤ} → Settled N ρ → (τ : ℕ → ℤ) → Still N τ → ((m : ℕ) → m < N.roots → τ (N.root m) ≡ pos 0) → (f : ℕ)
    → f < N.faces → τ f ≤ℤ ρ f
highest s τ still zero f l = below_walk τ still (λ m h. le_of_eq (zero m h)) (s.walk f l)

-- a walk back to a root is not below zero: so the roots are at 0
module _ {N : Dual} (joined : Joined N) (ρ : ℕ → ℤ) (still : Still N ρ) where
  -- the root of the part of a face
  base : ℕ → ℕ
  base f = N.root (joined.part f)

  base_kept : (d : ℕ) → d < N.darts → base (N.left d) ≡ base (N.right d)
  unfolding base
  base_kept d l = ap N.root (joined.part_kept d l)

  base_root : (m : ℕ) → m < N.roots → base (N.root m) ≡ N.root m
  unfolding base
  base_root m l = ap N.root (joined.part_root m l)

  shifted : ℕ → ℤ
  shifted f = ρ f -ℤ ρ (base f)

  shifted_still : Still N shifted
  unfolding shifted
  shifted_still d l =
      subst (λ b. (ρ (N.left d) -ℤ ρ b) ≤ℤ ((ρ (N.right d) -ℤ ρ (base (N.right d))) +ℤ N.length d)) (sym (base_kept d l))
      (let a = atoms₄ (ρ (N.left d)) (ρ (N.right d)) (N.length d) (ρ (base (N.right d))) in
      at_most (search parts) (omega (arith, from_at_most (still d l) (search parts))))

  shifted_root : (m : ℕ) → m < N.roots → shifted (N.root m) ≡ pos 0
  unfolding shifted
  shifted_root m l = ap (λ b. ρ (N.root m) -ℤ ρ b) (base_root m l) ∙ (let a = atoms₁ (ρ (N.root m)) in equal (search parts) (omega arith))

  pub root_zero : (m : ℕ) → m < N.roots → ρ (N.root m) ≤ℤ pos 0 → Walk N (N.root m) (ρ (N.root m)) → ρ (N.root m) ≡ pos 0
  root_zero m l low walk =
      let a = atoms₁ (ρ (N.root m)) in
      let w = subst (λ z. z ≤ℤ ρ (N.root m)) (shifted_root m l) (below_walk shifted shifted_still (λ i h. le_of_eq (shifted_root i h)) walk) in
      equal (search parts) (omega (arith, from_at_most {z = pos 0} {w = ρ (N.root m)} w (search parts), from_at_most low (search parts)))

-- along a crossing potentials rise by its length at most
pub along_crossing : {N : Dual} (τ : ℕ → ℤ) → Still N τ → {f g : ℕ} {ds : List ℕ} → Crossing N f g ds → τ g ≤ℤ (τ f +ℤ total N.length ds)
unfolding total
along_crossing τ still (stay {f}) = let a = atoms₁ (τ f) in at_most (search parts) (omega arith)
along_crossing {N} τ still (cross {f} {g} {ds} d l e r) =
    rw (← e)
    (let a = atoms₅ (τ g) (τ (N.left d)) (τ (N.right d)) (N.length d) (total N.length ds) in
    at_most (search parts) (omega (arith, from_at_most (still d l) (search parts), from_at_most (along_crossing τ still r) (search parts))))

pub not_both : {N : Dual} {y : ℕ} → Ring N y → (τ : ℕ → ℤ) → Still N τ → ⊥
not_both {N} {y} r τ still =
    let a = atoms₂ (τ y) (total N.length r.around) in
    omega (arith, from_at_most (along_crossing τ still r.closed) (search parts), from_less r.negative (search parts))
