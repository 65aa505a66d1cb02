-- The smallest dual: one edge between two faces. What the search asks can be met, and both its answers can be given.
use mathlib.Core.Path.{◌≡◌, refl, sym}
use mathlib.Core.List.{[], ◌∷◌}
use Prim.Native.Nat.{ℕ, zero, suc, ◌<◌}
use native.Mathlib.Omega.{arith}
use lib.IntN.{ℤ, pos, negsuc, ◌+ℤ◌}
use lib.Signed.{mag, lt_z_yes, le_z_yes}
use Rattle.maps.specs.Dart.{rev}
use Rattle.search.specs.Dual.{Dual, dual_of, WellFormed, Joined}
use Rattle.search.specs.inner.Walk.{Walk, here, onward, stay, cross, total, Ring}
use Rattle.search.specs.inner.Settled.{Settled}
use Rattle.search.specs.History.{fell, looked, FellSince, now, before_look}
use Rattle.search.proofs.OfMap.{one_root}

-- the two darts of one edge, of these lengths; the face 0 is left of the dart 0, the face 1 left of the dart 1
abbrev pub edge : ℤ → ℤ → Dual
edge forth back = dual_of (0 ∷ 1 ∷ []) (forth ∷ back ∷ []) 2 2 (0 ∷ [])

-- what holds of 0 and of 1 holds of each number below 2
two : (P : ℕ → Type 0) → P 0 → P 1 → (d : ℕ) → d < 2 → P d
two P p q zero l = p
two P p q (suc zero) l = q
two P p q (suc (suc d)) l = absurd (omega arith)

pub edge_sound : WellFormed (edge (pos 3) (negsuc 1))
unfolding rev
edge_sound = record {
  few_darts = omega arith;
  few_faces = omega arith;
  root_in = one_root (λ m. (edge (pos 3) (negsuc 1)).root m < 2) (omega arith);
  even = refl;
  left_in = two (λ d. (edge (pos 3) (negsuc 1)).left d < 2) (omega arith) (omega arith);
  right_in = two (λ d. (edge (pos 3) (negsuc 1)).right d < 2) (omega arith) (omega arith);
  short = two (λ d. mag ((edge (pos 3) (negsuc 1)).length d) < 1000000000) (omega arith) (omega arith);
  reversed = λ d l. refl;
}

pub edge_joined : (forth back : ℤ) → Joined (edge forth back)
unfolding rev
edge_joined forth back = record {
  part = λ f. 0;
  part_in = λ f l. omega arith;
  part_root = λ m l. omega arith;
  part_kept = λ d l. refl;
  closed = λ B same. two (λ f. B f ≡ B 0) refl (sym (same 0 (omega arith)));
}

-- 3 from face 1 to face 0 and −2 back: the levels 0 and −2 are settled
pub levels : ℕ → ℤ
levels zero = pos 0
levels (suc f) = negsuc 1

pub edge_settled : Settled (edge (pos 3) (negsuc 1)) levels
unfolding rev levels
edge_settled = record {
  still =
      two (λ d. let N = edge (pos 3) (negsuc 1) in lib.Signed.◌≤ℤ◌ (levels (N.left d)) (levels (N.right d) +ℤ N.length d)) (le_z_yes tt) (le_z_yes tt);
  walk = two (λ f. Walk (edge (pos 3) (negsuc 1)) f (levels f)) (here 0 (omega arith) refl) (onward 1 (omega arith) refl refl (here 0 (omega arith) refl));
  rooted = one_root (λ m. levels ((edge (pos 3) (negsuc 1)).root m) ≡ pos 0) refl;
  near = two (λ f. Prim.Native.Nat.◌≤◌ (mag (levels f)) 2000000000000000000) (omega arith) (omega arith);
}

-- 1 there and −2 back: a ring through face 0
pub edge_ring : Ring (edge (pos 1) (negsuc 1)) 0
unfolding rev total
edge_ring = record { around = 1 ∷ 0 ∷ []; closed = cross 1 (omega arith) refl (cross 0 (omega arith) refl stay); negative = lt_z_yes tt }

-- ── what it is to have fallen since ──
looked_last : FellSince 1 (looked 1 ∷ fell 1 ∷ []) → ⊥
looked_last (before_look c h) = c refl

fell_again : FellSince 1 (looked 0 ∷ fell 1 ∷ looked 1 ∷ fell 1 ∷ [])
fell_again = before_look {g = 0} (λ e. omega (arith, e)) (now {g = 1} refl)
