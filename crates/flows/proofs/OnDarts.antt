-- Flows of edges as flows of darts and back.
use mathlib.Core.Path.{◌≡◌, refl, sym, ◌∙◌, ap}
use mathlib.Core.Bool.{Bool, true, false, cond}
use Prim.Native.Nat.{ℕ, ◌+◌, ◌*◌, ◌/◌, ◌%◌, ◌<◌}
use native.Mathlib.Omega.{arith}
use lib.Dec.{eqb}
use lib.IntN.{ℤ, neg_ℤ, ◌-ℤ◌, neg_ℤ-neg_ℤ, neg_ℤ-+ℤ}
use Rattle.integers.proofs.Tests.{eqb_true, eqb_false}
use Rattle.maps.specs.Dart.{rev}
use Rattle.maps.specs.Map.{Map, darts}
use Rattle.maps.specs.Flow.{Antisymmetric}
use Rattle.maps.proofs.Darts.{rev_even, rev_odd, by_edge}
use Rattle.flows.specs.Settings.{on_darts}

pub on_darts_even : (x : ℕ → ℤ) (e : ℕ) → on_darts x (2 * e) ≡ x e
unfolding on_darts
on_darts_even x e = rw (eqb_true (2 * e % 2) 0 (omega arith)) (ap x half)
  where
    half : 2 * e / 2 ≡ e
    half = omega arith

pub on_darts_odd : (x : ℕ → ℤ) (e : ℕ) → on_darts x (2 * e + 1) ≡ neg_ℤ (x e)
unfolding on_darts
on_darts_odd x e = rw (eqb_false ((2 * e + 1) % 2) 0 (omega arith)) (ap (λ k. neg_ℤ (x k)) half)
  where
    half : (2 * e + 1) / 2 ≡ e
    half = omega arith

pub on_darts_antisymmetric : (𝓜 : Map) (x : ℕ → ℤ) → Antisymmetric 𝓜 (on_darts x)
on_darts_antisymmetric 𝓜 x =
    by_edge 𝓜.edges (λ d. on_darts x (rev d) ≡ neg_ℤ (on_darts x d))
    (λ e l. ap (on_darts x) (rev_even e) ∙ on_darts_odd x e ∙ ap neg_ℤ (sym (on_darts_even x e)))
    (λ e l. ap (on_darts x) (rev_odd e) ∙ on_darts_even x e ∙ sym (ap neg_ℤ (on_darts_odd x e) ∙ neg_ℤ-neg_ℤ (x e)))

-- an antisymmetric function of the darts is told by its values at the darts 2e
pub on_darts_of : (𝓜 : Map) (φ : ℕ → ℤ) → Antisymmetric 𝓜 φ → (d : ℕ) → d < darts 𝓜 → on_darts (λ e. φ (2 * e)) d ≡ φ d
on_darts_of 𝓜 φ anti =
    by_edge 𝓜.edges (λ d. on_darts (λ e. φ (2 * e)) d ≡ φ d)
    (λ e l. on_darts_even (λ e. φ (2 * e)) e)
    (λ e l. on_darts_odd (λ e. φ (2 * e)) e ∙ sym (anti (2 * e) (omega arith)) ∙ ap φ (rev_even e))

pub on_darts_sub : (x y : ℕ → ℤ) (d : ℕ) → on_darts (λ e. x e -ℤ y e) d ≡ on_darts x d -ℤ on_darts y d
unfolding on_darts
on_darts_sub x y d = go (eqb (d % 2) 0)
  where
    go : (b : Bool)
        → cond b (x (d / 2) -ℤ y (d / 2)) (neg_ℤ (x (d / 2) -ℤ y (d / 2))) ≡ cond b (x (d / 2)) (neg_ℤ (x (d / 2))) -ℤ cond b (y (d / 2)) (neg_ℤ (y (d / 2)))
    go true = refl
    go false = neg_ℤ-+ℤ (x (d / 2)) (neg_ℤ (y (d / 2)))

-- flows of edges that agree on the darts agree on the edges
pub on_darts_injective : (𝓜 : Map) (x y : ℕ → ℤ) → ((d : ℕ) → d < darts 𝓜 → on_darts x d ≡ on_darts y d) → (e : ℕ) → e < 𝓜.edges → x e ≡ y e
on_darts_injective 𝓜 x y h e l = sym (on_darts_even x e) ∙ h (2 * e) (omega arith) ∙ on_darts_even y e
