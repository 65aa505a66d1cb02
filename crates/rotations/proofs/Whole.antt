-- A walk that found whole rounds, one to a node, over all darts, and no node without one: the map is sound.
use mathlib.Core.Path.{◌≡◌, refl, sym, ◌∙◌, ap, subst}
use mathlib.Core.Logic.{◌≢◌}
use Prim.Native.Nat.{ℕ, ◌<◌}
use native.Mathlib.Omega.{arith}
use Rattle.maps.specs.Orbit.{Orbit, Permutes}
use Rattle.maps.specs.Map.{Map, darts}
use Rattle.maps.specs.Check.{InRange, Sound}
use Rattle.maps.proofs.Orbits.{orbit_sym, orbit_trans}
use Rattle.traversal.specs.inner.FirstCome.{Unround, astray, merged, parted}
use Rattle.traversal.specs.inner.Mark.{unmarked}
use Rattle.traversal.specs.inner.Spread.{Met}
use Rattle.traversal.specs.inner.Rounds.{Rounds}
use Rattle.traversal.proofs.Spreading.{all_met, place, place_is}

-- a step that leads to every place leads to no place twice: where it came from is one to one, and so onto
onto_apart : (n : ℕ) (f : ℕ → ℕ) → ((y : ℕ) → y < n → Met f n y) → (c d : ℕ) → c < n → d < n → f c ≡ f d → c ≡ d
onto_apart n f every c d lc ld e =
    let a = source c lc in
    let b = source d ld in
    sym a.2 ∙ ap (place f n) (sym (comes a.0 a.1) ∙ ap f a.2 ∙ e ∙ ap f (sym b.2) ∙ comes b.0 b.1) ∙ b.2
  where
    comes : (y : ℕ) → y < n → f (place f n y) ≡ y
    comes y l = (place_is f n y (every y l)).1

    source : (d : ℕ) → d < n → Met (place f n) n d
    source =
        all_met n n (place f n) (λ y l. (place_is f n y (every y l)).0) (λ i j l m q. sym (comes i l) ∙ ap f q ∙ comes j m) refl

module _ {𝓜 : Map} (range : InRange 𝓜) {from owner : ℕ → ℕ} (ρ : Rounds (darts 𝓜) 𝓜.tail 𝓜.rotation from owner)
    (every : (d : ℕ) → d < darts 𝓜 → from d ≢ unmarked) where
  permutes : Permutes (darts 𝓜) 𝓜.rotation
  permutes = record { stays = range.rotation_in; apart = onto_apart (darts 𝓜) 𝓜.rotation (λ y l. let r = ρ.came y l (every y l) in (r.0, r.1, r.2)) }

  one : (c d : ℕ) → c < darts 𝓜 → d < darts 𝓜 → 𝓜.tail c ≡ 𝓜.tail d → Orbit 𝓜.rotation c d
  one c d lc ld e =
      let a = ρ.held c lc (every c lc) in
      let b = ρ.held d ld (every d ld) in
      let same : b.0 ≡ a.0 = omega (arith, a.2, b.2, ap owner e) in
      orbit_trans permutes c a.0 d (orbit_sym permutes a.0 c a.1 a.3) (subst (λ l. Orbit 𝓜.rotation l d) same b.3)

  pub rounds_sound : (((v : ℕ) × (v < 𝓜.nodes) × (owner v ≡ 0)) → ⊥) → Sound 𝓜
  rounds_sound none = record {
    range = range;
    same_tail = λ d l. (ρ.turns d l (every d l)).1;
    injective = permutes.apart;
    one_round = one;
    has_dart = λ v l. let r = ρ.leaves v (λ z. none (v, l, z)) in (r.0, r.1, r.2);
  }

-- ── where it failed the map is not sound ──
pub unround_unsound : {𝓜 : Map} → Sound 𝓜 → Unround (darts 𝓜) 𝓜.tail 𝓜.rotation → ⊥
unround_unsound σ (astray x l h) = h (σ.same_tail x l)
unround_unsound σ (merged x y l m h e) = h (σ.injective x y l m e)
unround_unsound σ (parted x y l m e h) = h (σ.one_round x y l m e)

-- all darts are listed, and a node has none
pub empty_unsound : {𝓜 : Map} {from owner : ℕ → ℕ} → Sound 𝓜 → Rounds (darts 𝓜) 𝓜.tail 𝓜.rotation from owner
    → ((d : ℕ) → d < darts 𝓜 → from d ≢ unmarked) → ((v : ℕ) × (v < 𝓜.nodes) × (owner v ≡ 0)) → ⊥
empty_unsound {owner = owner} σ ρ every e =
    let d = σ.has_dart e.0 e.1 in
    let h = ρ.held d.0 d.1 (every d.0 d.1) in
    omega (arith, h.2, ap owner d.2, e.2)
