-- Laws of registers, and the checks 9 and 10 decided by them.
use mathlib.Core.Path.{◌≡◌, refl, sym, ◌∙◌, ap}
use mathlib.Core.Logic.{◌⊎◌, inl, inr, ◌≢◌}
use Prim.Native.Nat.{ℕ, ◌+◌, ◌<◌}
use native.Mathlib.Omega.{arith}
use Rattle.maps.specs.Orbit.{orbit_of, Permutes}
use Rattle.maps.specs.Map.{Map, darts}
use Rattle.maps.specs.Check.{InRange, RotationFault, NodeFault}
use Rattle.maps.proofs.Numbering.{orbit_of_along, orbit_of_same}
use Rattle.rotations.specs.inner.Register.{Register, Clash}

-- ── entering places one by one ──
pub register_none : (key value table : ℕ → ℕ) → ((k : ℕ) → table k ≡ 0) → Register key value table 0
register_none key value table h = record { entered = λ d l. absurd (omega arith); from = λ k. inl (h k) }

module _ {key value table : ℕ → ℕ} {n : ℕ} (ρ : Register key value table n) where
  abbrev From : (ℕ → ℕ) → ℕ → ℕ → Type 0
  From t m k = (t k ≡ 0) ⊎ ((d : ℕ) × (d < m) × (key d ≡ k) × (t k ≡ value d + 1))

  -- the key has an entry: some earlier place has this key
  pub earlier : table (key n) ≢ 0 → (d : ℕ) × (d < n) × (key d ≡ key n) × (table (key n) ≡ value d + 1)
  earlier h = go (ρ.from (key n))
    where
      go : From table n (key n) → (d : ℕ) × (d < n) × (key d ≡ key n) × (table (key n) ≡ value d + 1)
      go (inl e) = absurd (h e)
      go (inr r) = r

  -- .. with another value
  pub clash : {m : ℕ} → n < m → table (key n) ≢ 0 → table (key n) ≢ value n + 1 → Clash key value m
  clash l h g = let r = earlier h in (r.0, n, omega (arith, r.1), l, r.2, λ e. g (r.3 ∙ ap (λ x. x + 1) e))

-- ── 9: the rotations are the keys, and the darts the values ──
module _ (𝓜 : Map) {table : ℕ → ℕ} where
  pub rotation_good : Register 𝓜.rotation (λ c. c) table (darts 𝓜) → ((d : ℕ) → d < darts 𝓜 → 𝓜.tail (𝓜.rotation d) ≡ 𝓜.tail d) → RotationFault 𝓜 → ⊥
  rotation_good ρ keeps (inl r) = r.2 (keeps r.0 r.1)
  rotation_good ρ keeps (inr r) =
      let a = ρ.entered r.0 (omega (arith, r.2, r.3)) in
      let b = ρ.entered r.1 r.3 in
      let e = ap table r.4 in
      omega (arith, r.2)

-- ── 10: the nodes are the keys, and the rounds of the rotation the values ──
module _ {𝓜 : Map} (range : InRange 𝓜) (π : Permutes (darts 𝓜) 𝓜.rotation) {round : ℕ → ℕ}
    (rounds : (d : ℕ) → d < darts 𝓜 → round d ≡ orbit_of (darts 𝓜) 𝓜.rotation d) where
  pub two_rounds : Clash 𝓜.tail round (darts 𝓜) → NodeFault 𝓜
  two_rounds (c, d, lc, ld, e, h) =
      (𝓜.tail c, range.tail_in c lc, inr (c, d, lc, ld, refl, sym e, λ o. h (rounds c lc ∙ orbit_of_along π c d lc o ∙ sym (rounds d ld))))

  module _ {owner : ℕ → ℕ} (ρ : Register 𝓜.tail round owner (darts 𝓜)) where
    pub no_dart : (v : ℕ) × (v < 𝓜.nodes) × (owner v ≡ 0) → NodeFault 𝓜
    no_dart (v, l, h) = (v, l, inl (λ d m e. omega (arith, ρ.entered d m, ap owner e, h)))

    pub nodes_good : ((v : ℕ) × (v < 𝓜.nodes) × (owner v ≡ 0) → ⊥) → NodeFault 𝓜 → ⊥
    nodes_good h (v, l, inl none) = go (ρ.from v)
      where
        go : (owner v ≡ 0) ⊎ ((d : ℕ) × (d < darts 𝓜) × (𝓜.tail d ≡ v) × (owner v ≡ round d + 1)) → ⊥
        go (inl e) = h (v, l, e)
        go (inr r) = none r.0 r.1 r.2
    nodes_good h (v, l, inr (c, d, lc, ld, ec, ed, far)) =
        let same : round c ≡ round d = omega (arith, ρ.entered c lc, ρ.entered d ld, ap owner ec, ap owner ed) in
        far (orbit_of_same π c d lc ld (sym (rounds c lc) ∙ same ∙ rounds d ld))
