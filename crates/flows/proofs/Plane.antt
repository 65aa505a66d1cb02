-- The planar theorems in the form used here: a plane map has one face at 0 in each part, that of its outer dart or the lowest, and a circulation has one
-- potential with these at 0.
use mathlib.Core.Path.{◌≡◌, refl, sym, ◌∙◌, ap, subst}
use mathlib.Core.Logic.{◌⊎◌, inl, inr, ◌≢◌}
use mathlib.Core.Bool.{false≢true}
use Prim.Native.Nat.{ℕ, ◌≤◌, ◌<◌}
use native.Mathlib.Omega.{arith}
use native.Mathlib.Decide.{ℕ_discrete, dec_lt}
use lib.Dec.{eqb}
use lib.IntN.{ℤ, pos}
use Rattle.integers.proofs.Tests.{eqb_true, eqb_eq}
use Rattle.maps.specs.Map.{Map, darts}
use Rattle.maps.specs.Face.{faces, left}
use Rattle.maps.specs.Walk.{Walk, Connected, Components}
use Rattle.maps.specs.Check.{Sound}
use Rattle.maps.specs.Flow.{Circulation}
use Rattle.maps.specs.Potential.{Potentials, Roots}
use Rattle.maps.proofs.Faces.{part_left}
use Rattle.maps.proofs.Lowest.{First, first_place, lowest_face}
use Rattle.maps.proofs.Planar.{rooted_potentials, potentials_unique}
use Rattle.flows.specs.inner.Plane.{Plane}
use Rattle.flows.specs.ZeroFace.{LowestElsewhere, ZeroFace}

-- ── the zero faces are one to a part, however the parts are numbered ──
module _ {𝓜 : Map} (σ : Sound 𝓜) {k : ℕ} {part : ℕ → ℕ} (κ : Components 𝓜 k part) (outer : ℕ) (outer_in : outer < darts 𝓜) where
  abbrev part_at : ℕ → ℕ
  part_at d = part (𝓜.tail d)

  -- a dart of each part
  part_dart : (c : ℕ) → c < k → (d : ℕ) × (d < darts 𝓜) × (part (𝓜.tail d) ≡ c)
  part_dart c l = let v = κ.used c l in let d = σ.has_dart v.0 v.1 in (d.0, d.1, ap part d.2 ∙ v.2)

  -- its lowest dart
  lowest_dart : (c : ℕ) → c < k → First (darts 𝓜) (λ d. eqb c (part (𝓜.tail d)))
  lowest_dart c l =
      let r = part_dart c l in first_place (darts 𝓜) (λ d. eqb c (part (𝓜.tail d))) r.0 r.1 (eqb_true c (part (𝓜.tail r.0)) (sym r.2))

  walk_of : (c d : ℕ) → c < darts 𝓜 → d < darts 𝓜 → part (𝓜.tail c) ≡ part (𝓜.tail d) → Walk 𝓜 (𝓜.tail c) (𝓜.tail d)
  walk_of c d lc ld = κ.joined (𝓜.tail c) (𝓜.tail d) (σ.range.tail_in c lc) (σ.range.tail_in d ld)

  of_walk : (c d : ℕ) → c < darts 𝓜 → d < darts 𝓜 → Walk 𝓜 (𝓜.tail c) (𝓜.tail d) → part (𝓜.tail c) ≡ part (𝓜.tail d)
  of_walk c d lc ld = κ.agree (𝓜.tail c) (𝓜.tail d) (σ.range.tail_in c lc) (σ.range.tail_in d ld)

  -- the lowest dart of a part that the outer dart is not in lies on a zero face
  pub lowest_elsewhere : (d : ℕ) → d < darts 𝓜 → part (𝓜.tail d) ≢ part (𝓜.tail outer)
      → ((e : ℕ) → e < darts 𝓜 → part (𝓜.tail e) ≡ part (𝓜.tail d) → d ≤ e) → LowestElsewhere 𝓜 outer (left 𝓜 d)
  lowest_elsewhere d l other least = record {
    dart = d;
    dart_in = l;
    holds = refl;
    elsewhere = λ w. other (of_walk d outer l outer_in w);
    lowest = λ e m w. lowest_face σ κ d least e m (sym (of_walk d e l m w));
  }

  -- the zero face of each part
  abbrev Zero : ℕ → Type 0
  Zero c = (d : ℕ) × (d < darts 𝓜) × (part (𝓜.tail d) ≡ c) × ZeroFace 𝓜 outer (left 𝓜 d)

  pub zero_dart : (c : ℕ) → c < k → Zero c
  zero_dart c l = go (ℕ_discrete c (part (𝓜.tail outer)))
    where
      low : First (darts 𝓜) (λ d. eqb c (part (𝓜.tail d)))
      low = lowest_dart c l

      is_c : c ≡ part (𝓜.tail (lowest_dart c l).0)
      is_c = eqb_eq c (part (𝓜.tail (lowest_dart c l).0)) (lowest_dart c l).2

      least : (e : ℕ) → e < darts 𝓜 → part (𝓜.tail e) ≡ part (𝓜.tail (lowest_dart c l).0) → (lowest_dart c l).0 ≤ e
      least e m same = by (dec_lt e (lowest_dart c l).0)
        where
          by : Dec (e < (lowest_dart c l).0) → (lowest_dart c l).0 ≤ e
          by (yes h) = absurd (false≢true (sym ((lowest_dart c l).3 e h) ∙ eqb_true c (part (𝓜.tail e)) (is_c ∙ sym same)))
          by (no h) = omega (arith, h)

      go : Dec (c ≡ part (𝓜.tail outer)) → Zero c
      go (yes e) = (outer, outer_in, sym e, inl refl)
      go (no h) = (low.0, low.1, sym is_c, inr (lowest_elsewhere low.0 low.1 (λ e. h (is_c ∙ e)) least))

  -- and there is no other: two zero faces of one part are one
  pub zero_one : (c d : ℕ) → c < darts 𝓜 → d < darts 𝓜 → part (𝓜.tail c) ≡ part (𝓜.tail d)
      → ZeroFace 𝓜 outer (left 𝓜 c) → ZeroFace 𝓜 outer (left 𝓜 d) → left 𝓜 c ≡ left 𝓜 d
  zero_one c d lc ld same z y = go (place c lc z) (place d ld y)
    where
      -- where a zero face is: the outer dart's, or the lowest of the part
      At : ℕ → Type 0
      At d = ((left 𝓜 d ≡ left 𝓜 outer) × (part (𝓜.tail d) ≡ part (𝓜.tail outer)))
          ⊎ ((part (𝓜.tail d) ≢ part (𝓜.tail outer)) × ((e : ℕ) → e < darts 𝓜 → part (𝓜.tail d) ≡ part (𝓜.tail e) → left 𝓜 d ≤ left 𝓜 e))

      place : (d : ℕ) → d < darts 𝓜 → ZeroFace 𝓜 outer (left 𝓜 d) → At d
      place d l (inl e) = inl (e, part_left σ κ d outer l outer_in e)
      place d l (inr r) = inr (
        (λ e. r.elsewhere (walk_of r.dart outer r.dart_in outer_in (own ∙ e))),
        (λ e m q. r.lowest e m (walk_of r.dart e r.dart_in m (own ∙ q))),
      )
        where
          own : part (𝓜.tail r.dart) ≡ part (𝓜.tail d)
          own = part_left σ κ r.dart d r.dart_in l r.holds

      go : At c → At d → left 𝓜 c ≡ left 𝓜 d
      go (inl a) (inl b) = a.0 ∙ sym b.0
      go (inl a) (inr b) = absurd (b.0 (sym same ∙ a.1))
      go (inr a) (inl b) = absurd (a.0 (same ∙ b.1))
      go (inr a) (inr b) = omega (arith, a.1 d ld same, b.1 c lc (sym same))

-- in a connected map there is one
pub zero_connected : {𝓜 : Map} → Sound 𝓜 → Connected 𝓜 → (outer : ℕ) → outer < darts 𝓜 → (f : ℕ) → ZeroFace 𝓜 outer f → f ≡ left 𝓜 outer
zero_connected σ con outer l f (inl e) = e
zero_connected {𝓜} σ con outer l f (inr r) =
    absurd (r.elsewhere (con (𝓜.tail r.dart) (𝓜.tail outer) (σ.range.tail_in r.dart r.dart_in) (σ.range.tail_in outer l)))

-- ── potentials ──
-- one number to each place below k
pick : (k : ℕ) (P : ℕ → ℕ → Type 0) → ((c : ℕ) → c < k → (x : ℕ) × P c x) → (c : ℕ) → Dec (c < k) → ℕ
pick k P h c (yes l) = (h c l).0
pick k P h c (no l) = 0

pick_is : (k : ℕ) (P : ℕ → ℕ → Type 0) (h : (c : ℕ) → c < k → (x : ℕ) × P c x) (c : ℕ) (q : Dec (c < k)) → c < k → P c (pick k P h c q)
unfolding pick
pick_is k P h c (yes l) m = (h c l).1
pick_is k P h c (no l) m = absurd (l m)

choose : (k : ℕ) (P : ℕ → ℕ → Type 0) → ((c : ℕ) → c < k → (x : ℕ) × P c x) → (f : ℕ → ℕ) × ((c : ℕ) → c < k → P c (f c))
choose k P h = ((λ c. pick k P h c (dec_lt c k)), λ c m. pick_is k P h c (dec_lt c k) m)

module _ {𝓜 : Map} (p : Plane 𝓜) (outer : ℕ) (l : outer < darts 𝓜) where
  abbrev κ : Components 𝓜 p.flat.parts p.flat.part
  κ = p.flat.components

  Root : ℕ → ℕ → Type 0
  Root c f = ZeroFace 𝓜 outer f × ((d : ℕ) × (d < darts 𝓜) × (left 𝓜 d ≡ f) × (p.flat.part (𝓜.tail d) ≡ c))

  -- the zero face of a part, by its number
  chosen : (f : ℕ → ℕ) × ((c : ℕ) → c < p.flat.parts → Root c (f c))
  unfolding Root
  chosen = choose p.flat.parts Root (λ c m. let z = zero_dart p.sound κ outer l c m in (left 𝓜 z.0, (z.3, (z.0, z.1, refl, z.2))))

  roots : Roots 𝓜 p.flat.parts p.flat.part chosen.0
  unfolding Root
  roots = record { of = λ c m. (chosen.1 c m).1 }

  -- each zero face is one of these
  zero_root : (f : ℕ) → ZeroFace 𝓜 outer f → (c : ℕ) × (c < p.flat.parts) × (f ≡ chosen.0 c)
  unfolding Root
  zero_root f z =
      let d = holder z in
      let c = p.flat.part (𝓜.tail d.0) in
      let m : p.flat.part (𝓜.tail d.0) < p.flat.parts = κ.below (𝓜.tail d.0) (p.sound.range.tail_in d.0 d.1) in
      let r = chosen.1 c m in (
        c,
        m,
        sym d.2
            ∙ zero_one p.sound κ outer l d.0 r.1.0 d.1 r.1.1 (sym r.1.3) (subst (ZeroFace 𝓜 outer) (sym d.2) z)
            (subst (ZeroFace 𝓜 outer) (sym r.1.2) r.0)
            ∙ r.1.2,
      )
    where
      holder : ZeroFace 𝓜 outer f → (d : ℕ) × (d < darts 𝓜) × (left 𝓜 d ≡ f)
      holder (inl e) = (outer, l, sym e)
      holder (inr r) = (r.dart, r.dart_in, r.holds)

  pub potentials_at : (φ : ℕ → ℤ) → Circulation 𝓜 φ → (ρ : ℕ → ℤ) × Potentials 𝓜 φ ρ × ((f : ℕ) → ZeroFace 𝓜 outer f → ρ f ≡ pos 0)
  potentials_at φ c =
      let r = rooted_potentials p.sound κ p.flat.in-each roots φ c in
      (r.0, r.1, λ f z. let q = zero_root f z in ap r.0 q.2 ∙ r.2 q.0 q.1)

  pub potentials_one : (φ ρ τ : ℕ → ℤ) → Potentials 𝓜 φ ρ → Potentials 𝓜 φ τ
      → ((f : ℕ) → ZeroFace 𝓜 outer f → ρ f ≡ pos 0) → ((f : ℕ) → ZeroFace 𝓜 outer f → τ f ≡ pos 0) → (f : ℕ) → f < faces 𝓜 → ρ f ≡ τ f
  unfolding Root
  potentials_one φ ρ τ h g zρ zτ =
      potentials_unique p.sound κ roots φ ρ τ h g (λ c m. zρ (chosen.0 c) (chosen.1 c m).0) (λ c m. zτ (chosen.0 c) (chosen.1 c m).0)
