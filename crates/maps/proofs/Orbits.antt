-- Orbits of an injective step on 0..n-1: they close, n steps go round, they are decided, and the lowest member is one for the whole orbit.
use mathlib.Core.Path.{◌≡◌, refl, sym, ◌∙◌, ap}
use mathlib.Core.Logic.{◌⊎◌, inl, inr, ◌≢◌}
use Prim.Native.Nat.{ℕ, zero, suc, ◌+◌, ◌-◌, ◌≤◌, ◌<◌, min}
use native.Mathlib.Omega.{arith}
use native.Mathlib.Decide.{dec_lt, dec_le}
use Rattle.integers.proofs.Pigeonhole.{seek, Twice, pigeonhole}
use Rattle.maps.specs.Orbit.{iter, Orbit, lowest, Permutes}

pub iter_zero : (next : ℕ → ℕ) (d : ℕ) → iter next 0 d ≡ d
unfolding iter
iter_zero next d = refl

pub iter_suc : (next : ℕ → ℕ) (j d : ℕ) → iter next (suc j) d ≡ next (iter next j d)
unfolding iter
iter_suc next j d = refl

pub iter_add : (next : ℕ → ℕ) (i j d : ℕ) → iter next (i + j) d ≡ iter next i (iter next j d)
unfolding iter
iter_add next zero j d = ap (λ m. iter next m d) e
  where
    e : 0 + j ≡ j
    e = omega arith
iter_add next (suc i) j d = ap (λ m. iter next m d) e ∙ ap next (iter_add next i j d)
  where
    e : suc i + j ≡ suc (i + j)
    e = omega arith

-- what a step keeps, its orbits keep
pub iter_keeps : {A : Type 0} (n : ℕ) (next : ℕ → ℕ) → ((d : ℕ) → d < n → next d < n) → (q : ℕ → A) → ((d : ℕ) → d < n → q (next d) ≡ q d)
    → (j d : ℕ) → d < n → q (iter next j d) ≡ q d
iter_keeps n next stays q h zero d l = ap q (iter_zero next d)
iter_keeps n next stays q h (suc j) d l = ap q (iter_suc next j d) ∙ h (iter next j d) (go j d l) ∙ iter_keeps n next stays q h j d l
  where
    go : (j d : ℕ) → d < n → iter next j d < n
    go zero d l = rw (iter_zero next d) l
    go (suc j) d l = rw (iter_suc next j d) (stays (iter next j d) (go j d l))

module _ {n : ℕ} {next : ℕ → ℕ} (π : Permutes n next) where
  pub iter_in : (j d : ℕ) → d < n → iter next j d < n
  iter_in zero d l = rw (iter_zero next d) l
  iter_in (suc j) d l = rw (iter_suc next j d) (π.stays (iter next j d) (iter_in j d l))

  iter_cancel : (j c d : ℕ) → c < n → d < n → iter next j c ≡ iter next j d → c ≡ d
  iter_cancel zero c d lc ld e = sym (iter_zero next c) ∙ e ∙ iter_zero next d
  iter_cancel (suc j) c d lc ld e =
      iter_cancel j c d lc ld (π.apart (iter next j c) (iter next j d) (iter_in j c lc) (iter_in j d ld) (sym (iter_suc next j c) ∙ e ∙ iter_suc next j d))

  -- the orbit closes within n steps
  pub closes : (d : ℕ) → d < n → (p : ℕ) × (0 < p) × (p ≤ n) × (iter next p d ≡ d)
  closes d l = go (pigeonhole n (λ i. iter next i d) (λ i m. iter_in i d l))
    where
      go : Twice (λ i. iter next i d) n → (p : ℕ) × (0 < p) × (p ≤ n) × (iter next p d ≡ d)
      go t = (
        t.1 - t.0,
        omega (arith, t.2),
        omega (arith, t.3),
        iter_cancel t.0 (iter next (t.1 - t.0) d) d (iter_in (t.1 - t.0) d l) l
            (sym (iter_add next t.0 (t.1 - t.0) d) ∙ ap (λ m. iter next m d) back ∙ sym t.4),
      )
        where
          back : t.0 + (t.1 - t.0) ≡ t.1
          back = omega (arith, t.2)

  -- any place of the orbit is met in fewer than n steps
  pub soon : (c d : ℕ) → c < n → Orbit next c d → (j : ℕ) × (j < n) × (iter next j c ≡ d)
  soon c d l o = go o.0 o.0 (omega arith) o.1
    where
      r : (p : ℕ) × (0 < p) × (p ≤ n) × (iter next p c ≡ c)
      r = closes c l

      go : (fuel j : ℕ) → j ≤ fuel → iter next j c ≡ d → (i : ℕ) × (i < n) × (iter next i c ≡ d)
      go zero j m e = (j, omega (arith, r.1, r.2), e)
      go (suc fuel) j m e = cs (dec_lt j r.0) (go fuel (j - r.0))
        where
          cs : Dec (j < r.0) → (j - r.0 ≤ fuel → iter next (j - r.0) c ≡ d → (i : ℕ) × (i < n) × (iter next i c ≡ d))
              → (i : ℕ) × (i < n) × (iter next i c ≡ d)
          cs (yes s) ih = (j, omega (arith, r.2), e)
          cs (no s) ih =
              ih (omega (arith, r.1)) (ap (iter next (j - r.0)) (sym r.3) ∙ sym (iter_add next (j - r.0) r.0 c) ∙ ap (λ m. iter next m c) back ∙ e)
            where
              back : (j - r.0) + r.0 ≡ j
              back = omega (arith, s)

  pub orbit_in : (c d : ℕ) → c < n → Orbit next c d → d < n
  orbit_in c d l o = rw (← o.1) (iter_in o.0 c l)

  pub orbit_refl : (c : ℕ) → Orbit next c c
  orbit_refl c = (0, iter_zero next c)

  pub orbit_trans : (b c d : ℕ) → Orbit next b c → Orbit next c d → Orbit next b d
  orbit_trans b c d o p = (p.0 + o.0, iter_add next p.0 o.0 b ∙ ap (iter next p.0) o.1 ∙ p.1)

  -- the orbit of next c comes round to c; so, a step at a time, does that of any place met from c
  pub orbit_sym : (c d : ℕ) → c < n → Orbit next c d → Orbit next d c
  orbit_sym c d l o = rw o.1 at (back o.0)
    where
      one : (b : ℕ) → b < n → Orbit next (next b) b
      one b m = let r = closes b m in (r.0 - 1, go r.0 r.1 r.3)
        where
          front : (p : ℕ) → iter next p (next b) ≡ iter next (suc p) b
          front zero = iter_zero next (next b) ∙ ap next (sym (iter_zero next b)) ∙ sym (iter_suc next 0 b)
          front (suc p) = iter_suc next p (next b) ∙ ap next (front p) ∙ sym (iter_suc next (suc p) b)

          go : (p : ℕ) → 0 < p → iter next p b ≡ b → iter next (p - 1) (next b) ≡ b
          go zero h e = absurd (omega arith)
          go (suc p) h e = ap (λ i. iter next i (next b)) less ∙ front p ∙ e
            where
              less : suc p - 1 ≡ p
              less = omega arith

      back : (j : ℕ) → Orbit next (iter next j c) c
      back zero = (0, iter_zero next (iter next 0 c) ∙ iter_zero next c)
      back (suc j) = orbit_trans (iter next (suc j) c) (iter next j c) c (rw (← iter_suc next j c) at (one (iter next j c) (iter_in j c l))) (back j)

  pub orbit_decided : (c d : ℕ) → c < n → Dec (Orbit next c d)
  orbit_decided c d l = go (seek (λ j. iter next j c) d n)
    where
      go : ((i : ℕ) × (i < n) × (iter next i c ≡ d)) ⊎ ((i : ℕ) → i < n → iter next i c ≢ d) → Dec (Orbit next c d)
      go (inl s) = yes (s.0, s.2)
      go (inr h) = no (λ o. let s = soon c d l o in h s.0 s.1 s.2)

  -- ── the lowest member ──
  lowest_le : (m j d : ℕ) → j ≤ m → lowest next m d ≤ iter next j d
  unfolding lowest
  lowest_le zero j d l = rw zero_steps (rw (iter_zero next d) (omega arith))
    where
      zero_steps : j ≡ 0
      zero_steps = omega arith
  lowest_le (suc m) j d l = go (dec_le j m) (lowest_le m j d)
    where
      go : Dec (j ≤ m) → (j ≤ m → lowest next m d ≤ iter next j d) → min (lowest next m d) (iter next (suc m) d) ≤ iter next j d
      go (yes h) ih = omega (arith, ih h)
      go (no h) ih = rw top (omega arith)
        where
          top : j ≡ suc m
          top = omega arith

  lowest_met : (m d : ℕ) → Orbit next d (lowest next m d)
  unfolding lowest
  lowest_met zero d = orbit_refl d
  lowest_met (suc m) d = go (dec_le (lowest next m d) (iter next (suc m) d)) (lowest_met m d)
    where
      go : Dec (lowest next m d ≤ iter next (suc m) d) → Orbit next d (lowest next m d) → Orbit next d (min (lowest next m d) (iter next (suc m) d))
      go (yes h) o = rw is o
        where
          is : min (lowest next m d) (iter next (suc m) d) ≡ lowest next m d
          is = omega arith
      go (no h) o = rw is (suc m, refl)
        where
          is : min (lowest next m d) (iter next (suc m) d) ≡ iter next (suc m) d
          is = omega arith

  pub lowest_orbit : (d : ℕ) → Orbit next d (lowest next n d)
  lowest_orbit = lowest_met n

  pub lowest_least : (c d : ℕ) → c < n → Orbit next c d → lowest next n c ≤ d
  lowest_least c d l o = let s = soon c d l o in rw (← s.2) (lowest_le n s.0 c (omega (arith, s.1)))

  pub lowest_below : (d : ℕ) → lowest next n d ≤ d
  lowest_below d = rw (iter_zero next d) at (lowest_le n 0 d (omega arith))

  pub lowest_same : (c d : ℕ) → c < n → Orbit next c d → lowest next n c ≡ lowest next n d
  lowest_same c d l o =
      omega (
        arith,
        lowest_least c (lowest next n d) l (orbit_trans c d (lowest next n d) o (lowest_orbit d)),
        lowest_least d (lowest next n c) (orbit_in c d l o) (orbit_trans d c (lowest next n c) (orbit_sym c d l o) (lowest_orbit c)),
      )
