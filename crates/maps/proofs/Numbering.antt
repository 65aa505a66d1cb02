-- The numbers of orbits: what `orbit_of` and `orbits` say is the one numbering from 0 in order of the lowest members.
use mathlib.Core.Path.{◌≡◌, sym, ◌∙◌, ap}
use mathlib.Core.Bool.{true}
use Prim.Native.Nat.{ℕ, zero, suc, ◌≤◌, ◌<◌}
use native.Mathlib.Omega.{arith}
use native.Mathlib.Decide.{ℕ_discrete, dec_lt}
use Rattle.integers.specs.Sum.{count}
use Rattle.integers.proofs.Tests.{eqb_true, eqb_eq}
use Rattle.integers.proofs.Counting.{count_lt, count_reach}
use Rattle.maps.specs.Orbit.{Orbit, lowest, is_lowest, orbits, orbit_of, Permutes}
use Rattle.maps.proofs.Orbits.{lowest_orbit, lowest_below, lowest_same, orbit_sym, orbit_trans}

-- the orbits of 0, .., n - 1 are numbered from 0 in order of their lowest members, as a relation: what a loop that numbers them shows
pub record Numbered (n : ℕ) (next number : ℕ → ℕ) (k : ℕ) : Type 0 where
  pub below : (d : ℕ) → d < n → number d < k
  pub same : (c d : ℕ) → c < n → d < n → number c ≡ number d → Orbit next c d
  pub along : (c d : ℕ) → c < n → Orbit next c d → number c ≡ number d
  pub first : (f : ℕ) → f < k → (d : ℕ) × (d < n) × (number d ≡ f) × ((c : ℕ) → c < d → number c < f)

module _ {n : ℕ} {next : ℕ → ℕ} (π : Permutes n next) where
  lowest_of_orbit : (d : ℕ) → d < n → is_lowest n next (lowest next n d) ≡ true
  unfolding is_lowest
  lowest_of_orbit d l = eqb_true (lowest next n (lowest next n d)) (lowest next n d) (sym (lowest_same π d (lowest next n d) l (lowest_orbit π d)))

  low_in : (d : ℕ) → d < n → lowest next n d < n
  low_in d l = omega (arith, lowest_below π d)

  pub orbit_of_below : (d : ℕ) → d < n → orbit_of n next d < orbits n next
  unfolding orbit_of orbits
  orbit_of_below d l = count_lt (lowest next n d) n (is_lowest n next) (low_in d l) (lowest_of_orbit d l)

  pub orbit_of_along : (c d : ℕ) → c < n → Orbit next c d → orbit_of n next c ≡ orbit_of n next d
  unfolding orbit_of
  orbit_of_along c d l o = ap (λ m. count m (is_lowest n next)) (lowest_same π c d l o)

  pub orbit_of_same : (c d : ℕ) → c < n → d < n → orbit_of n next c ≡ orbit_of n next d → Orbit next c d
  unfolding orbit_of
  orbit_of_same c d lc ld e = go (dec_lt (lowest next n c) (lowest next n d)) (dec_lt (lowest next n d) (lowest next n c))
    where
      less : (a b : ℕ) → a < n → lowest next n a < lowest next n b → count (lowest next n a) (is_lowest n next) < count (lowest next n b) (is_lowest n next)
      less a b l h = count_lt (lowest next n a) (lowest next n b) (is_lowest n next) h (lowest_of_orbit a l)

      go : Dec (lowest next n c < lowest next n d) → Dec (lowest next n d < lowest next n c) → Orbit next c d
      go (yes h) q = absurd (omega (arith, less c d lc h))
      go (no h) (yes q) = absurd (omega (arith, less d c ld q))
      go (no h) (no q) = orbit_trans π c (lowest next n c) d (lowest_orbit π c) (rw (← low) at (orbit_sym π d (lowest next n d) ld (lowest_orbit π d)))
        where
          low : lowest next n c ≡ lowest next n d
          low = omega arith

  -- every number below the count is that of a lowest member, and every lower place has a lower number
  pub orbit_of_first : (f : ℕ) → f < orbits n next → (d : ℕ) × (d < n) × (orbit_of n next d ≡ f) × ((c : ℕ) → c < d → orbit_of n next c < f)
  unfolding orbit_of orbits is_lowest
  orbit_of_first f l = go (count_reach n f (is_lowest n next) l)
    where
      go : (i : ℕ) × (i < n) × (is_lowest n next i ≡ true) × (count i (is_lowest n next) ≡ f)
          → (d : ℕ) × (d < n) × (orbit_of n next d ≡ f) × ((c : ℕ) → c < d → orbit_of n next c < f)
      go q = (q.0, q.1, ap (λ m. count m (is_lowest n next)) (eqb_eq (lowest next n q.0) q.0 q.2) ∙ q.3, before)
        where
          before : (c : ℕ) → c < q.0 → orbit_of n next c < f
          before c m =
              rw (← q.3)
              (count_lt (lowest next n c) q.0 (is_lowest n next) (omega (arith, lowest_below π c)) (lowest_of_orbit c (omega (arith, q.1))))

  pub orbits_numbered : Numbered n next (orbit_of n next) (orbits n next)
  orbits_numbered = record { below = orbit_of_below; same = orbit_of_same; along = orbit_of_along; first = orbit_of_first }

-- ── there is one such numbering ──
module _ {n : ℕ} {next : ℕ → ℕ} where
  -- where a and b agree below d, and d is the first of its orbit, b d is not above a d
  not_above : {a b : ℕ → ℕ} {k m : ℕ} → Numbered n next a k → Numbered n next b m → (d : ℕ)
      → d < n → ((c : ℕ) → c < d → a c ≡ b c) → ((c : ℕ) → c < d → a c < a d) → a d < b d → ⊥
  not_above {a} {b} α β d l ih low h = go (β.first (a d) (omega (arith, β.below d l)))
    where
      go : ((x : ℕ) × (x < n) × (b x ≡ a d) × ((c : ℕ) → c < x → b c < a d)) → ⊥
      go r = cs (dec_lt r.0 d) (dec_lt d r.0)
        where
          cs : Dec (r.0 < d) → Dec (d < r.0) → ⊥
          cs (yes p) q = omega (arith, ih r.0 p, low r.0 p, r.2)
          cs (no p) (yes q) = omega (arith, r.3 d q)
          cs (no p) (no q) = let e : r.0 ≡ d = omega (arith, p, q) in omega (arith, ap b e, r.2)

  module _ {a b : ℕ → ℕ} {k m : ℕ} (α : Numbered n next a k) (β : Numbered n next b m) where
    agree_at : (d : ℕ) → d < n → ((c : ℕ) → c < d → a c ≡ b c) → a d ≡ b d
    agree_at d l ih = go (α.first (a d) (α.below d l)) (β.first (b d) (β.below d l))
      where
        go : ((x : ℕ) × (x < n) × (a x ≡ a d) × ((c : ℕ) → c < x → a c < a d)) → ((y : ℕ) × (y < n) × (b y ≡ b d) × ((c : ℕ) → c < y → b c < b d)) → a d ≡ b d
        go r s = cs (dec_lt r.0 d) (dec_lt s.0 d)
          where
            cs : Dec (r.0 < d) → Dec (s.0 < d) → a d ≡ b d
            cs (yes p) q = sym r.2 ∙ ih r.0 p ∙ β.along r.0 d r.1 (α.same r.0 d r.1 l r.2)
            cs (no p) (yes q) = sym (α.along s.0 d s.1 (β.same s.0 d s.1 l s.2)) ∙ ih s.0 q ∙ s.2
            cs (no p) (no q) = fin (dec_lt (a d) (b d)) (dec_lt (b d) (a d))
              where
                fin : Dec (a d < b d) → Dec (b d < a d) → a d ≡ b d
                fin (yes u) v = absurd (not_above α β d l ih (λ c w. r.3 c (omega (arith, p))) u)
                fin (no u) (yes v) = absurd (not_above β α d l (λ c w. sym (ih c w)) (λ c w. s.3 c (omega (arith, q))) v)
                fin (no u) (no v) = omega (arith, u, v)

    agree_below : (d : ℕ) → d ≤ n → (c : ℕ) → c < d → a c ≡ b c
    agree_below zero l c u = absurd (omega arith)
    agree_below (suc d) l c u = cs (ℕ_discrete c d) (agree_below d (omega arith))
      where
        cs : Dec (c ≡ d) → ((c : ℕ) → c < d → a c ≡ b c) → a c ≡ b c
        cs (yes p) ih = rw p (agree_at d l ih)
        cs (no p) ih = ih c (omega (arith, p))

    pub one_numbering : (d : ℕ) → d < n → a d ≡ b d
    one_numbering d l = agree_below n (omega arith) d l

    at_most : k ≤ m
    at_most = cs (dec_lt m k)
      where
        cs : Dec (m < k) → k ≤ m
        cs (yes p) = let r = α.first m p in absurd (omega (arith, one_numbering r.0 r.1, β.below r.0 r.1, r.2))
        cs (no p) = omega (arith, p)

  pub one_count : {a b : ℕ → ℕ} {k m : ℕ} → Numbered n next a k → Numbered n next b m → k ≡ m
  one_count α β = let x = at_most α β in let y = at_most β α in omega arith
