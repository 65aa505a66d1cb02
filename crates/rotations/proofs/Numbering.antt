-- Orbits numbered in order of their lowest members, by meeting each at its lowest: what is known when the places below d have been passed.
use mathlib.Core.Path.{◌≡◌, refl, sym, ◌∙◌, ap, subst}
use mathlib.Core.Logic.{◌≢◌}
use mathlib.Core.Bool.{Bool}
use Prim.Native.Nat.{ℕ, zero, suc, ◌+◌, ◌≤◌, ◌<◌}
use native.Mathlib.Omega.{arith}
use native.Mathlib.Decide.{ℕ_discrete, dec_lt}
use Rattle.integers.specs.Sum.{sum, count, bit}
use Rattle.integers.proofs.Tests.{eqb_true, eqb_false}
use Rattle.integers.proofs.Counting.{bit_le, sum_le_size}
use Rattle.maps.specs.Orbit.{Orbit, lowest, is_lowest, orbits, orbit_of, Permutes}
use Rattle.maps.proofs.Orbits.{lowest_orbit, lowest_below, lowest_same, orbit_sym, orbit_in, orbit_decided}
use Rattle.maps.proofs.Numbering.{orbit_of_below}
use Rattle.rotations.specs.inner.Marking.{Markable, Marked}
use Rattle.traversal.specs.inner.Mark.{unmarked}

count_le_size : (n : ℕ) (b : ℕ → Bool) → count n b ≤ n
count_le_size n b = sum_le_size n (λ i. bit (b i)) (λ i l. bit_le (b i))

count_next : (d : ℕ) (b : ℕ → Bool) → count (d + 1) b ≡ count d b + bit (b d)
unfolding sum
count_next d b = let q : d + 1 ≡ suc d = omega arith in ap (λ m. count m b) q

pub orbits_le : (n : ℕ) (next : ℕ → ℕ) → orbits n next ≤ n
unfolding orbits
orbits_le n next = count_le_size n (is_lowest n next)

-- the orbits with a lowest member below d have their numbers, the others none, and f is the next number
pub record Numbering (n : ℕ) (next label : ℕ → ℕ) (d f : ℕ) : Type 0 where
  pub upto : d ≤ n
  pub used : f ≡ count d (is_lowest n next)
  pub done : (y : ℕ) → y < n → lowest next n y < d → label y ≡ orbit_of n next y
  pub rest : (y : ℕ) → y < n → d ≤ lowest next n y → label y ≡ unmarked

module _ {n : ℕ} {next : ℕ → ℕ} (few : n ≤ 1024) (π : Permutes n next) where
  pub numbering_start : {label : ℕ → ℕ} → ((y : ℕ) → y < 1024 → label y ≡ unmarked) → Numbering n next label 0 0
  unfolding sum
  numbering_start h = record { upto = omega arith; used = refl; done = λ y l m. absurd (omega arith); rest = λ y l m. h y (omega arith) }

  pub number_small : (y : ℕ) → y < n → orbit_of n next y < 1024
  number_small y l = omega (arith, orbit_of_below π y l, orbits_le n next)

  lowest_counts : (d : ℕ) → lowest next n d ≡ d → count (d + 1) (is_lowest n next) ≡ count d (is_lowest n next) + 1
  unfolding is_lowest
  lowest_counts d e = count_next d (is_lowest n next) ∙ ap (λ t. count d (is_lowest n next) + bit t) (eqb_true (lowest next n d) d e)

  other_counts_not : (d : ℕ) → lowest next n d ≢ d → count (d + 1) (is_lowest n next) ≡ count d (is_lowest n next)
  unfolding is_lowest
  other_counts_not d h = omega (arith, count_next d (is_lowest n next), ap bit (eqb_false (lowest next n d) d h))

  module _ {label : ℕ → ℕ} {d f : ℕ} (ν : Numbering n next label d f) where
    pub used_few : f ≤ d
    used_few = omega (arith, ν.used, count_le_size d (is_lowest n next))

    pub numbering_end : d ≡ n → (f ≡ orbits n next) × ((y : ℕ) → y < n → label y ≡ orbit_of n next y)
    unfolding orbits
    numbering_end e = (ν.used ∙ ap (λ m. count m (is_lowest n next)) e, λ y l. ν.done y l (omega (arith, lowest_below π y)))

    module _ (l : d < n) where
      -- d has a number: its orbit was met before
      pub pass : label d ≢ unmarked → Numbering n next label (d + 1) f
      pass h = record {
        upto = omega arith;
        used = ν.used ∙ sym (other_counts_not d (λ e. h (ν.rest d l (omega (arith, e)))));
        done = λ y m k. ν.done y m (below y m k (ℕ_discrete (lowest next n y) d));
        rest = λ y m k. ν.rest y m (omega arith);
      }
        where
          below : (y : ℕ) → y < n → lowest next n y < d + 1 → Dec (lowest next n y ≡ d) → lowest next n y < d
          below y m k (no p) = omega (arith, p)
          below y m k (yes p) = absurd (h (ν.rest d l (omega (arith, p, lowest_same π y (lowest next n y) m (lowest_orbit π y), ap (lowest next n) p))))

      -- d has none: it is the lowest of its orbit, and no place of the orbit has a number
      module _ (h : label d ≡ unmarked) where
        pub is-lowest : lowest next n d ≡ d
        is-lowest = go (dec_lt (lowest next n d) d)
          where
            go : Dec (lowest next n d < d) → lowest next n d ≡ d
            go (yes p) = absurd (omega (arith, ν.done d l p, number_small d l, h))
            go (no p) = omega (arith, p, lowest_below π d)

        pub number_is : orbit_of n next d ≡ f
        unfolding orbit_of
        number_is = ap (λ m. count m (is_lowest n next)) is-lowest ∙ sym ν.used

        lowest_here : (y : ℕ) → Orbit next d y → lowest next n y ≡ d
        lowest_here y o = sym (lowest_same π d y l o) ∙ is-lowest

        pub markable : Markable n next label d f
        markable = record {
          few = few;
          permutes = π;
          inside = l;
          free = λ y o. ν.rest y (orbit_in π d y l o) (omega (arith, lowest_here y o));
          small = omega (arith, used_few);
        }

        module _ {after : ℕ → ℕ} (μ : Marked n next label after d f) where
          number_here : (y : ℕ) → Orbit next d y → after y ≡ orbit_of n next y
          unfolding orbit_of
          number_here y o = μ.on y o ∙ ν.used ∙ ap (λ m. count m (is_lowest n next)) (sym (lowest_here y o))

          -- the lowest of another orbit is another place
          elsewhere : (y : ℕ) → y < n → (Orbit next d y → ⊥) → lowest next n y ≢ d
          elsewhere y m far e = far (orbit_sym π y d m (rw e at (lowest_orbit π y)))

          pub mark : Numbering n next after (d + 1) (f + 1)
          mark = record {
            upto = omega arith;
            used = ap (λ m. m + 1) ν.used ∙ sym (lowest_counts d is-lowest);
            done = λ y m k. done' y m k (orbit_decided π d y l);
            rest = λ y m k. rest' y m k (orbit_decided π d y l);
          }
            where
              done' : (y : ℕ) → y < n → lowest next n y < d + 1 → Dec (Orbit next d y) → after y ≡ orbit_of n next y
              done' y m k (yes o) = number_here y o
              done' y m k (no far) = μ.off y m far ∙ ν.done y m (omega (arith, elsewhere y m far))

              rest' : (y : ℕ) → y < n → d + 1 ≤ lowest next n y → Dec (Orbit next d y) → after y ≡ unmarked
              rest' y m k (yes o) = absurd (omega (arith, lowest_here y o))
              rest' y m k (no far) = μ.off y m far ∙ ν.rest y m (omega arith)

  -- where every place has a number, those from d on are passed
  pub pass_all : {label : ℕ → ℕ} {f : ℕ} (k d : ℕ) → Numbering n next label d f → d + k ≡ n → ((y : ℕ) → y < n → label y ≢ unmarked)
      → Numbering n next label n f
  pass_all {label} {f} zero d ν e h = let q : d ≡ n = omega (arith, e) in subst (λ m. Numbering n next label m f) q ν
  pass_all (suc k) d ν e h = pass_all k (d + 1) (pass ν (omega (arith, e)) (h d (omega (arith, e)))) (omega (arith, e)) h
