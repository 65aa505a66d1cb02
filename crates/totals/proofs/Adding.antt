-- What is added along the round of a node's darts: so many of them from `start` on, and at the end the node's subtotal.
use mathlib.Core.Path.{◌≡◌, sym, ◌∙◌, ap, ap₂}
use mathlib.Core.Logic.{◌≢◌}
use mathlib.Core.Bool.{Bool, true, not}
use Prim.Native.Nat.{ℕ, suc, ◌-◌, ◌*◌, ◌≤◌, ◌<◌}
use native.Mathlib.Omega.{arith}
use native.Mathlib.Decide.{ℕ_discrete}
use lib.Dec.{eqb}
use lib.IntN.{ℤ, ◌+ℤ◌, +ℤ_idl}
use mir.Syntax.{w32}
use mir.Val.{SFits}
use Rattle.integers.specs.Sum.{Integers, sumℤ}
use Rattle.integers.specs.inner.Limited.{Limited}
use Rattle.integers.proofs.Tests.{eqb_true, eqb_eq}
use Rattle.integers.proofs.Sums.{sum_zero, sum_suc}
use Rattle.integers.proofs.Limits.{limited_when, limited_sum}
use Rattle.signed.proofs.Limits.{limited_fits}
use Rattle.maps.specs.Orbit.{iter, Permutes}
use Rattle.maps.specs.Map.{Map, darts, head}
use Rattle.maps.specs.Check.{Sound}
use Rattle.maps.proofs.Orbits.{iter_zero, iter_suc, iter_in, iter_keeps}
use Rattle.arrays.specs.inner.Sizes.{most_on_sheet}
use Rattle.totals.specs.Subtotal.{subtotal}
use Rattle.totals.proofs.Rounds.{Round, round_of, ahead, ahead_is, round_sum}
use Rattle.totals.proofs.Cutting.{outward, subtotal_at}

-- the rotation of a sound map loses no dart
permutes : {𝓜 : Map} → Sound 𝓜 → Permutes (darts 𝓜) 𝓜.rotation
permutes σ = record { stays = σ.range.rotation_in; apart = σ.injective }

module _ (𝓜 : Map) (c : ℕ → ℤ) (S : ℕ → Bool) (start : ℕ) where
  abbrev place : ℕ → ℕ
  place i = iter 𝓜.rotation i start

  -- so many darts from `start` on are added, the next is d, and `start` is not met again before it
  pub record Turning (total : ℤ) (d : ℕ) : Type 0 where
    pub turns : ℕ
    pub some : 0 < turns
    pub before : (r : Round (darts 𝓜) 𝓜.rotation start) → turns ≤ r.size
    pub here : place turns ≡ d
    pub added : total ≡ sumℤ turns (λ i. outward 𝓜 c S (place i))

module _ {𝓜 : Map} (σ : Sound 𝓜) (c : ℕ → ℤ) (S : ℕ → Bool) {start : ℕ} (start_in : start < darts 𝓜) where
  π : Permutes (darts 𝓜) 𝓜.rotation
  π = permutes σ

  round : Round (darts 𝓜) 𝓜.rotation start
  round = round_of π start start_in

  pub set_off : {total : ℤ} {d : ℕ} → total ≡ outward 𝓜 c S start → d ≡ 𝓜.rotation start → Turning 𝓜 c S start total d
  set_off e h = record {
    turns = 1;
    some = omega arith;
    before = λ r. r.some;
    here = iter_suc 𝓜.rotation 0 start ∙ ap 𝓜.rotation (iter_zero 𝓜.rotation start) ∙ sym h;
    added = e
        ∙ ap (outward 𝓜 c S) (sym (iter_zero 𝓜.rotation start))
        ∙ sym (+ℤ_idl (outward 𝓜 c S (place 𝓜 c S start 0)))
        ∙ ap (λ z. z +ℤ outward 𝓜 c S (place 𝓜 c S start 0)) (sym (sum_zero Integers (λ i. outward 𝓜 c S (place 𝓜 c S start i))))
        ∙ sym (sum_suc Integers 0 (λ i. outward 𝓜 c S (place 𝓜 c S start i)));
  }

  module _ {total : ℤ} {d : ℕ} (τ : Turning 𝓜 c S start total d) where
    pub dart_in : d < darts 𝓜
    dart_in = rw τ.here at (iter_in π τ.turns start start_in)

    added_more : total +ℤ outward 𝓜 c S d ≡ sumℤ (suc τ.turns) (λ i. outward 𝓜 c S (place 𝓜 c S start i))
    added_more =
        ap₂ ◌+ℤ◌ τ.added (ap (outward 𝓜 c S) (sym τ.here)) ∙ sym (sum_suc Integers τ.turns (λ i. outward 𝓜 c S (place 𝓜 c S start i)))

    -- not back yet: the round goes on
    on : d ≢ start → (r : Round (darts 𝓜) 𝓜.rotation start) → τ.turns < r.size
    on ne r =
        let other : τ.turns ≡ r.size → ⊥ = λ e. ne (sym τ.here ∙ ap (place 𝓜 c S start) e ∙ r.back) in
        omega (arith, τ.before r, other)

    -- every sum on the way fits: 1,024 darts of at most 1,000,000
    pub more_fits : d ≢ start → 𝓜.edges ≤ 512 → ((i : ℕ) → i < darts 𝓜 → Limited most_on_sheet (c i)) → SFits w32 (total +ℤ outward 𝓜 c S d)
    more_fits ne few small =
        rw added_more
        (limited_fits (suc τ.turns * most_on_sheet) _ (omega (arith, on ne round, round.few, few))
        (limited_sum (suc τ.turns) most_on_sheet _
        (λ i l. limited_when (not (S (head 𝓜 (place 𝓜 c S start i)))) (small (place 𝓜 c S start i) (iter_in π i start start_in)))))

    module _ (ne : d ≢ start) {total' : ℤ} {d' : ℕ} (sum_is_lem : total' ≡ total +ℤ outward 𝓜 c S d) (next_is : d' ≡ 𝓜.rotation d) where
      next_here : place 𝓜 c S start (suc τ.turns) ≡ d'
      next_here = iter_suc 𝓜.rotation τ.turns start ∙ ap 𝓜.rotation τ.here ∙ sym next_is

      pub turn_on : Turning 𝓜 c S start total' d'
      turn_on = record { turns = suc τ.turns; some = omega arith; before = λ r. on ne r; here = next_here; added = sum_is_lem ∙ added_more }

      pub nearer : ahead 𝓜.rotation start (darts 𝓜) d' < ahead 𝓜.rotation start (darts 𝓜) d
      nearer = omega (arith, now, then, on ne round)
        where
          now : ahead 𝓜.rotation start (darts 𝓜) d ≡ round.size - τ.turns
          now =
              ap (ahead 𝓜.rotation start (darts 𝓜)) (sym τ.here)
              ∙ ahead_is round (darts 𝓜) τ.turns τ.some (τ.before round) (omega (arith, round.few))

          then : ahead 𝓜.rotation start (darts 𝓜) d' ≡ round.size - suc τ.turns
          then =
              ap (ahead 𝓜.rotation start (darts 𝓜)) (sym next_here)
              ∙ ahead_is round (darts 𝓜) (suc τ.turns) (omega arith) (on ne round) (omega (arith, round.few))

    -- back at `start` the node's darts are all added, each once
    pub turned : d ≡ start → total ≡ subtotal 𝓜 c S (𝓜.tail start)
    turned e =
        τ.added
        ∙ ap (λ k. sumℤ k (λ i. outward 𝓜 c S (place 𝓜 c S start i))) whole
        ∙ round_sum round π start_in (λ x. eqb (𝓜.tail start) (𝓜.tail x)) members others (outward 𝓜 c S)
        ∙ sym (subtotal_at 𝓜 c S (𝓜.tail start))
      where
        whole : τ.turns ≡ round.size
        whole = go (ℕ_discrete τ.turns round.size)
          where
            go : Dec (τ.turns ≡ round.size) → τ.turns ≡ round.size
            go (yes q) = q
            go (no q) = absurd (round.first τ.turns τ.some (omega (arith, τ.before round, q)) (τ.here ∙ e))

        members : (x : ℕ) → x < darts 𝓜 → eqb (𝓜.tail start) (𝓜.tail x) ≡ true → (j : ℕ) × (iter 𝓜.rotation j start ≡ x)
        members x l h = σ.one_round start x start_in l (eqb_eq (𝓜.tail start) (𝓜.tail x) h)

        others : (j : ℕ) → eqb (𝓜.tail start) (𝓜.tail (iter 𝓜.rotation j start)) ≡ true
        others j =
            eqb_true (𝓜.tail start) (𝓜.tail (iter 𝓜.rotation j start))
            (sym (iter_keeps (darts 𝓜) 𝓜.rotation σ.range.rotation_in 𝓜.tail σ.same_tail j start start_in))
