-- The round of a step from `start`: it comes back for the first time after so many steps, its places until then are all different, and a sum along it is the
-- sum over its members.
use mathlib.Core.Path.{◌≡◌, refl, sym, ◌∙◌, ap}
use mathlib.Core.Logic.{◌≢◌, ◌⊎◌, inl, inr}
use mathlib.Core.Bool.{Bool, true, false, true≢false, cond}
use Prim.Native.Nat.{ℕ, zero, suc, ◌+◌, ◌-◌, ◌≤◌, ◌<◌}
use native.Mathlib.Omega.{arith}
use native.Mathlib.Decide.{dec_lt, ℕ_discrete}
use lib.Dec.{eqb}
use lib.IntN.{ℤ}
use Rattle.integers.specs.Sum.{Integers, sumℤ, when}
use Rattle.integers.proofs.Tests.{either, eqb_true, eqb_false}
use Rattle.integers.proofs.Sums.{sum_ext, sum_swap, sum_pick, sum_one, sum_nil}
use Rattle.maps.specs.Orbit.{iter, Orbit, Permutes}
use Rattle.maps.proofs.Orbits.{iter_zero, iter_suc, iter_add, iter_in, closes}

pub record Round (n : ℕ) (next : ℕ → ℕ) (start : ℕ) : Type 0 where
  pub size : ℕ
  pub some : 0 < size
  pub few : size ≤ n
  pub back : iter next size start ≡ start
  pub first : (k : ℕ) → 0 < k → k < size → iter next k start ≢ start

-- how many steps from x to `start`, looked for along n of them: the number of steps made is no variable of the code, so the measure is found from x
unfoldable pub ahead : (ℕ → ℕ) → ℕ → ℕ → ℕ → ℕ
ahead next start zero x = 0
ahead next start (suc n) x = cond (eqb x start) 0 (suc (ahead next start n (next x)))

-- every step that loses no place has a round: of the steps that come back there is a first
pub round_of : {n : ℕ} {next : ℕ → ℕ} → Permutes n next → (start : ℕ) → start < n → Round n next start
round_of {n} {next} π start l = let r = closes π start l in found (seek r.0) r.0 r.1 r.2 r.3
  where
    -- within m steps it comes back for the first time, or not at all
    Seen : ℕ → Type 0
    Seen m = ((p : ℕ) × (0 < p) × (p ≤ m) × (iter next p start ≡ start) × ((k : ℕ) → 0 < k → k < p → iter next k start ≢ start))
        ⊎ ((k : ℕ) → 0 < k → k ≤ m → iter next k start ≢ start)

    seek : (m : ℕ) → Seen m
    seek zero = inr (λ k a b. absurd (omega arith))
    seek (suc m) = go (seek m) (ℕ_discrete (iter next (suc m) start) start)
      where
        go : Seen m → Dec (iter next (suc m) start ≡ start) → Seen (suc m)
        go (inl s) e = inl (s.0, s.1, omega (arith, s.2), s.3, s.4)
        go (inr h) (yes e) = inl (suc m, omega arith, omega arith, e, λ k a b. h k a (omega arith))
        go (inr h) (no e) = inr (λ k a b. last k a b (ℕ_discrete k (suc m)))
          where
            last : (k : ℕ) → 0 < k → k ≤ suc m → Dec (k ≡ suc m) → iter next k start ≢ start
            last k a b (yes q) = λ r. e (ap (λ i. iter next i start) (sym q) ∙ r)
            last k a b (no q) = h k a (omega (arith, q))

    found : {p : ℕ} → Seen p → (m : ℕ) → 0 < p → p ≤ n → iter next p start ≡ start → Round n next start
    found (inl s) m a b e = record { size = s.0; some = s.1; few = omega (arith, s.2); back = s.3; first = s.4 }
    found {p} (inr h) m a b e = absurd (h p a (omega arith) e)

module _ {n : ℕ} {next : ℕ → ℕ} {start : ℕ} (r : Round n next start) where
  -- k steps on, what is left of the round is ahead
  pub ahead_is : (m k : ℕ) → 0 < k → k ≤ r.size → r.size ≤ m + k → ahead next start m (iter next k start) ≡ r.size - k
  unfolding ahead
  ahead_is zero k a b c = omega arith
  ahead_is (suc m) k a b c = go (ℕ_discrete k r.size) (ahead_is m (suc k))
    where
      x : ℕ
      x = iter next k start

      go : Dec (k ≡ r.size) → (0 < suc k → suc k ≤ r.size → r.size ≤ m + suc k → ahead next start m (iter next (suc k) start) ≡ r.size - suc k)
          → cond (eqb x start) 0 (suc (ahead next start m (next x))) ≡ r.size - k
      go (yes e) ih = rw (eqb_true x start (ap (λ i. iter next i start) e ∙ r.back)) (omega arith)
      go (no e) ih =
          rw (eqb_false x start (r.first k a (omega (arith, e))))
          (omega (arith, e, ap (ahead next start m) (iter_suc next k start), ih (omega arith) (omega (arith, e)) (omega arith)))

  -- whatever the number of steps, the place is one of the first round
  pub wrap : (i : ℕ) → (m : ℕ) × (m < r.size) × (iter next i start ≡ iter next m start)
  wrap zero = (0, r.some, refl)
  wrap (suc i) = go (wrap i)
    where
      go : ((m : ℕ) × (m < r.size) × (iter next i start ≡ iter next m start)) → (m : ℕ) × (m < r.size) × (iter next (suc i) start ≡ iter next m start)
      go w = on (ℕ_discrete (suc w.0) r.size)
        where
          stepped : iter next (suc i) start ≡ iter next (suc w.0) start
          stepped = iter_suc next i start ∙ ap next w.2 ∙ sym (iter_suc next w.0 start)

          on : Dec (suc w.0 ≡ r.size) → (m : ℕ) × (m < r.size) × (iter next (suc i) start ≡ iter next m start)
          on (yes e) = (0, r.some, stepped ∙ ap (λ k. iter next k start) e ∙ r.back ∙ sym (iter_zero next start))
          on (no e) = (suc w.0, omega (arith, w.1, e), stepped)

  -- two places of the way round are two: from equal places the rest of the way would lead back too soon
  apart : (i j : ℕ) → i < j → j < r.size → iter next i start ≢ iter next j start
  apart i j l m e = r.first (r.size - (j - i)) (omega arith) (omega arith) (sym early ∙ r.back)
    where
      from : (k : ℕ) → iter next (r.size - j) (iter next k start) ≡ iter next ((r.size - j) + k) start
      from k = sym (iter_add next (r.size - j) k start)

      early : iter next r.size start ≡ iter next (r.size - (j - i)) start
      early =
          let whole : r.size ≡ (r.size - j) + j = omega arith in
          let part : (r.size - j) + i ≡ r.size - (j - i) = omega arith in
          ap (λ k. iter next k start) whole ∙ sym (from j) ∙ ap (iter next (r.size - j)) (sym e) ∙ from i ∙ ap (λ k. iter next k start) part

  one_place : (i j : ℕ) → i < r.size → j < r.size → iter next i start ≡ iter next j start → i ≡ j
  one_place i j li lj e = go (dec_lt i j) (dec_lt j i)
    where
      go : Dec (i < j) → Dec (j < i) → i ≡ j
      go (yes l) q = absurd (apart i j l lj e)
      go (no l) (yes m) = absurd (apart j i m li (sym e))
      go (no l) (no m) = omega (arith, l, m)

  -- `b` tells the members of the orbit
  module _ (π : Permutes n next) (start_in : start < n) (b : ℕ → Bool)
      (members : (x : ℕ) → x < n → b x ≡ true → Orbit next start x) (others : (j : ℕ) → b (iter next j start) ≡ true) where
    pub round_sum : (f : ℕ → ℤ) → sumℤ r.size (λ j. f (iter next j start)) ≡ sumℤ n (λ x. when (b x) (f x))
    round_sum f =
        sum_ext Integers r.size (λ j. f (iter next j start)) (λ j. sumℤ n (λ x. when (eqb x (iter next j start)) (f x)))
        (λ j l. sym (sum_pick Integers n (iter next j start) f (iter_in π j start start_in)))
        ∙ sum_swap Integers r.size n (λ j x. when (eqb x (iter next j start)) (f x))
        ∙ sum_ext Integers n (λ x. sumℤ r.size (λ j. when (eqb x (iter next j start)) (f x))) (λ x. when (b x) (f x)) (λ x l. at x l (either (b x)))
      where
        at : (x : ℕ) → x < n → (b x ≡ true) ⊎ (b x ≡ false) → sumℤ r.size (λ j. when (eqb x (iter next j start)) (f x)) ≡ when (b x) (f x)
        at x l (inl h) =
            let o = members x l h in
            let w = wrap o.0 in
            let is : iter next w.0 start ≡ x = sym w.2 ∙ o.1 in
            sum_one Integers r.size w.0 (λ j. when (eqb x (iter next j start)) (f x)) w.1
            (λ i m c. rw (eqb_false x (iter next i start) (λ e. c (one_place i w.0 m w.1 (sym e ∙ sym is)))))
            ∙ rw (eqb_true x (iter next w.0 start) (sym is), h)
        at x l (inr h) =
            sum_nil Integers r.size (λ j. when (eqb x (iter next j start)) (f x))
            (λ i m. rw (eqb_false x (iter next i start) (λ e. true≢false (sym (others i) ∙ ap b (sym e) ∙ h))))
            ∙ rw h
