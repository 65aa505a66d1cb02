-- Thresholds tried upwards. A set of all nodes or of none has the cut 0, so a threshold with a cut below zero lies from the lowest height to the highest; the
-- loop of `choose_set` stays at or below it, and a threshold whose cut is not below zero is not it.
use mathlib.Core.Path.{◌≡◌, refl, sym, ◌∙◌, ap, ap₂}
use mathlib.Core.Logic.{◌⊎◌, inl, inr}
use mathlib.Core.Bool.{Bool, true, false, not, ◌&&◌, true≢false}
use Prim.Native.Nat.{ℕ, ◌<◌}
use native.Mathlib.Omega.{arith}
use lib.IntN.{ℤ, pos, neg_ℤ, ◌+ℤ◌, ◌-ℤ◌}
use lib.Signed.{◌≤ℤ◌, ◌<ℤ◌, lt_z, le_z, ≤ℤ_refl}
use Rattle.integers.specs.Sum.{Integers, when}
use Rattle.integers.specs.inner.Limited.{Limited}
use Rattle.integers.proofs.Omega.{atoms₂, atoms₃, parts, positive, positive_is, at_most, less, from_at_most, from_less}
use Rattle.integers.proofs.Laws.{le_antisym, le_of_lt, lt_or_ge, lt_le_clash, lt_of_test, ge_of_test, le_of_test}
use Rattle.integers.proofs.Sums.{sum_ext, sum_nil}
use Rattle.integers.proofs.Tests.{of_T, either}
use Rattle.maps.specs.Dart.{rev}
use Rattle.cuts.specs.inner.Cut.{cut_of}
use Rattle.thresholds.specs.inner.Above.{above}
use Rattle.thresholds.specs.inner.Choice.{Choosable, FirstServes}
use Rattle.arrays.specs.inner.Sizes.{most_height}
use Rattle.cuts.proofs.Adding.{reverse_in}

test_of_lt : {x y : ℤ} → x <ℤ y → lt_z x y ≡ true
test_of_lt h = of_T h.lt

test_of_ge : (x y : ℤ) → y ≤ℤ x → lt_z x y ≡ false
test_of_ge x y h = go (either (lt_z x y))
  where
    go : (lt_z x y ≡ true) ⊎ (lt_z x y ≡ false) → lt_z x y ≡ false
    go (inl e) = absurd (lt_le_clash (lt_of_test x y e) h)
    go (inr e) = e

-- what the test of the number x says of the cut y that it is
pub serves_not : {x y : ℤ} → x ≡ y → le_z (pos 0) x ≡ true → lt_z y (pos 0) ≡ false
serves_not {x} {y} e t = test_of_ge y (pos 0) (le_of_test (pos 0) y (rw e at t))

pub serves_here : {x y : ℤ} → x ≡ y → le_z (pos 0) x ≡ false → y <ℤ pos 0
serves_here {x} {y} e t = go (lt_or_ge y (pos 0))
  where
    go : (y <ℤ pos 0) ⊎ (pos 0 ≤ℤ y) → y <ℤ pos 0
    go (inl l) = l
    go (inr l) = absurd (true≢false (sym (of_T l.le) ∙ rw e at t))

lt_le : {x y z : ℤ} → x <ℤ y → y ≤ℤ z → x <ℤ z
lt_le {x} {y} {z} h g = let a = atoms₃ x y z in less (search parts) (omega (arith, from_less h (search parts), from_at_most g (search parts)))

le_lt : {x y z : ℤ} → x ≤ℤ y → y <ℤ z → x <ℤ z
le_lt {x} {y} {z} h g = let a = atoms₃ x y z in less (search parts) (omega (arith, from_at_most h (search parts), from_less g (search parts)))

not_itself : (b : Bool) → b && not b ≡ false
not_itself true = refl
not_itself false = refl

-- t is at or below a threshold whose cut is below zero; both lie within the heights
pub record Trying (darts : ℕ) (tail : ℕ → ℕ) (length height : ℕ → ℤ) (t : ℤ) : Type 0 where
  pub serves : ℤ
  pub negative : cut_of darts tail length (above height serves) <ℤ pos 0
  pub low : neg_ℤ (pos most_height) ≤ℤ t
  pub below : t ≤ℤ serves
  pub high : serves ≤ℤ pos most_height

-- and none of those tried before, from the lowest height on, serves
pub record Tried (nodes darts : ℕ) (tail : ℕ → ℕ) (length height : ℕ → ℤ) (t : ℤ) : Type 0 where
  pub lowest : ℤ
  pub least : (v : ℕ) → v < nodes → lowest ≤ℤ height v
  pub reached : (v : ℕ) × (v < nodes) × (lowest ≡ height v)
  pub from_lowest : lowest ≤ℤ t
  pub none_lower : (u : ℤ) → lowest ≤ℤ u → u <ℤ t → cut_of darts tail length (above height u) <ℤ pos 0 → ⊥

pub tried_start : {nodes darts : ℕ} {tail : ℕ → ℕ} {length height : ℕ → ℤ} (t : ℤ) → ((v : ℕ) → v < nodes → t ≤ℤ height v)
    → (v : ℕ) × (v < nodes) × (t ≡ height v) → Tried nodes darts tail length height t
tried_start t lowest has = record { lowest = t; least = lowest; reached = has; from_lowest = ≤ℤ_refl t; none_lower = λ u a b h. lt_le_clash b a }

pub tried_step : {nodes darts : ℕ} {tail : ℕ → ℕ} {length height : ℕ → ℤ} {t : ℤ} → Tried nodes darts tail length height t
    → lt_z (cut_of darts tail length (above height t)) (pos 0) ≡ false → Tried nodes darts tail length height (t +ℤ pos 1)
tried_step {nodes} {darts} {tail} {length} {height} {t} now fails = record {
  lowest = now.lowest;
  least = now.least;
  reached = now.reached;
  from_lowest = let a = atoms₂ t now.lowest in at_most (search parts) (omega (arith, from_at_most now.from_lowest (search parts)));
  none_lower = λ u a b h. lower u a b h (lt_or_ge u t);
}
  where
    lower : (u : ℤ) → now.lowest ≤ℤ u → u <ℤ (t +ℤ pos 1) → cut_of darts tail length (above height u) <ℤ pos 0 → (u <ℤ t) ⊎ (t ≤ℤ u) → ⊥
    lower u a b h (inl l) = now.none_lower u a l h
    lower u a b h (inr l) =
        let below : u ≤ℤ t = (let k = atoms₂ t u in at_most (search parts) (omega (arith, from_less b (search parts)))) in
        lt_le_clash (rw (le_antisym below l) at h) (ge_of_test _ _ fails)

pub tried_serves : {nodes darts : ℕ} {tail : ℕ → ℕ} {length height : ℕ → ℤ} {t : ℤ} {S : ℕ → Bool} → Tried nodes darts tail length height t
    → cut_of darts tail length (above height t) <ℤ pos 0 → ((v : ℕ) → v < nodes → S v ≡ above height t v)
    → FirstServes nodes darts tail length height S
tried_serves {t = t} now serves flags = record {
  lowest = now.lowest;
  least = now.least;
  reached = now.reached;
  threshold = t;
  from_lowest = now.from_lowest;
  none_lower = now.none_lower;
  serves = serves;
  flags = flags;
}

-- the thresholds from t up to the greatest height
unfoldable pub left_above : ℤ → ℕ
left_above t = positive (pos most_height -ℤ t)

module _ {nodes darts : ℕ} {tail : ℕ → ℕ} {length height : ℕ → ℤ} (ok : Choosable nodes darts tail length height) where
  -- sets that agree on the nodes have one cut
  pub cut_same : (S S' : ℕ → Bool) → ((v : ℕ) → v < nodes → S v ≡ S' v) → cut_of darts tail length S ≡ cut_of darts tail length S'
  unfolding cut_of
  cut_same S S' h =
      sum_ext Integers darts _ _ (λ d l. ap₂ (λ a b. when (a && not b) (length d))
      (h (tail d) (ok.tail_in d l))
      (h (tail (rev d)) (ok.tail_in (rev d) (reverse_in darts d ok.even l))))

  -- all nodes or none: nothing leaves
  cut_uniform : (S : ℕ → Bool) (b : Bool) → ((v : ℕ) → v < nodes → S v ≡ b) → cut_of darts tail length S ≡ pos 0
  unfolding cut_of
  cut_uniform S b h = cut_same S (λ v. b) h ∙ sum_nil Integers darts _ (λ d l. ap (λ t. when t (length d)) (not_itself b))

  not_uniform : (b : Bool) → ((v : ℕ) → v < nodes → above height ok.threshold v ≡ b) → ⊥
  not_uniform b h = lt_le_clash (rw (cut_uniform (above height ok.threshold) b h) at ok.negative) (≤ℤ_refl (pos 0))

  -- ── the loop ──
  pub trying_start : (t : ℤ) → ((v : ℕ) → v < nodes → t ≤ℤ height v) → (v : ℕ) × (v < nodes) × (t ≡ height v) → Trying darts tail length height t
  trying_start t lowest has =
      record {
        serves = ok.threshold;
        negative = ok.negative;
        low = rw has.2 (ok.low has.0 has.1).low;
        below = not_under (lt_or_ge ok.threshold t);
        high = not_over (lt_or_ge (pos most_height) ok.threshold);
      }
    where
      not_under : (ok.threshold <ℤ t) ⊎ (t ≤ℤ ok.threshold) → t ≤ℤ ok.threshold
      not_under (inl l) = absurd (not_uniform true (λ v m. test_of_lt (lt_le l (lowest v m))))
      not_under (inr l) = l

      not_over : (pos most_height <ℤ ok.threshold) ⊎ (ok.threshold ≤ℤ pos most_height) → ok.threshold ≤ℤ pos most_height
      not_over (inl l) = absurd (not_uniform false (λ v m. test_of_ge ok.threshold (height v) (le_of_lt (le_lt (ok.low v m).high l))))
      not_over (inr l) = l

module _ {darts : ℕ} {tail : ℕ → ℕ} {length height : ℕ → ℤ} {t : ℤ} (now : Trying darts tail length height t) where
  module _ (fails : lt_z (cut_of darts tail length (above height t)) (pos 0) ≡ false) where
    -- the threshold that serves lies further up
    trying_below : t <ℤ now.serves
    trying_below = go (lt_or_ge t now.serves)
      where
        go : (t <ℤ now.serves) ⊎ (now.serves ≤ℤ t) → t <ℤ now.serves
        go (inl l) = l
        go (inr l) = absurd (lt_le_clash (rw (le_antisym l now.below) at now.negative) (ge_of_test _ _ fails))

    -- the next threshold fits 32 bits
    pub trying_next : Limited most_height (t +ℤ pos 1)
    trying_next =
        let a = atoms₂ t now.serves in
        record {
          low = at_most (search parts) (omega (arith, from_at_most now.low (search parts)));
          high = at_most (search parts) (omega (arith, from_less trying_below (search parts), from_at_most now.high (search parts)));
        }

    pub trying_step : Trying darts tail length height (t +ℤ pos 1)
    trying_step =
        let a = atoms₂ t now.serves in
        record {
          serves = now.serves;
          negative = now.negative;
          low = trying_next.low;
          below = at_most (search parts) (omega (arith, from_less trying_below (search parts)));
          high = now.high;
        }

    -- fewer thresholds are left
    pub trying_less : left_above (t +ℤ pos 1) < left_above t
    unfolding left_above
    trying_less =
        let a = atoms₂ t now.serves in
        omega (
          arith,
          positive_is {z = pos most_height -ℤ t} (search parts),
          positive_is {z = pos most_height -ℤ (t +ℤ pos 1)} (search parts),
          from_less trying_below (search parts),
          from_at_most now.high (search parts),
        )
