-- What a head is: how long it is and which outer dart it names, by its kind; whole and of one of the two kinds, where its record passes its checks. Document
-- 02, Job 6: "A kind 1 head is still read, as outer dart 0."
use Prim.Native.Nat.{ℕ, zero, suc, ◌≤◌, ◌<◌}
use mathlib.Core.Path.{◌≡◌, ap}
use mathlib.Core.Logic.{◌⊎◌, inl, inr}
use mathlib.Core.Bool.{cond}
use mathlib.Core.List.{List}
use native.Mathlib.Omega.{arith}
use native.Mathlib.Decide.{ℕ_discrete, dec_lt}
use lib.Dec.{eqb}
use lib.ListN.{length}
use Rattle.integers.proofs.Tests.{ltb_false}
use Rattle.refusals.specs.Order.{NoneOf}
use Rattle.refusals.proofs.Order.{none_append, first_left, first_right}
use Rattle.fields.specs.Fields.{u16_at}
use Rattle.records.specs.Record.{body_length, record_length}
use Rattle.records.specs.Sheet.{kind_of, headLength, outer_of, head_record_checks}

-- ── by its kind ──
module _ (s : List ℕ) (kind : ℕ) (is : kind_of s ≡ kind) where
  pub head_long : headLength s ≡ record_length kind
  unfolding headLength
  head_long = ap record_length is

  outer_named : outer_of s ≡ cond (eqb kind 4) (u16_at s 5) 0
  unfolding outer_of
  outer_named = ap (λ k. cond (eqb k 4) (u16_at s 5) 0) is

pub kind_one_outer : (s : List ℕ) → kind_of s ≡ 1 → outer_of s ≡ 0
kind_one_outer s is = outer_named s 1 is

pub kind_four_outer : (s : List ℕ) → kind_of s ≡ 4 → outer_of s ≡ u16_at s 5
kind_four_outer s is = outer_named s 4 is

-- no record is longer than an edge's
body_below : (k : ℕ) → k < 6 → body_length k ≤ 16
body_below zero l = omega arith
body_below (suc zero) l = omega arith
body_below (suc (suc zero)) l = omega arith
body_below (suc (suc (suc zero))) l = omega arith
body_below (suc (suc (suc (suc zero)))) l = omega arith
body_below (suc (suc (suc (suc (suc zero))))) l = omega arith
body_below (suc (suc (suc (suc (suc (suc k)))))) l = absurd (omega arith)

pub head_at_most : (s : List ℕ) → headLength s ≤ 17
unfolding headLength
head_at_most s = go (dec_lt (kind_of s) 6)
  where
    go : Dec (kind_of s < 6) → record_length (kind_of s) ≤ 17
    go (yes l) = omega (arith, body_below (kind_of s) l)
    go (no l) = rw (ltb_false (kind_of s) 6 (omega (arith, l))) (omega arith)

pub head_lengths : (s : List ℕ) → (kind_of s ≡ 1) ⊎ (kind_of s ≡ 4) → (5 ≤ headLength s) × (headLength s ≤ 7)
head_lengths s (inl is) = let l = head_long s 1 is in (omega arith, omega arith)
head_lengths s (inr is) = let l = head_long s 4 is in (omega arith, omega arith)

-- ── a head that passes ──
module _ (s : List ℕ) (passed : NoneOf (head_record_checks s)) where
  pub head_kind : (kind_of s ≡ 1) ⊎ (kind_of s ≡ 4)
  unfolding NoneOf head_record_checks
  head_kind = go (ℕ_discrete (kind_of s) 1) (ℕ_discrete (kind_of s) 4)
    where
      go : Dec (kind_of s ≡ 1) → Dec (kind_of s ≡ 4) → (kind_of s ≡ 1) ⊎ (kind_of s ≡ 4)
      go (yes e) d = inl e
      go (no e) (yes f) = inr f
      go (no e) (no f) = absurd (passed.1.0 (e, f))

  pub head_body : headLength s ≤ length s
  unfolding NoneOf head_record_checks
  head_body = omega (arith, passed.1.1.0)

  pub head_counted : 5 ≤ length s
  head_counted = omega (arith, head_body, (head_lengths s head_kind).0)

-- what reading a head stands on: its record's checks come before those on its numbers, and it is whole where they passed
pub ruleset head_steps = (none_append, first_left, first_right, head_counted, head_body)

-- the other way round: of one of the kinds, and whole, a head passes
pub head_passes : (s : List ℕ) → (kind_of s ≡ 1) ⊎ (kind_of s ≡ 4) → headLength s ≤ length s → NoneOf (head_record_checks s)
unfolding NoneOf head_record_checks
head_passes s kind whole = ((λ h. omega (arith, whole, (head_lengths s kind).0)), ((λ h. neither_kind kind h.0 h.1), ((λ h. omega (arith, whole)), tt)))
  where
    neither_kind : (kind_of s ≡ 1) ⊎ (kind_of s ≡ 4) → (kind_of s ≡ 1 → ⊥) → (kind_of s ≡ 4 → ⊥) → ⊥
    neither_kind (inl e) f g = f e
    neither_kind (inr e) f g = g e
