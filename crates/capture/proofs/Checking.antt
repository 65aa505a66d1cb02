-- The records of a capture checked in turn: what each one found leads out by, and what is known once one more has passed.
use mathlib.Core.Path.{◌≡◌, refl, sym, subst}
use mathlib.Core.Logic.{◌≢◌, inl, inr}
use mathlib.Core.List.{List}
use Prim.Native.Nat.{ℕ, suc, ◌+◌, ◌*◌, ◌/◌, ◌≤◌, ◌<◌, min}
use native.Mathlib.Omega.{arith}
use native.Mathlib.Decide.{ℕ_discrete, dec_lt}
use native.Mathlib.Numerals.{add-one}
use borrow.Author.Count.{below_more}
use lib.ListN.{length, get_or}
use Rattle.std.specs.Prelude.{Ok, Err}
use Rattle.integers.proofs.Tests.{ltb_true, ltb_false}
use Rattle.refusals.specs.Order.{NoneOf, FirstOf}
use Rattle.refusals.specs.declared.Refusal.{Refusal}
use Rattle.refusals.proofs.Order.{first_in_turn, none_in_turn}
use Rattle.records.specs.Record.{record_length}
use Rattle.capture.specs.Entry.{entry_place, tick_of, channel_of, limit_of, begun, entry_checks}
use Rattle.capture.specs.Capture.{records_checks}
use Rattle.capture.specs.inner.Read.{entry_at}
use Rattle.capture.specs.inner.Taken.{Passing, place_behind}
use Rattle.capture.specs.declared.Entry.{Entry}
use Rattle.capture.proofs.Reading.{Whole, Found, reads_whole}

-- a record begins exactly where there are bytes left
pub begins : (n i : ℕ) → 11 * i < n → i < (n + 10) / 11
begins n i l = omega (arith, l)

pub ends : (n i : ℕ) → n ≤ 11 * i → (n + 10) / 11 ≤ i
ends n i l = omega (arith, l)

-- ── the reader goes forward: never past the end, and farther while bytes are left ──
module _ (b : List ℕ) (place : ℕ) where
  behind_end : length b < place + record_length 5 → place_behind b place ≡ length b
  unfolding place_behind
  behind_end l = rw (ltb_true (length b) (place + record_length 5) l)

  behind_next : place + record_length 5 ≤ length b → place_behind b place ≡ place + record_length 5
  unfolding place_behind
  behind_next l = rw (ltb_false (length b) (place + record_length 5) l)

  -- the nearer of the two; the sum is held below a bound that the length does not reach
  pub behind_least : (most n : ℕ) → length b ≤ most → n ≡ min (min (place + record_length 5) most) (length b) → n ≡ place_behind b place
  behind_least most n fits e = go (dec_lt (length b) (place + record_length 5))
    where
      go : Dec (length b < place + record_length 5) → n ≡ place_behind b place
      go (yes l) = let q = behind_end l in omega (arith, q, l, e, fits)
      go (no l) = let q = behind_next (omega (arith, l)) in omega (arith, q, l, e, fits)

  pub behind_farther : place < length b → (place < place_behind b place) × (place_behind b place ≤ length b)
  behind_farther more = go (dec_lt (length b) (place + record_length 5))
    where
      go : Dec (length b < place + record_length 5) → (place < place_behind b place) × (place_behind b place ≤ length b)
      go (yes l) = let e = behind_end l in (omega (arith, e, more), omega (arith, e))
      go (no l) = let e = behind_next (omega (arith, l)) in (omega (arith, e), omega (arith, e, l))

module _ {edges : ℕ} {b : List ℕ} {place tick : ℕ} (π : Passing edges b place tick) where
  -- ── the end of the capture ──
  pub passed_all : length b ≤ place → NoneOf (records_checks edges b)
  unfolding records_checks
  passed_all l = none_in_turn (begun b) (entry_checks edges b) (λ i m. π.passed i (omega (arith, m, ends (length b) π.count (omega (arith, π.placed)))))

  module _ (more : place < length b) where
    out : (k p : ℕ) → FirstOf (entry_checks edges b π.count) k p → FirstOf (records_checks edges b) k p
    unfolding records_checks
    out k p first = first_in_turn (begun b) (entry_checks edges b) π.count k p (begins (length b) π.count (omega (arith, π.placed))) π.passed first

    -- it is of another kind or cut short
    pub out_found : (r : Refusal) → Found b place (Err r) → FirstOf (records_checks edges b) r.number r.place
    unfolding FirstOf entry_checks
    out_found r (inl h) = out r.number r.place (inl (subst (λ p. get_or b p 0 ≢ 5) π.placed h.0, h.1, h.2))
    out_found r (inr h) =
        out r.number r.place
        (inr ((λ n. n (subst (λ p. get_or b p 0 ≡ 5) π.placed h.0)), inl (omega (arith, h.1, π.placed), h.2, h.3)))

    -- ── a whole record ──
    module _ (entry : Entry) (w : Whole b place entry) where
      here : Whole b (entry_place π.count) entry
      here = subst (λ p. Whole b p entry) π.placed w

      kind : get_or b (entry_place π.count) 0 ≢ 5 → ⊥
      kind n = n here.kind

      whole : length b < entry_place (π.count + 1) → ⊥
      whole l = omega (arith, here.inside, l)

      pub out_channel : edges ≤ entry.edge → FirstOf (records_checks edges b) 25 0
      unfolding FirstOf entry_checks
      out_channel l = out 25 0 (inr (kind, inr (whole, inl (omega (arith, here.edge, l), refl, refl))))

      module _ (is_edge : entry.edge < edges) where
        channel : edges ≤ channel_of b π.count → ⊥
        channel l = omega (arith, here.edge, l, is_edge)

        pub out_tick : entry.tick < tick → FirstOf (records_checks edges b) 27 0
        unfolding FirstOf entry_checks
        out_tick l = out 27 0 (inr (kind, inr (whole, inr (channel, inl (omega (arith, here.tick, π.last, l), refl, refl)))))

        passing_next : tick ≤ entry.tick → Passing edges b (place + record_length 5) entry.tick
        unfolding NoneOf entry_checks
        passing_next l = record {
          count = suc π.count;
          placed = omega (arith, π.placed);
          inside = w.inside;
          last = here.tick;
          passed = subst (λ n. (i : ℕ) → i < n → NoneOf (entry_checks edges b i)) (add-one π.count)
              (below_more _ π.count π.passed (kind, (whole, (channel, ((λ m. omega (arith, here.tick, π.last, l, m)), tt)))));
        }

        pub passing_step : tick ≤ entry.tick → Passing edges b (place_behind b place) entry.tick
        passing_step l = subst (λ p. Passing edges b p entry.tick) (sym (behind_next b place w.inside)) (passing_next l)

-- ── what a record that passed is ──
module _ (edges : ℕ) (b : List ℕ) (i : ℕ) (passed : NoneOf (entry_checks edges b i)) where
  five : get_or b (entry_place i) 0 ≡ 5
  unfolding NoneOf entry_checks
  five = go (ℕ_discrete (get_or b (entry_place i) 0) 5)
    where
      go : Dec (get_or b (entry_place i) 0 ≡ 5) → get_or b (entry_place i) 0 ≡ 5
      go (yes e) = e
      go (no e) = absurd (passed.0 e)

  pub passed_whole : entry_place i + record_length 5 ≤ length b
  unfolding NoneOf entry_checks
  passed_whole = let w : length b < entry_place (i + 1) → ⊥ = passed.1.0 in omega (arith, w)

  pub passed_read : entry_at b (entry_place i) ≡ Ok (record { tick = tick_of b i; edge = channel_of b i; limit = limit_of b i })
  passed_read = reads_whole b (entry_place i) five passed_whole

  pub passed_channel : channel_of b i < edges
  unfolding NoneOf entry_checks
  passed_channel = let n : edges ≤ channel_of b i → ⊥ = passed.1.1.0 in omega (arith, n)
