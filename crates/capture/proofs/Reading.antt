-- What the reader finds at a place, from the tests that it makes: a whole record with its fields, or the refusal of what stands there.
use mathlib.Core.Path.{◌≡◌, refl, subst, sym}
use mathlib.Core.Logic.{◌≢◌, ◌⊎◌, inl, inr}
use mathlib.Core.List.{List}
use Prim.Native.Nat.{ℕ, ◌+◌, ◌≤◌, ◌<◌}
use native.Mathlib.Omega.{arith}
use native.Mathlib.Decide.{ℕ_discrete, dec_lt}
use lib.ListN.{length, get_or}
use Rattle.std.specs.Prelude.{Result, Ok, Err}
use Rattle.integers.proofs.Tests.{eqb_true, eqb_false, ltb_true, ltb_false}
use Rattle.refusals.specs.Refused.{refused}
use Rattle.refusals.specs.declared.Refusal.{Refusal}
use Rattle.fields.specs.Fields.{u16_at, u32_at, i32_at}
use Rattle.records.specs.Record.{record_length}
use Rattle.capture.specs.inner.Read.{entry_at}
use Rattle.capture.specs.declared.Entry.{Entry}

-- the record at a place is whole, with these fields
pub record Whole (b : List ℕ) (at : ℕ) (entry : Entry) : Type 0 where
  pub kind : get_or b at 0 ≡ 5
  pub inside : at + record_length 5 ≤ length b
  pub tick : entry.tick ≡ u32_at b (at + 1)
  pub edge : entry.edge ≡ u16_at b (at + 5)
  pub limit : entry.limit ≡ i32_at b (at + 7)

-- it is, or it is of another kind or cut short
abbrev pub Found : List ℕ → ℕ → Result Entry Refusal → Type 0
Found b at (Ok entry) = Whole b at entry
Found b at (Err r) =
    ((get_or b at 0 ≢ 5) × (r.number ≡ 2) × (r.place ≡ 0))
    ⊎ ((get_or b at 0 ≡ 5) × (length b < at + record_length 5) × (r.number ≡ 1) × (r.place ≡ 0))

module _ (b : List ℕ) (at : ℕ) where
  pub reads_wrong : get_or b at 0 ≢ 5 → entry_at b at ≡ refused 2 0
  unfolding entry_at
  reads_wrong h = rw (eqb_false (get_or b at 0) 5 h)

  pub reads_nothing : length b ≤ at → entry_at b at ≡ refused 2 0
  reads_nothing l = reads_wrong (λ e. absurd (let z : get_or b at 0 ≡ 0 = lib.ListN.get_or-eq_default b 0 {n = at} l in omega (arith, z, e)))

  pub reads_cut : get_or b at 0 ≡ 5 → length b < at + record_length 5 → entry_at b at ≡ refused 1 0
  unfolding entry_at
  reads_cut e l = rw (eqb_true (get_or b at 0) 5 e, ltb_true (length b) (at + record_length 5) l)

  pub reads_whole : get_or b at 0 ≡ 5 → at + record_length 5 ≤ length b
      → entry_at b at ≡ Ok (record { tick = u32_at b (at + 1); edge = u16_at b (at + 5); limit = i32_at b (at + 7) })
  unfolding entry_at
  reads_whole e l = rw (eqb_true (get_or b at 0) 5 e, ltb_false (length b) (at + record_length 5) l)

  -- of fields that are read one by one
  pub reads_as : (entry : Entry) → Whole b at entry → Ok entry ≡ entry_at b at
  reads_as entry w = rw (w.tick, w.edge, w.limit) (sym (reads_whole w.kind w.inside))

  pub found_at : Found b at (entry_at b at)
  found_at = by_kind (ℕ_discrete (get_or b at 0) 5)
    where
      by_length : get_or b at 0 ≡ 5 → Dec (length b < at + record_length 5) → Found b at (entry_at b at)
      by_length e (yes l) = subst (Found b at) (sym (reads_cut e l)) (inr (e, l, refl, refl))
      by_length e (no l) =
          let inside : at + record_length 5 ≤ length b = omega (arith, l) in
          subst (Found b at) (sym (reads_whole e inside)) (record { kind = e; inside = inside; tick = refl; edge = refl; limit = refl })

      by_kind : Dec (get_or b at 0 ≡ 5) → Found b at (entry_at b at)
      by_kind (yes e) = by_length e (dec_lt (length b) (at + record_length 5))
      by_kind (no h) = subst (Found b at) (sym (reads_wrong h)) (inl (h, refl, refl))

  -- of an answer of the reader
  pub found_as : (r : Result Entry Refusal) → r ≡ entry_at b at → Found b at r
  found_as r e = subst (Found b at) (sym e) found_at
