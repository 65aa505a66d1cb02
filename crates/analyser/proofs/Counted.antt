-- The counts of a sheet: what Totals by node of a set says of the sheet checks, where both its slices are long enough for any sheet.
use mathlib.Core.Logic.{◌⊎◌, inl, inr}
use mathlib.Core.List.{List}
use Prim.Native.Nat.{ℕ, ◌≤◌, ◌<◌}
use native.Mathlib.Omega.{arith}
use lib.ListN.{length}
use lib.IntN.{ℤ}
use Rattle.integers.specs.Sum.{count, bit}
use Rattle.integers.proofs.Counting.{bit_le, sum_le_size}
use Rattle.std.specs.Prelude.{Ok, Err}
use Rattle.refusals.specs.Order.{NoneOf, FirstOf}
use Rattle.refusals.specs.declared.Refusal.{Refusal}
use Rattle.refusals.proofs.Order.{append_none, append_first, first_none, neither}
use Rattle.flows.specs.ProvingSet.{words_for, member}
use Rattle.records.specs.Record.{record_length}
use Rattle.records.specs.Sheet.{nodes_of, edges_of, outer_of, headLength}
use Rattle.sheets.specs.Open.{sheet_checks}
use Rattle.sheets.proofs.Accepted.{sheet_bytes, sheet_outer}
use Rattle.sheets.proofs.Opening.{bytes_room}
use Rattle.totals.specs.Totals.{total_checks}
use Rattle.analyser.specs.Totals.{totals_checks, GivesTotals}

-- what the sheet checks say of the head, where none of them holds
pub record HeadKnown (s : List ℕ) : Type 0 where
  pub sheet : NoneOf (sheet_checks s)
  pub counted : record_length 1 ≤ length s
  pub whole : headLength s ≤ length s
  pub few_nodes : nodes_of s ≤ 513
  pub few_edges : edges_of s ≤ 512
  pub low_outer : outer_of s < 1024

head_known : (s : List ℕ) → NoneOf (sheet_checks s) → HeadKnown s
head_known s none =
    let room = bytes_room s (sheet_bytes s none) in
    let outer = sheet_outer s none in record {
      sheet = none;
      counted = room.0;
      whole = room.6;
      few_nodes = room.2;
      few_edges = room.4;
      low_outer = omega (arith, outer, room.4);
    }

module _ (s set : List ℕ) (out out' : List ℤ) where
  pub totals_passed : (t : ℤ) → GivesTotals s set out out' (Ok t) → HeadKnown s
  unfolding totals_checks
  totals_passed t h = head_known s (append_none (sheet_checks s) _ h.0).0

  module _ (words : 9 ≤ length set) (places : 513 ≤ length out) where
    room : NoneOf (sheet_checks s) → NoneOf (total_checks (nodes_of s) set out)
    unfolding total_checks NoneOf
    room none =
        let few = (head_known s none).few_nodes in
        let members = sum_le_size (nodes_of s) (λ v. bit (member set v)) (λ v l. bit_le (member set v)) in
        let short : length set < words_for (nodes_of s) → ⊥ = λ l. omega (arith, words, few) in
        let full : length out < count (nodes_of s) (member set) → ⊥ = λ l. omega (arith, places, members, few) in
        (neither short full, tt)

    pub totals_refused : (r : Refusal) → GivesTotals s set out out' (Err r) → FirstOf (sheet_checks s) r.number r.place
    unfolding totals_checks
    totals_refused r h = go (append_first (sheet_checks s) (total_checks (nodes_of s) set out) r.number r.place h.0)
      where
        go : FirstOf (sheet_checks s) r.number r.place ⊎ (NoneOf (sheet_checks s) × FirstOf (total_checks (nodes_of s) set out) r.number r.place)
            → FirstOf (sheet_checks s) r.number r.place
        go (inl f) = f
        go (inr (none, f)) = absurd (first_none (total_checks (nodes_of s) set out) r.number r.place f (room none))
