-- Counts: how many nodes and edges a sheet has, and a dart on its outer face. Document 01, "Operations": "Read gives both counts"; document 02, Job 6: "Read
-- also gives the dart". This gives them to callers that have no use for the slices of Read, so the sheet checks are all that refuses.
use Rattle.std.specs.Prelude.{ℕ, ◌≡◌, List, Result, Ok, Err}
use Rattle.refusals.specs.Order.{NoneOf, FirstOf}
use Rattle.refusals.specs.declared.Refusal.{Refusal}
use Rattle.records.specs.Sheet.{nodes_of, edges_of, outer_of}
use Rattle.sheets.specs.Open.{sheet_checks}
use Rattle.sheets.specs.declared.Counts.{Counts}

abbrev pub GivesCounts : List ℕ → Result Counts Refusal → Type 0
GivesCounts s (Ok c) = NoneOf (sheet_checks s) × (c.nodes ≡ nodes_of s) × (c.edges ≡ edges_of s) × (c.outer ≡ outer_of s)
GivesCounts s (Err r) = FirstOf (sheet_checks s) r.number r.place
