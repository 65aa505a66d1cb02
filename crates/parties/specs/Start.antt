-- Start. Document 02, Job 11: "A session starts from a sheet. A start refused by the sheet checks gives a session of no nodes and no channels, .. and there is
-- no offer."; Job 12: "If two runs from one start .." What a start leaves follows from the sheet alone: it says every place of the session.
use Rattle.std.specs.Prelude.{ℕ, ◌≡◌, List, pos, Result, Ok, Err}
use Rattle.refusals.specs.Order.{NoneOf, FirstOf}
use Rattle.refusals.specs.declared.Refusal.{Refusal}
use Rattle.maps.specs.Drawing.{Drawing}
use Rattle.arrays.specs.Filled.{tabulate}
use Rattle.records.specs.Sheet.{sheet_drawing}
use Rattle.sheets.specs.Open.{sheet_checks}
use Rattle.parties.specs.Shared.{idle, Shared, offers_of}

-- a session begun on a drawing: its numbers, and all of its limits left, in arrays of 1,024; neither party has an offer or has committed, and the arrays of the
-- offers, of 512, hold zeros
abbrev pub begun_on : Drawing → Shared
begun_on 𝓓 = record {
  nodes = 𝓓.map.nodes;
  edges = 𝓓.map.edges;
  outer = 𝓓.outer;
  tails = tabulate 1024 𝓓.map.tail;
  rotations = tabulate 1024 𝓓.map.rotation;
  limits = tabulate 1024 𝓓.capacity;
  left = tabulate 1024 𝓓.capacity;
  standing = λ q. idle;
  offer = offers_of (tabulate 512 (λ e. pos 0)) (tabulate 512 (λ e. pos 0));
}

-- on a sheet's drawing, which has zeros past its last dart
abbrev pub started : List ℕ → Shared
started s = begun_on (sheet_drawing s)

-- no nodes, no edges, and zeros everywhere
abbrev pub no_drawing : Drawing
no_drawing = record { map = record { nodes = 0; edges = 0; tail = λ d. 0; rotation = λ d. 0 }; capacity = λ d. pos 0; outer = 0 }

abbrev pub emptied : Shared
emptied = begun_on no_drawing

-- a start from the bytes s, in whatever memory, leaves S'
abbrev pub Starts : List ℕ → Shared → Result Unit Refusal → Type 0
Starts s S' (Ok done) = NoneOf (sheet_checks s) × (S' ≡ started s)
Starts s S' (Err r) = FirstOf (sheet_checks s) r.number r.place × (S' ≡ emptied)
