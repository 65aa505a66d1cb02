-- Checks in front of the question's: where none of them holds, its answer stands after them.
use mathlib.Core.List.{List, ◌++◌}
use Prim.Native.Nat.{ℕ}
use lib.IntN.{ℤ}
use Rattle.std.specs.Prelude.{Result, Ok, Err, Option, Some, None}
use Rattle.refusals.specs.Order.{Check, NoneOf}
use Rattle.refusals.specs.declared.Refusal.{Refusal}
use Rattle.refusals.proofs.Order.{none_append, first_right}
use Rattle.maps.specs.Drawing.{Drawing}
use Rattle.ranges.specs.Range.{RangeFound}
use Rattle.ranges.specs.declared.Range.{Range}

pub range_after : (before : List Check) → NoneOf before → (𝓓 : Drawing) (checks : List Check) (source sink : ℕ)
    (low low' : List ℤ) (below below' : List ℕ) (high high' : List ℤ) (above above' : List ℕ) (r : Result (Option Range) Refusal)
    → RangeFound 𝓓 checks source sink low low' below below' high high' above above' r
    → RangeFound 𝓓 (before ++ checks) source sink low low' below below' high high' above above' r
range_after before passed 𝓓 checks source sink low low' below below' high high' above above' (Ok (Some range)) h =
    (none_append before checks passed h.0, h.1, h.2, h.3, h.4)
range_after before passed 𝓓 checks source sink low low' below below' high high' above above' (Ok None) h =
    (none_append before checks passed h.0, h.1, h.2, h.3)
range_after before passed 𝓓 checks source sink low low' below below' high high' above above' (Err r) h =
    (first_right before checks r.number r.place passed h.0, h.1, h.2, h.3, h.4)
