-- Checks in front of the question's: where none of them holds, its answer stands after them.
use mathlib.Core.List.{List, ◌++◌}
use Prim.Native.Nat.{ℕ}
use lib.IntN.{ℤ}
use Rattle.std.specs.Prelude.{Result, Ok, Err, Option, Some, None}
use Rattle.refusals.specs.Order.{Check, NoneOf}
use Rattle.refusals.specs.declared.Refusal.{Refusal}
use Rattle.refusals.proofs.Order.{none_append, first_right}
use Rattle.maps.specs.Drawing.{Drawing}
use Rattle.raising.specs.Raise.{RaiseFound}

pub raise_after : (before : List Check) → NoneOf before → (𝓓 : Drawing) (checks : List Check) (source sink : ℕ) (value : ℤ) (edge : ℕ)
    (flows flows' : List ℤ) (set set' : List ℕ) (r : Result (Option ℤ) Refusal)
    → RaiseFound 𝓓 checks source sink value edge flows flows' set set' r → RaiseFound 𝓓 (before ++ checks) source sink value edge flows flows' set set' r
raise_after before passed 𝓓 checks source sink value edge flows flows' set set' (Ok (Some v)) h =
    (none_append before checks passed h.0, h.1, h.2, h.3, h.4, h.5)
raise_after before passed 𝓓 checks source sink value edge flows flows' set set' (Ok None) h = (none_append before checks passed h.0, h.1, h.2)
raise_after before passed 𝓓 checks source sink value edge flows flows' set set' (Err r) h = (first_right before checks r.number r.place passed h.0, h.1, h.2)
