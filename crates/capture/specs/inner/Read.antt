-- What the reader finds at a place of a capture: a whole record with its fields; 2 for a kind that is not 5, 1 for a body that is cut short. Past the end
-- nothing stands, which is no kind 5 either.
use Rattle.std.specs.Prelude.{ℕ, ◌+◌, cond, List, eqb, ltb, length, get_or, Result, Ok}
use Rattle.refusals.specs.declared.Refusal.{Refusal}
use Rattle.refusals.specs.Refused.{refused}
use Rattle.fields.specs.Fields.{u16_at, u32_at, i32_at}
use Rattle.records.specs.Record.{record_length}
use Rattle.capture.specs.declared.Entry.{Entry}

unfoldable pub entry_at : List ℕ → ℕ → Result Entry Refusal
entry_at b at =
    cond (eqb (get_or b at 0) 5)
    (cond (ltb (length b) (at + record_length 5)) (refused 1 0)
    (Ok (record { tick = u32_at b (at + 1); edge = u16_at b (at + 5); limit = i32_at b (at + 7) })))
    (refused 2 0)
