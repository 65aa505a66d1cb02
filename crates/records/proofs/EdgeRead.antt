-- Six numbers read from the record of an edge: the checks on them are the checks on the edge of the sheet.
use mathlib.Core.Path.{◌≡◌}
use mathlib.Core.List.{List}
use Prim.Native.Nat.{ℕ, ◌+◌, ◌<◌}
use lib.IntN.{ℤ}
use Rattle.refusals.proofs.Order.{none_append, first_left, first_right}
use Rattle.fields.specs.Fields.{u16_at, i32_at}
use Rattle.records.specs.Check.{field_checks, edge_checks}
use Rattle.records.specs.Sheet.{nodes_of, edges_of, edge_at, sheet_drawing}
use Rattle.records.proofs.Record.{edge_body}
use Rattle.records.proofs.Fields.{edge_fields}

pub edge_read : (s : List ℕ) (e : ℕ) {nodes edges place tail head rotation back : ℕ} {forward backward : ℤ} → e < edges
    → nodes ≡ nodes_of s
    → edges ≡ edges_of s
    → place ≡ edge_at s e
    → tail ≡ u16_at s (place + 1)
    → head ≡ u16_at s (place + 3)
    → rotation ≡ u16_at s (place + 5)
    → back ≡ u16_at s (place + 7)
    → forward ≡ i32_at s (place + 9)
    → backward ≡ i32_at s (place + 13)
    → edge_checks (sheet_drawing s) e ≡ field_checks nodes edges tail head rotation back forward backward
edge_read s e l n m here t h r b f w = rw (edge_fields s e (rw m at l), n, m, t, h, r, b, f, w, here)

pub ruleset edge_steps = (none_append, first_left, first_right, edge_body, edge_read)
