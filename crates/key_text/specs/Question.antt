-- What the program key is given: "from standard input a question record, then a sheet" (document 01, "The program key"). "Kind 3, question: headgate, outfall
-- (16 each), delivery (32)." The headgate is the source, the outfall the sink, the delivery the value.
use Rattle.std.specs.Prelude.{ℕ, List, ◌++◌, drop, ℤ}
use Rattle.refusals.specs.Order.{Check}
use Rattle.fields.specs.Fields.{u16_at, i32_at}
use Rattle.records.specs.Record.{record_length, record_checks}
use Rattle.records.specs.Sheet.{nodes_of}
use Rattle.sheets.specs.Open.{sheet_checks}
use Rattle.questions.specs.Question.{end_checks, value_checks}

abbrev pub source_of : List ℕ → ℕ
source_of b = u16_at b 1

abbrev pub sink_of : List ℕ → ℕ
sink_of b = u16_at b 3

abbrev pub value_of : List ℕ → ℤ
value_of b = i32_at b 5

-- the sheet is all that follows the question's record
abbrev pub sheet_of : List ℕ → List ℕ
sheet_of b = drop (record_length 3) b

-- "1 or 2 for the question come first, then Solve's order; the key's own slices are long enough, so 16 never comes"
unfoldable pub key_checks : List ℕ → List Check
key_checks b = record_checks b 3 0 ++ (sheet_checks (sheet_of b) ++ (end_checks (nodes_of (sheet_of b)) (source_of b) (sink_of b) ++ value_checks (value_of b)))
