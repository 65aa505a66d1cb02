-- What the program prints for the bytes that it is given: the DIMACS text of the question's ends, or the first refusal as the key tells it.
use Rattle.std.specs.Prelude.{ℕ, ◌≡◌, List, ◌++◌, length, drop}
use Rattle.refusals.specs.Order.{Check, NoneOf, FirstOf}
use Rattle.records.specs.Record.{record_checks}
use Rattle.records.specs.Sheet.{sheet_drawing}
use Rattle.dimacs.specs.Write.{text_of}
use Rattle.analyser.specs.Dimacs.{dimacs_checks}
use Rattle.key_text.specs.Question.{source_of, sink_of, sheet_of}
use Rattle.key_text.specs.Text.{refused_text}

-- 1 or 2 for the question come first, then the refusals of the text; of those 16 does not occur in a text of 18,463 bytes
unfoldable pub export_checks : (b text : List ℕ) → List Check
export_checks b text = record_checks b 3 0 ++ dimacs_checks (sheet_of b) (source_of b) (sink_of b) text

-- the first n bytes are t, and the rest is as it was
abbrev pub InFront : List ℕ → (text text' : List ℕ) → ℕ → Type 0
InFront t text text' n = (n ≡ length t) × (text' ≡ t ++ drop n text)

pub data Exports (b text text' : List ℕ) (n : ℕ) : Type 0 where
  written : NoneOf (export_checks b text) → InFront (text_of (sheet_drawing (sheet_of b)) (source_of b) (sink_of b)) text text' n → Exports b text text' n
  refused : (k p : ℕ) → FirstOf (export_checks b text) k p → InFront (refused_text k) text text' n → Exports b text text' n
