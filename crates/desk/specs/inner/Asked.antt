-- Sheet and ends are accepted: what Largest, Mark and Totals by node are asked with.
use Rattle.std.specs.Prelude.{ℕ, List}
use Rattle.refusals.specs.Order.{NoneOf}
use Rattle.records.specs.Sheet.{nodes_of}
use Rattle.sheets.specs.Open.{sheet_checks}
use Rattle.questions.specs.Question.{end_checks}

pub record Asked (s : List ℕ) (source sink : ℕ) : Type 0 where
  pub sheet : NoneOf (sheet_checks s)
  pub ends : NoneOf (end_checks (nodes_of s) source sink)
