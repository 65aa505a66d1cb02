-- A question of a list: "each a source, a sink and a delivery" (document 02, Job 1).
use Rattle.std.specs.Prelude.{ℕ, List, get_or, ℤ, pos}
use Rattle.arrays.specs.At.{at, atℤ}
use Rattle.pages.specs.declared.Question.{Question}

-- what stands for a question where there is none
abbrev pub blank : Question
blank = record { source = 0; sink = 0; value = pos 0 }

abbrev pub question_at : List Question → ℕ → Question
question_at questions i = get_or questions i blank

-- question i where sources, sinks and values have an array each
abbrev pub question_in : (sources sinks : List ℕ) (values : List ℤ) → ℕ → Question
question_in sources sinks values i = record { source = at sources i; sink = at sinks i; value = atℤ values i }
