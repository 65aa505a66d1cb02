-- An answer of a page as numbers. Document 01, "The shape each place takes": "If an answer is an enum, a definition gives this paper's number and values for
-- each case."
use Rattle.std.specs.Prelude.{ℕ, Result, Ok, Err}
use Rattle.refusals.specs.declared.Refusal.{Refusal}
use Rattle.questions.specs.declared.Solution.{Solution}
use Rattle.questions.specs.declared.Solution.TheVariants.{Can, Cannot}

-- the number that tells an answer: 1 can, 0 cannot, else that of the refusal, which is 13 or more
abbrev pub number_told : Result Solution Refusal → ℕ
number_told (Ok Can) = 1
number_told (Ok (Cannot n)) = 0
number_told (Err r) = r.number

-- the size of the set where it cannot, else 0
abbrev pub size_told : Result Solution Refusal → ℕ
size_told (Ok Can) = 0
size_told (Ok (Cannot n)) = n
size_told (Err r) = 0
