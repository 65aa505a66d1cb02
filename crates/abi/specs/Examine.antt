-- What a C program is told of a class of papers (document 02, Job 14): "the number of papers, the sum, least and greatest points". The result is the number of
-- the refusal, or 0; the figures and the place are behind pointers.
use Rattle.std.specs.Prelude.{ℕ, ◌≡◌, List, ℤ, Option, Some, None, Result, Ok, Err}
use Rattle.refusals.specs.declared.Refusal.{Refusal}
use Rattle.desk.specs.declared.ClassFigures.{ClassFigures}
use Rattle.desk.specs.Class.{Examines}

-- number and sum are told of every class that is not refused, and are 0 of an empty one, which has no least and no greatest; what an answer does not give is as
-- it was
pub record ClassTold (result number number' sum sum' least least' greatest greatest' place place' : ℕ)
    (answer number_is sum_is_lem least-is greatest-is place_is : ℕ) : Type 0 where
  pub result_told : result ≡ answer
  pub number-told : number' ≡ number_is
  pub sum_told : sum' ≡ sum_is_lem
  pub least_told : least' ≡ least-is
  pub greatest_told : greatest' ≡ greatest-is
  pub place_told : place' ≡ place_is

abbrev pub ExamineTold : Result (Option ClassFigures) Refusal → (result number number' sum sum' least least' greatest greatest' place place' : ℕ) → Type 0
ExamineTold (Ok None) result number number' sum sum' least least' greatest greatest' place place' =
    ClassTold result number number' sum sum' least least' greatest greatest' place place' 0 0 0 least greatest place
ExamineTold (Ok (Some m)) result number number' sum sum' least least' greatest greatest' place place' =
    ClassTold result number number' sum sum' least least' greatest greatest' place place' 0 m.number m.sum m.least m.greatest place
ExamineTold (Err r) result number number' sum sum' least least' greatest greatest' place place' =
    ClassTold result number number' sum sum' least least' greatest greatest' place place' r.number number sum least greatest r.place

-- an answer of the operation, and what is told of it
abbrev pub TellsExamine : List ℕ → (source sink : ℕ) → ℤ → (claims : List ℤ) (kinds : List ℕ) (settings : List ℤ) (sets points points' : List ℕ)
    → (number number' sum sum' least least' greatest greatest' place place' result : ℕ) → Type 0
TellsExamine s source sink value claims kinds settings sets points points' number number' sum sum' least least' greatest greatest' place place' result =
    (answer : Result (Option ClassFigures) Refusal)
    × Examines s source sink value claims kinds settings sets points points' answer
    × ExamineTold answer result number number' sum sum' least least' greatest greatest' place place'
