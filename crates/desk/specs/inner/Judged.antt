-- Claim and set of a paper judged by numbers alone: the outward total of the set, and whether it holds the source and the sink.
use Rattle.std.specs.Prelude.{ℕ, ◌+◌, ◌≡◌, Bool, cond, ℤ, pos, neg_ℤ, ◌+ℤ◌, ◌<ℤ◌, Option, Some, None}
use Rattle.desk.specs.Paper.{Earns}

abbrev pub IsValue : Option ℤ → ℤ → Type 0
IsValue d v = d ≡ Some v

abbrev pub IsNone : Option ℤ → Type 0
IsNone d = d ≡ None

-- a set with this outward total proves the value impossible: what `bound` says of a set that holds the source and the sink so
abbrev pub ProvesBy : (total value : ℤ) → (from into : Bool) → Type 0
ProvesBy total value from into = total <ℤ cond from (cond into (pos 0) value) (cond into (neg_ℤ value) (pos 0))

-- 01's rule for "none"
abbrev pub NoneBy : (total : ℤ) → (from into : Bool) → Type 0
NoneBy total from into = (from ≡ into) × (total <ℤ pos 0)

-- as `LastSix`
abbrev pub ValuePoints : (v : ℤ) → (claim : Option ℤ) → (total : ℤ) → (from into : Bool) → ℕ → Type 0
ValuePoints v claim total from into n = (b c : ℕ) × Earns (IsValue claim v) 3 b × Earns (ProvesBy total (v +ℤ pos 1) from into) 3 c × (n ≡ b + c)

abbrev pub NonePoints : (claim : Option ℤ) → (total : ℤ) → (from into : Bool) → ℕ → Type 0
NonePoints claim total from into n = Earns (IsNone claim × NoneBy total from into) 6 n

abbrev pub LastSixBy : (largest claim : Option ℤ) → (total : ℤ) → (from into : Bool) → ℕ → Type 0
LastSixBy (Some v) claim total from into n = ValuePoints v claim total from into n
LastSixBy None claim total from into n = NonePoints claim total from into n
