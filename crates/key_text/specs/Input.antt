-- An input of which only the front was read. The program reads into a buffer, and stops where the input ends or the buffer is full.
use Rattle.std.specs.Prelude.{ℕ, ◌≡◌, ◌⊎◌, List, length, take}

-- one byte more than the longest input that can be accepted, so that a byte left over is seen
abbrev pub input_room : ℕ
input_room = 8721

-- `whole` begins with the first n bytes of the buffer, and either ends there, or these are all that the buffer holds and more may follow
abbrev pub Begins : (buffer : List ℕ) → ℕ → (whole : List ℕ) → Type 0
Begins buffer n whole = (take n whole ≡ take n buffer) × ((length whole ≡ n) ⊎ (n ≡ length buffer))
