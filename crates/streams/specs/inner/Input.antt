-- What reading an input into a buffer leaves.
use Rattle.std.specs.Prelude.{ℕ, ◌<◌, ◌≤◌, List, Option, Result, Ok, Err, length, take}
use Rattle.std.specs.Io.KnownBytes.{Consumes, IsAtEnd}
use Rattle.std.specs.declared.io.Error.{Error}

-- so many bytes of the input stand in front of the buffer
abbrev pub Filled : List ℕ → Result ℕ Error → Type 0
Filled buffer (Ok n) = n ≤ length buffer
Filled buffer (Err e) = Unit {0}

-- of a reader whose bytes are known: what stands in front of the buffer is what it gave, and it has no more to give where the buffer is not full
abbrev pub Gave : (known known' : Option (List ℕ)) → List ℕ → Result ℕ Error → Type 0
Gave known known' buffer (Ok n) = Consumes known known' (take n buffer) × (n < length buffer → IsAtEnd known')
Gave known known' buffer (Err e) = Unit {0}
