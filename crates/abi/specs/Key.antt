-- What a C program is told of a key's text. Document 01, "The program key"; a key that says "refused" is an answer here: the only refusal is 16, of a text that
-- is too short for some key. The result is the number of the refusal, or 0; the number of bytes and the place are behind pointers.
use Rattle.std.specs.Prelude.{ℕ, ◌≡◌, List, Result, Ok, Err}
use Rattle.refusals.specs.declared.Refusal.{Refusal}
use Rattle.key_text.specs.Key.{Writes}
use Rattle.key_text.specs.inner.Named.{WriteNamed}

-- length is the number of bytes where there is a key, place is that of the refusal; what an answer does not give is as it was
abbrev pub KeyTold : Result ℕ Refusal → (result length length' place place' : ℕ) → Type 0
KeyTold (Ok n) result length length' place place' = (result ≡ 0) × (length' ≡ n) × (place' ≡ place)
KeyTold (Err r) result length length' place place' = (result ≡ r.number) × (length' ≡ length) × (place' ≡ r.place)

-- a key, its set the one that the search names, and what is told of it
abbrev pub TellsKey : List ℕ → (text text' : List ℕ) (length length' place place' result : ℕ) → Type 0
TellsKey input text text' length length' place place' result =
    (answer : Result ℕ Refusal) × Writes input text text' answer × WriteNamed input text' answer × KeyTold answer result length length' place place'
