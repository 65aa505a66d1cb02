-- What the program key prints for the bytes that it is given (document 01, "The program key").
-- By `Key` the text follows from the bytes, save the proving set and what the text says of it; that every run prints the same all the same is `OneKey`.
use Rattle.std.specs.Prelude.{ℕ, ◌≤◌, ◌<◌, ◌≡◌, List, [], ◌∷◌, ◌++◌, length, drop, ℤ, Result, Ok, Err}
use Rattle.refusals.specs.Order.{Check, ◌when◌, NoneOf, FirstOf}
use Rattle.refusals.specs.declared.Refusal.{Refusal}
use Rattle.flows.specs.Highest.{Highest}
use Rattle.flows.specs.ProvingSet.{Proves, SetOf, member, size}
use Rattle.records.specs.Sheet.{nodes_of, edges_of, capacity_of, sheet_map, outer_of}
use Rattle.key_text.specs.Question.{source_of, sink_of, value_of, sheet_of, key_checks}
use Rattle.key_text.specs.Text.{can_text, cannot_text, refused_text}

-- t is a key for the bytes b: the highest answer, a set that proves the delivery impossible, or the first refusal
pub data Key (b t : List ℕ) : Type 0 where
  can : NoneOf (key_checks b)
      → (x : ℕ → ℤ)
      → Highest (sheet_map (sheet_of b)) (outer_of (sheet_of b)) (capacity_of (sheet_of b)) (source_of b) (sink_of b) (value_of b) x
      → t ≡ can_text (value_of b) (edges_of (sheet_of b)) x
      → Key b t
  cannot : NoneOf (key_checks b)
      → (words : List ℕ)
      → SetOf (nodes_of (sheet_of b)) words
      → Proves (sheet_map (sheet_of b)) (capacity_of (sheet_of b)) (source_of b) (sink_of b) (value_of b) (member words)
      → t ≡ cannot_text (value_of b) (size words) (nodes_of (sheet_of b)) words
      → Key b t
  refused : (k p : ℕ) → FirstOf (key_checks b) k p → t ≡ refused_text k → Key b t

-- a key stands in the first n bytes of the lent text, and the rest is as it was
abbrev pub Prints : List ℕ → (text text' : List ℕ) → ℕ → Type 0
Prints b text text' n = (t : List ℕ) × Key b t × (length t ≡ n) × (n ≤ length text) × (text' ≡ t ++ drop n text)

-- room for every key: 15 bytes for "can −600000000" and its line feed, 13 for each of 512 lines, the longest of which is such as "511 −1000000"
abbrev pub text_room : ℕ
text_room = 6671

-- for a caller that lends any slice: 16 where it is too short for some key, and it is left as it was
abbrev pub key_room_checks : List ℕ → List Check
key_room_checks text = (16 when length text < text_room) ∷ []

abbrev pub Writes : List ℕ → (text text' : List ℕ) → Result ℕ Refusal → Type 0
Writes b text text' (Ok n) = NoneOf (key_room_checks text) × Prints b text text' n
Writes b text text' (Err r) = FirstOf (key_room_checks text) r.number r.place × (text' ≡ text)
