-- The proving set in a key is the one that the search names (`NamedSet`): that this decides it is what `OneKey` says, so nobody need believe it.
use Rattle.std.specs.Prelude.{ℕ, ◌≡◌, List, take, Result, Ok, Err}
use Rattle.refusals.specs.Order.{NoneOf}
use Rattle.refusals.specs.declared.Refusal.{Refusal}
use Rattle.flows.specs.ProvingSet.{Proves, SetOf, member, size}
use Rattle.records.specs.Sheet.{nodes_of, capacity_of, sheet_map, sheet_drawing}
use Rattle.questions.specs.inner.Named.{NamedSet}
use Rattle.key_text.specs.Question.{source_of, sink_of, value_of, sheet_of, key_checks}
use Rattle.key_text.specs.Text.{cannot_text}

-- where the bytes are not refused and some set proves the delivery impossible, t is the text of the set that the search names
abbrev pub NamedText : (b t : List ℕ) → Type 0
NamedText b t =
    NoneOf (key_checks b)
    → (some : List ℕ) → Proves (sheet_map (sheet_of b)) (capacity_of (sheet_of b)) (source_of b) (sink_of b) (value_of b) (member some)
    → (words : List ℕ) × SetOf (nodes_of (sheet_of b)) words
    × NamedSet (sheet_drawing (sheet_of b)) (source_of b) (sink_of b) (value_of b) words
    × (t ≡ cannot_text (value_of b) (size words) (nodes_of (sheet_of b)) words)

-- the first n bytes are such a text
abbrev pub KeyNamed : (b text' : List ℕ) → ℕ → Type 0
KeyNamed b text' n = NamedText b (take n text')

-- where a key is written
abbrev pub WriteNamed : (b text' : List ℕ) → Result ℕ Refusal → Type 0
WriteNamed b text' (Ok n) = KeyNamed b text' n
WriteNamed b text' (Err r) = Unit
