-- What is said of the key's text. Document 01, demand 3: "a delivery is called impossible by "cannot" and possible by "can", in Solve's answer and in the key's
-- text alike". A field for each statement; all that a field knows of the text is `Key`, which the contracts of `key_text`, `key_of_input` and `write_key` say
-- of what they print. Settings are any function from edges to whole numbers. The proofs are in proofs/Statements.antt.
use Rattle.std.specs.Prelude.{ℕ, ◌≤◌, ◌≡◌, ◌⊎◌, ◌↔◌, List, ◌++◌, get_or, length, take, drop, ℤ}
use Rattle.refusals.specs.Order.{NoneOf, FirstOf}
use Rattle.refusals.specs.Refused.{refused}
use Rattle.flows.specs.ProvingSet.{SetOf, member, size}
use Rattle.records.specs.Sheet.{nodes_of, edges_of}
use Rattle.texts.specs.Decimal.{decimal, number}
use Rattle.texts.specs.Numeral.{numeral}
use Rattle.analyser.specs.Statements.{HighestFor, Possible, Impossible, ProvesOf}
use Rattle.analyser.specs.Drops.{NotEvenInDrops}
use Rattle.key_text.specs.Question.{source_of, sink_of, value_of, sheet_of, key_checks}
use Rattle.key_text.specs.Text.{can_word, cannot_word, refused_word, can_text, cannot_text, refused_text}
use Rattle.key_text.specs.Key.{Key, Prints, Writes}
use Rattle.key_text.specs.Input.{input_room}

-- the text's first word
abbrev pub Says : (word t : List ℕ) → Type 0
Says word t = (rest : List ℕ) × (t ≡ word ++ rest)

pub record KeyText : Type 0 where
  -- "refused" exactly where a check refuses, and the number is that of the first
  pub refused_exactly : (b t : List ℕ) → Key b t → Says refused_word t ↔ ((k p : ℕ) × FirstOf (key_checks b) k p)
  pub refused_number : (b t : List ℕ) → Key b t → (k p : ℕ) → FirstOf (key_checks b) k p → t ≡ refused_text k
  -- an accepted question is answered
  pub can_or_cannot : (b t : List ℕ) → NoneOf (key_checks b) → Key b t → Says can_word t ⊎ Says cannot_word t
  -- "can" exactly when some settings carry the delivery; "cannot" exactly when none do
  pub can_exactly : (b t : List ℕ) → NoneOf (key_checks b) → Key b t
      → Says can_word t ↔ Possible (sheet_of b) (source_of b) (sink_of b) (value_of b)
  pub cannot_exactly : (b t : List ℕ) → NoneOf (key_checks b) → Key b t
      → Says cannot_word t ↔ Impossible (sheet_of b) (source_of b) (sink_of b) (value_of b)
  -- document 02, Job 13: and then none do in n-th parts either
  pub cannot_in_drops : (b t : List ℕ) → NoneOf (key_checks b) → Key b t
      → Says cannot_word t → NotEvenInDrops (sheet_of b) (source_of b) (sink_of b) (value_of b)
  -- under "can": each edge with its flow in the highest answer, and the text is one
  pub can_prints : (b t : List ℕ) → NoneOf (key_checks b) → Key b t → Says can_word t
      → (x : ℕ → ℤ) × HighestFor (sheet_of b) (source_of b) (sink_of b) (value_of b) x × (t ≡ can_text (value_of b) (edges_of (sheet_of b)) x)
  pub can_one : (b t u : List ℕ) → NoneOf (key_checks b) → Key b t → Key b u → Says can_word t → t ≡ u
  -- under "cannot": the nodes of a set that proves it, and its size
  pub cannot_prints : (b t : List ℕ) → NoneOf (key_checks b) → Key b t → Says cannot_word t
      → (words : List ℕ) × SetOf (nodes_of (sheet_of b)) words × ProvesOf (sheet_of b) (source_of b) (sink_of b) (value_of b) (member words)
      × (t ≡ cannot_text (value_of b) (size words) (nodes_of (sheet_of b)) words)
  -- what the program leaves unread decides nothing: an accepted input has fewer bytes than it reads, and the first of them have the keys of all
  pub longest : (b : List ℕ) → NoneOf (key_checks b) → length b ≤ 8720
  pub unread : (n : ℕ) → input_room ≤ n → (b t : List ℕ) → Key b t ↔ Key (take n b) t
  -- behind a key the slice is as it was; all of it where there is no room for some key
  pub rest_kept : (b text text' : List ℕ) (n : ℕ) → Prints b text text' n → drop n text' ≡ drop n text
  pub short_kept : (b text text' : List ℕ) (k p : ℕ) → Writes b text text' (refused k p) → text' ≡ text

-- ── numbers in a text are in base ten ──
pub record Numbers : Type 0 where
  -- they read back, have no leading zero, and no two are written alike
  pub decimal_read : (n : ℕ) → numeral (decimal n) ≡ n
  pub no_leading_zero : (n : ℕ) → get_or (decimal n) 0 0 ≡ 48 → n ≡ 0
  pub number_injective : (x y : ℤ) → number x ≡ number y → x ≡ y
