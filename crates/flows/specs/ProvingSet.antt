-- Proving sets. Document 01, "A proving set": "For delivery L, the set proves impossibility if its outward total is less than L when it holds the headgate and
-- not the outfall, less than −L when it holds the outfall and not the headgate, less than 0 otherwise. It is written as 64-bit words, node i being bit i mod 64
-- of word i div 64, unused bits zero, words as many as the nodes need. Its size is the number of ones in its words."
use Rattle.std.specs.Prelude.{ℕ, ◌+◌, ◌/◌, ◌%◌, ◌^◌, ◌≤◌, ◌<◌, ◌≡◌, Bool, false, cond, List, [], ◌∷◌, eqb, length, get_or, ℤ, pos, neg_ℤ, ◌<ℤ◌}
use Rattle.std.specs.Int.Count.{ones}
use Rattle.maps.specs.Map.{Map}
use Rattle.maps.specs.Cut.{cut}

-- what the outward total of S must be below, to prove the value impossible
unfoldable pub bound : (ℕ → Bool) → ℕ → ℕ → ℤ → ℤ
bound S s t value = cond (S s) (cond (S t) (pos 0) value) (cond (S t) (neg_ℤ value) (pos 0))

-- S proves that nothing carries the value from s to t
abbrev pub Proves : Map → (ℕ → ℤ) → (s t : ℕ) → ℤ → (ℕ → Bool) → Type 0
Proves 𝓜 c s t value S = cut 𝓜 c S <ℤ bound S s t value

-- ── the set as words ──
-- as many words as the nodes need
abbrev pub words_for : ℕ → ℕ
words_for nodes = (nodes + 63) / 64

-- node i is bit i mod 64 of word i div 64
abbrev pub member : List ℕ → ℕ → Bool
member words i = eqb (get_or words (i / 64) 0 / 2 ^ (i % 64) % 2) 1

-- a set of nodes, written in as many words as they need, each of 64 bits, unused bits zero
pub record SetOf (nodes : ℕ) (words : List ℕ) : Type 0 where
  pub long : length words ≡ words_for nodes
  pub fits : (i : ℕ) → i < length words → get_or words i 0 < 2 ^ 64
  pub unused : (i : ℕ) → nodes ≤ i → member words i ≡ false

-- the number of ones in the words
unfoldable pub size : List ℕ → ℕ
size [] = 0
size (w ∷ ws) = ones w + size ws
