-- A set of nodes made from flags, one for each node, and written as 64-bit words (document 01, "A proving set").
use Rattle.std.specs.Prelude.{ℕ, zero, suc, ◌+◌, ◌*◌, ◌^◌, ◌≤◌, ◌<◌, ◌≡◌, Bool, ◌&&◌, List, eqb, ltb, length, get_or, take, drop}
use Rattle.integers.specs.Sum.{bit}
use Rattle.flows.specs.ProvingSet.{words_for, member, SetOf}

-- the number whose bits are the tests at 0, .., n - 1, lowest first
unfoldable pub word : (ℕ → Bool) → ℕ → ℕ
word b zero = 0
word b (suc n) = bit (b n) * 2 ^ n + word b n

-- v is a node, and its flag is 1
abbrev pub flag : List ℕ → ℕ → ℕ → Bool
flag inside nodes v = ltb v nodes && eqb (get_or inside v 0) 1

-- word j of the set
abbrev pub set_word : List ℕ → ℕ → ℕ → ℕ
set_word inside nodes j = word (λ k. flag inside nodes (64 * j + k)) 64

-- a slice lent for a set of nodes: as many words as they need, and no more
pub record WordsLent (nodes : ℕ) (words : List ℕ) : Type 0 where
  pub few_nodes : nodes ≤ 1024
  pub exact : length words ≡ words_for nodes

-- what `write_set` leaves: the words that the nodes need are the set of the flagged nodes, with unused bits zero, and further words are as before
pub record Written (inside : List ℕ) (nodes : ℕ) (before after : List ℕ) : Type 0 where
  pub length_kept : length after ≡ length before
  pub rest_kept : drop (words_for nodes) after ≡ drop (words_for nodes) before
  pub set_of : SetOf nodes (take (words_for nodes) after)
  pub words_are : (i : ℕ) → i < words_for nodes → get_or (take (words_for nodes) after) i 0 ≡ set_word inside nodes i
  pub members : (v : ℕ) → v < nodes → member (take (words_for nodes) after) v ≡ eqb (get_or inside v 0) 1
