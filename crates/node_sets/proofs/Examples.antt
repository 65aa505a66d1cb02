-- Sets as words, by computation: which bits are set, what is not read, the members and the size.
use mathlib.Core.Path.{◌≡◌, refl}
use mathlib.Core.Bool.{true, false}
use mathlib.Core.List.{[], ◌∷◌}
use lib.Count.{ones, ones_in}
use Rattle.flows.specs.ProvingSet.{words_for, member, size}
use Rattle.node_sets.specs.inner.Words.{word, set_word}

-- of three nodes, 0 and 2 are flagged: bits 0 and 2
pub nodes_0_and_2 : set_word (1 ∷ 0 ∷ 1 ∷ []) 3 0 ≡ 5
unfolding word
nodes_0_and_2 = refl

-- of two nodes: what the flag of a third says is not read, and its bit stays zero
pub third_unused : set_word (1 ∷ 0 ∷ 1 ∷ []) 2 0 ≡ 1
unfolding word
third_unused = refl

-- 64 nodes need one word, 65 need two
pub one_word : words_for 64 ≡ 1
one_word = refl

pub two_words : words_for 65 ≡ 2
two_words = refl

-- bit 1 of the second word is node 65
pub node_65 : member (0 ∷ 2 ∷ []) 65 ≡ true
node_65 = refl

pub not_node_64 : member (0 ∷ 2 ∷ []) 64 ≡ false
not_node_64 = refl

-- the ones of both words
pub four_nodes : size (5 ∷ 3 ∷ []) ≡ 4
unfolding size ones ones_in
four_nodes = refl
