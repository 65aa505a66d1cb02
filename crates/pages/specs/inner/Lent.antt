-- What a question of a list is lent, and the list: of both buffers.
use Rattle.std.specs.Prelude.{◌≡◌, List, ℕ, ◌*◌, ◌≤◌, length, ℤ}
use Rattle.flows.specs.ProvingSet.{words_for}
use Rattle.arrays.specs.declared.Sizes.{Sizes}

-- one question's stretches: a place for each edge, and as many words as the nodes need
pub record StretchesLent (n : Sizes) (flows : List ℤ) (set : List ℕ) : Type 0 where
  pub flows_exact : length flows ≡ n.edges
  pub set_exact : length set ≡ words_for n.nodes

-- room for the stretches of `count` questions
pub record ListLent (n : Sizes) (count : ℕ) (flows : List ℤ) (sets : List ℕ) : Type 0 where
  pub few : count ≤ 64
  pub flows_room : count * n.edges ≤ length flows
  pub sets_room : count * words_for n.nodes ≤ length sets
