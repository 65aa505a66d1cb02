-- The parents of the faces before f are taken from the proposal, or left.
use Rattle.std.specs.Prelude.{◌≡◌, List, ℕ, ◌≤◌, ◌<◌, length}
use Rattle.arrays.specs.At.{at}
use Rattle.search.specs.Moves.{parent_from, taken_from}

pub record Taking (lefts : List ℕ) (darts : ℕ) (proposal : List ℕ) (f : ℕ) (parents : List ℕ) (number : ℕ) : Type 0 where
  pub size : length parents ≡ 1024
  pub taken : (x : ℕ) → x < f → at parents x ≡ parent_from lefts darts proposal x
  pub rest : (x : ℕ) → f ≤ x → at parents x ≡ at proposal x
  pub counted : number ≡ taken_from lefts darts f proposal
