-- Whether the limits left could be lowered by an offer, and what is left then: what the function that takes an offer tells the one that commits.
use Rattle.std.specs.Prelude.{ℕ, ◌≡◌, Bool, cond, List, ℤ}
use Rattle.refusals.specs.Order.{Decides}
use Rattle.arrays.specs.At.{atℤ}
use Rattle.arrays.specs.Filled.{tabulate}
use Rattle.sessions.specs.Fit.{Lowerable}
use Rattle.parties.specs.Shared.{lowered_by}

pub record Taken (edges : ℕ) (left offer left' : List ℤ) (b : Bool) : Type 0 where
  pub tested : Decides (Lowerable edges (atℤ left) (atℤ offer)) b
  pub after : left' ≡ cond b (lowered_by edges left (tabulate edges (atℤ offer))) left
