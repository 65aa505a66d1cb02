-- What a result says of an operation with given checks. Document 01, demand 1: "each refusal has its stated condition and place in the order, and leaves all
-- lent memory unchanged". The place behind its pointer is where a refusal is told; Same: everything else behind a pointer is as it was.
use Rattle.std.specs.Prelude.{ℕ, ◌≡◌, ◌≢◌, List}
use Rattle.refusals.specs.Order.{Check, NoneOf, FirstOf}

pub record Says (cs : List Check) (result place place' : ℕ) (Same : Type 0) : Type 0 where
  -- 0 exactly when no check refuses; the place is then as it was
  pub zero_none : result ≡ 0 → NoneOf cs × (place' ≡ place)
  pub none_zero : NoneOf cs → result ≡ 0
  -- not 0: it is the number of the first check that refuses, at the place written, and nothing else is written
  pub refused : result ≢ 0 → FirstOf cs result place' × Same
  -- document 02, Job 8: 11 no longer occurs
  pub not_eleven : result ≢ 11
