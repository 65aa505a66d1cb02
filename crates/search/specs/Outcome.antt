-- What a search answers: nothing more where the potentials are settled, or a ring of parents, by the dart that closes it.
use Rattle.std.specs.Prelude.{ℕ, Result, Err}
use Rattle.search.specs.declared.Ring.{Ring}

abbrev pub Outcome : Type 0
Outcome = Result (Unit {0}) Ring

abbrev pub closed_by : {T : Type 0} → ℕ → Result T Ring
closed_by d = Err (record { dart = d })
