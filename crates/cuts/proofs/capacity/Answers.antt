-- The total of capacities fits 32 bits.
use mathlib.Core.Path.{◌∙◌}
use mir.ValLaws.{to_z-of_z}
use mir.Syntax.{w64}
use Rattle.signed.proofs.Laws.{number_of_bits}
use Rattle.cuts.proofs.Adding.{capacity_fits}
use Rattle.cuts.proofs.capacity.Goals as goal

pub overflow_cast-result : goal.overflow_cast-result
overflow_cast-result c = rw (to_z-of_z w64 _ (record { sfits = c.total.type_inv }) ∙ c.total.ensures) (capacity_fits _ _ _ _ c.requires.0 c.requires.3)

pub returns : goal.returns
returns c =
    let e = to_z-of_z w64 _ (record { sfits = c.total.type_inv }) ∙ c.total.ensures in
    rw e (number_of_bits _ (capacity_fits _ _ _ _ c.requires.0 c.requires.3))
