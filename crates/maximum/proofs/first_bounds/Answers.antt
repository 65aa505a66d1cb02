-- The negative of a total of capacities fits 32 bits.
use Rattle.signed.proofs.Laws.{number_of_bits}
use Rattle.maximum.proofs.Joining.{cut_limited}
use Rattle.maximum.proofs.first_bounds.Goals as goal

pub negate-requires : goal.negate-requires
negate-requires c =
    rw (number_of_bits _ (record { sfits = c.capacity.type_inv }), c.capacity.ensures) (cut_limited _ _ _ _ c.requires.0 c.requires.3)
