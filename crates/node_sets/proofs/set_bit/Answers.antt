-- The or of a word that is filled below bit k with that bit is their sum.
use Prim.Native.Nat.{ℕ}
use mathlib.Core.Path.{ap, ◌∙◌}
use lib.Bits.{bit_or}
use Rattle.node_sets.proofs.Bits.{one_shl, or_above}
use Rattle.node_sets.proofs.set_bit.Goals as goal

pub returns : goal.returns
returns c = ap (λ (x : ℕ). bit_or c.args.w x) (one_shl c.args.k c.requires.0) ∙ or_above c.args.w c.args.k c.requires.1
