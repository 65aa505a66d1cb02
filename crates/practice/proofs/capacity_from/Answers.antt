-- The capacity that a state gives is less than 100, so its bits are the number.
use mathlib.Core.Path.{◌≡◌, ◌∙◌, ap}
use native.Mathlib.Omega.{arith}
use Prim.Native.Nat.{ℕ, ◌/◌, ◌%◌, ◌<◌}
use lib.IntN.{pos}
use mir.Syntax.{w32}
use mir.Val.{to_z, of_z}
use mir.ValLaws.{to_z_pos}
use Rattle.signed.proofs.Laws.{number_of_bits, number_fits}
use native.Mathlib.Nat.{mod-lt}
use Rattle.practice.specs.Seed.{capacity_from}
use Rattle.practice.proofs.capacity_from.Goals as goal

small-number : (n : ℕ) → n < 100 → to_z w32 (of_z w32 (to_z w32 n)) ≡ pos n
small-number n l = number_of_bits (to_z w32 n) (number_fits n (omega arith)) ∙ to_z_pos w32 n (omega arith)

pub returns : goal.returns
unfolding capacity_from
returns c =
    let n = c.args.state / 65536 in
    ap (λ x. to_z w32 (of_z w32 x)) c.of_bits.ensures ∙ small-number (n % 100) (mod-lt n (omega arith))
