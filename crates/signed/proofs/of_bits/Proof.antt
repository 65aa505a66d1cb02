-- `signed::of_bits` meets its contract: bits turned over twice are the same bits.
use Prim.Native.Nat.{◌-◌}
use mathlib.Core.Path.{◌≡◌, ap}
use native.Mathlib.Omega.{arith}
use borrow.Author.Rules.{rules}
use mir.Syntax.{w32}
use mir.Val.{to_z}
use Rattle.signed.proofs.of_bits.Statement.{statement}
use Rattle.signed.proofs.of_bits.Tie as tie

returns-2 : tie.Need-returns-else-n-lt2147483648
returns-2 c = let n = c.args.n in let twice : 4294967295 - (4294967295 - n) ≡ n = omega (arith, c.ranges.n) in ap (to_z w32) twice

pub of_bits_spec : {M : Type 1} → statement M
of_bits_spec = tie.close (tie.spec (λ c. search rules) (λ c. search rules) (λ c. search rules) (λ c. search rules) returns-2)
