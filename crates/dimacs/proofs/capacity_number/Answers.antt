-- A number that is not below zero is its own bits.
use mathlib.Core.Path.{◌≡◌, ◌∙◌, refl}
use Prim.Native.Nat.{ℕ}
use native.Mathlib.Omega.{arith}
use lib.IntN.{ℤ, pos, negsuc}
use mir.Syntax.{w32}
use mir.Val.{SFits}
use Rattle.std.specs.Prelude.{Result, Ok, Err, nat_abs}
use Rattle.std.specs.Result.{OkIff, result_unwrap_or}
use Rattle.std.specs.Int.{FitsUnsignedBits}
use Rattle.signed.proofs.Laws.{number_of_bits}
use Rattle.dimacs.specs.Text.{natural}
use Rattle.dimacs.proofs.capacity_number.Goals as goal

own-size : {E : Type 0} (x : ℤ) (r : Result ℕ E) → SFits w32 x → OkIff r (FitsUnsignedBits 32 x) (nat_abs x) → result_unwrap_or r 0 ≡ natural x
unfolding natural
own-size (pos n) (Ok m) fits h = h.1
own-size (pos n) (Err e) fits h = absurd (h (omega (arith, fits.sfits)))
own-size (negsuc n) (Ok m) fits h = absurd h.0
own-size (negsuc n) (Err e) fits h = refl

pub returns : goal.returns
returns c = c.unwrap_or.ensures ∙ own-size _ _ c.ranges.c (rw (number_of_bits _ c.ranges.c) at c.try_from.ensures)
