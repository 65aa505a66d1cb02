-- `signed::to_bits` meets its contract: below 0 the bits turned over are turned back in u32; else the number is its own bits.
use native.Mathlib.Omega.{arith}
use lib.IntN.{pos}
use lib.Signed.{lt_z}
use mathlib.Core.Path.{◌≡◌}
use mathlib.Core.Bool.{true, false}
use Rattle.signed.proofs.Laws.{number_of_bits, bits_below, turned_over, not_below}
use Rattle.signed.proofs.to_bits.Statement.{statement}
use Rattle.signed.proofs.to_bits.Tie as tie

cast-result : tie.Need-overflow_cast-result
cast-result c =
    let x = c.args.x in
    let f = c.ranges.x in
    let b : lt_z x (pos 0) ≡ true = rw (number_of_bits x f) at c.if-x-lt0.true in
    rw (turned_over x f b) (tt, record { fits = omega arith })

sub-result : tie.Need-overflow_sub-result
sub-result c =
    let x = c.args.x in
    let f = c.ranges.x in
    let b : lt_z x (pos 0) ≡ true = rw (number_of_bits x f) at c.if-x-lt0.true in
    rw (turned_over x f b) (omega arith)

cast-result-2 : tie.Need-overflow_cast-result-else-x-lt0
cast-result-2 c =
    let x = c.args.x in
    let f = c.ranges.x in
    let b : lt_z x (pos 0) ≡ false = rw (number_of_bits x f) at c.if-x-lt0.false in
    rw (number_of_bits x f) ((not_below x b).0, record { fits = omega (arith, (not_below x b).1, bits_below x f) })

returns : tie.Need-returns-then-x-lt0
returns c =
    let x = c.args.x in
    let f = c.ranges.x in
    let b : lt_z x (pos 0) ≡ true = rw (number_of_bits x f) at c.if-x-lt0.true in
    rw (turned_over x f b) (omega (arith, bits_below x f))

returns-2 : tie.Need-returns-else-x-lt0
returns-2 c =
    let x = c.args.x in
    let f = c.ranges.x in
    let b : lt_z x (pos 0) ≡ false = rw (number_of_bits x f) at c.if-x-lt0.false in
    rw (number_of_bits x f) (not_below x b).1

pub to_bits_spec : {M : Type 1} → statement M
to_bits_spec = tie.close (tie.spec cast-result sub-result cast-result-2 returns returns-2)
