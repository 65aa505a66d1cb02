-- A walk from the dart, and the nodes that it met: those of its part (`Preparing`).
use mathlib.Core.Path.{refl}
use native.Mathlib.Omega.{arith}
use Rattle.solver.proofs.Preparing.{part_flagged}
use Rattle.solver.proofs.flag_part.Statement.{statement}
use Rattle.solver.proofs.flag_part.Tie as tie

mul-spread : tie.Need-overflow_mul-edges
mul-spread c = omega (arith, c.requires.1)

spread-requires : tie.Need-spread-requires
spread-requires c κs =
    let p = c.requires in
    (refl, refl, omega (arith, p.1), omega arith, p.3, p.4.range.rotation_in)

abbrev begun : tie.After-spread → tie.Start
begun c = c.before.before.before

mul-flag-met : tie.Need-overflow_mul-edges-2
mul-flag-met c = omega (arith, (begun c.before).requires.1)

flag-met-requires : tie.Need-flag_met-requires
flag-met-requires c κs =
    let p = (begun c.before.before).requires in
    (p.0, omega (arith, p.1), λ d l. omega (arith, p.4.range.tail_in d l, p.2))

returns : tie.Need-returns
returns c =
    let w = c in
    let p = (begun w.before.before.before).requires in
    let e = c.flag_met.ensures in
    (e.0, part_flagged p.4 w.spread.ensures.2 p.2 c.flag_met.new.inside e.1)

pub flag_part_spec : {M : Type 1} → statement M
flag_part_spec = tie.close (tie.spec mul-spread spread-requires mul-flag-met flag-met-requires returns)
