-- Winding, heights along the kept walk, and threshold in turn: each call's requirement is a law of `Ringing`.
use mathlib.Core.Path.{refl}
use native.Mathlib.Omega.{arith}
use lib.IntN.{pos}
use Rattle.arrays.proofs.FillLoops.{same_everywhere}
use Rattle.solver.proofs.Ringing.{few_darts, ring_round, heights_fillable, choosable, chosen, made_of_ring}
use Rattle.solver.proofs.cut_of_ring.Statement.{statement}
use Rattle.solver.proofs.cut_of_ring.Tie as tie

mul-fill-winding : tie.Need-overflow_mul-edges
mul-fill-winding c = omega (arith, c.requires.2.few_edges)

fill-winding-requires : tie.Need-fill_winding-requires
fill-winding-requires c κs = let q = c.requires.2 in (refl, few_darts q, omega arith, ring_round q, same_everywhere 1024 (pos 0))

abbrev begun : tie.After-fill_winding → tie.Start
begun c = c.before.before

mul-fill-heights : tie.Need-overflow_mul-edges-2
mul-fill-heights c = omega (arith, (begun c).requires.2.few_edges)

fill-heights-requires : tie.Need-fill_heights-requires
fill-heights-requires c κs =
    let w = c in
    let p = (begun w.before.before).requires in
    (refl, heights_fillable p.2 p.1.forest w.fill_winding.ensures.1)

abbrev wound : tie.After-fill_heights → tie.After-fill_winding
wound c = c.before.before.before

mul-choose-set : tie.Need-overflow_mul-edges-3
mul-choose-set c = omega (arith, (begun (wound c.before)).requires.2.few_edges)

choose-set-requires : tie.Need-choose_set-requires
choose-set-requires c κs =
    let h = c in
    let w = wound h.before.before in
    let p = (begun w).requires in
    (p.0, choosable p.2 p.1.forest w.fill_winding.ensures.1 h.fill_heights.ensures.1)

returns : tie.Need-returns
returns c =
    let e = c.choose_set.ensures in
    let h = c in
    let w = wound h.before.before.before in
    let p = (begun w).requires in
    let f = h.fill_heights.ensures in
    (e.0, chosen p.2 _ e.1, made_of_ring p.2 p.1.forest w.fill_winding.ensures.1 f.1 refl f.2 e.2)

pub cut_of_ring_spec : {M : Type 1} → statement M
cut_of_ring_spec =
    tie.close
    (tie.spec
    mul-fill-winding
    fill-winding-requires
    mul-fill-heights
    fill-heights-requires
    mul-choose-set
    choose-set-requires
    returns)
