-- Checks 3, 24, 4 to 7 and 9 to 12: the numbers passed, then the edges, then the map is in arrays; each way out is the answer of the whole list.
use mathlib.Core.Path.{refl, sym, subst}
use native.Mathlib.Omega.{arith}
use lib.Seq.{length-take-le}
use Rattle.std.proofs.lemmas.Result.{err_from_is_err_and}
use Rattle.std.specs.Prelude.{Ok, Err}
use Rattle.refusals.proofs.Order.{none_append, first_right}
use Rattle.maps.specs.Check.{InRange}
use Rattle.arrays.specs.At.{at}
use Rattle.arrays.proofs.FillLoops.{same_everywhere}
use Rattle.rotations.specs.MapChecks.{MapJudged}
use Rattle.records.proofs.Drawing.{counts_range, outer_range}
use Rattle.sheets.specs.Write.{slices_drawing, drawing_checks}
use Rattle.sheets.proofs.Writing.{loaded_map, turns_range}
use Rattle.sheets.proofs.check_slices.Goals as goal

-- ── the edges ──
pub check_edges-requires : goal.check_edges-requires
check_edges-requires c =
    let p = c.requires in
    (p.0, p.1, omega (arith, p.2, (counts_range _ _ _ c.in_ok-check_numbers.ensures).3))

-- ── the arrays are loaded ──
pub slice_bounds-all_tails-end : goal.slice_bounds-all_tails-end
slice_bounds-all_tails-end c = omega (arith, c.requires.2, (counts_range _ _ _ c.in_ok-check_numbers.ensures).3)

pub slice_bounds-copy-end : goal.slice_bounds-copy-end
slice_bounds-copy-end c = sym (length-take-le _ _ (omega (arith, c.requires.2, (counts_range _ _ _ c.in_ok-check_numbers.ensures).3)))

pub copy-requires : goal.copy-requires
copy-requires c = length-take-le _ _ (omega (arith, c.requires.2, (counts_range _ _ _ c.in_ok-check_numbers.ensures).3))

-- ── the map ──
pub check_map-requires : goal.check_map-requires
check_map-requires c =
    let n = counts_range _ _ _ c.in_ok-check_numbers.ensures in
    let a = c.args in
    let is = loaded_map a.nodes a.tails.now a.rotations.now c.copy.ensures c.copy-2.ensures in
    let 𝓓 = slices_drawing a.nodes a.outer a.tails.now a.rotations.now a.capacities.now in
    let range = subst InRange (sym is) (turns_range 𝓓 c.in_ok-check_edges.ensures) in
    (n.3, omega (arith, n.1), outer_range _ _ _ c.in_ok-check_numbers.ensures, refl, refl, refl, refl, refl, range, same_everywhere 1024 0)

pub returns-in_err-check_map : goal.returns-in_err-check_map
unfolding drawing_checks
returns-in_err-check_map c =
    let a = c.args in
    let p = err_from_is_err_and c.from_residual-in_err-check_map.result c.from_residual-in_err-check_map.ensures.1 in
    let is = loaded_map a.nodes a.tails.now a.rotations.now c.copy.ensures c.copy-2.ensures in
    rw (p.1, p.2)
    (first_right _ _ _ _ c.in_ok-check_numbers.ensures (first_right _ _ _ _ c.in_ok-check_edges.ensures
    (subst (λ 𝓜. MapJudged 𝓜 (at c.check_map.new.lefts) (Err c.in_err-check_map.field-0.0)) is c.in_err-check_map.ensures.5)))

pub returns : goal.returns
unfolding drawing_checks
returns c =
    let a = c.args in
    let is = loaded_map a.nodes a.tails.now a.rotations.now c.copy.ensures c.copy-2.ensures in
    none_append _ _ c.in_ok-check_numbers.ensures (none_append _ _ c.in_ok-check_edges.ensures
    (subst (λ 𝓜. MapJudged 𝓜 (at c.check_map.new.lefts) (Ok c.in_ok-check_map.field-0)) is c.in_ok-check_map.ensures.5).0)
