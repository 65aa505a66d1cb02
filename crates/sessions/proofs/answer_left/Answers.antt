-- What is not fit is refused 13; of what is fit the arrays hold a drawing, and the question is asked of it.
use mathlib.Core.Path.{refl}
use Rattle.refusals.proofs.Order.{first_none}
use Rattle.signed.proofs.Laws.{number_of_bits}
use Rattle.arrays.specs.Maps.{map_of, drawing_of}
use Rattle.arrays.proofs.FillLoops.{same_everywhere}
use Rattle.rotations.specs.MapChecks.{map_checks}
use Rattle.sessions.specs.Fit.{Fit}
use Rattle.sessions.proofs.Fitting.{fit_drawn}
use Rattle.sessions.proofs.Asking.{drawings_same, answered, named_answered, fit_answered, unfit_answered}
use Rattle.sessions.proofs.answer_left.Goals as goal

pub returns-then-not-in_bounds : goal.returns-then-not-in_bounds
returns-then-not-in_bounds c =
    let a = c.args in
    let same = drawings_same c.wide-n.ensures c.wide-m.ensures c.wide-o.ensures a.tails.now a.rotations.now a.left.now in
    rw c.refused.ensures (unfit_answered _ _ same (λ f. c.if-not-in_bounds.ensures f.bounds) a.source a.sink a.value a.flows.now a.set.now, tt, tt)

pub check_map-requires : goal.check_map-requires
check_map-requires c =
    let b = c.if-not-in_bounds.ensures in
    (b.few_edges, b.few_nodes, b.outer_in, refl, refl, refl, refl, refl, b.range, same_everywhere 1024 0)

pub returns-in_default : goal.returns-in_default
returns-in_default c =
    let a = c.args in
    let same = drawings_same c.wide-n.ensures c.wide-m.ensures c.wide-o.ensures a.tails.now a.rotations.now a.left.now in
    let 𝓜 = map_of c.wide-n.result c.wide-m.result a.tails.now a.rotations.now in
    let r = c.in_default.field-0 in
    rw c.refused-in_default.ensures (
      unfit_answered _ _ same (λ f. first_none (map_checks 𝓜) r.number r.place c.in_default.ensures.5 f.passes) a.source a.sink a.value a.flows.now a.set.now,
      tt,
      tt,
    )

pub solve-requires : goal.solve-requires
solve-requires c =
    let a = c.args in
    let p = c.in-Ok.ensures.5 in
    let fit : Fit (drawing_of c.wide-n.result c.wide-m.result c.wide-o.result a.tails.now a.rotations.now a.left.now) =
    record { bounds = c.if-not-in_bounds.ensures; passes = p.0 } in
    record { drawn = fit_drawn _ fit _ _ p.1 p.2; walked = c.in-Ok.ensures.6 }

pub returns : goal.returns
returns c =
    let a = c.args in
    let same = drawings_same c.wide-n.ensures c.wide-m.ensures c.wide-o.ensures a.tails.now a.rotations.now a.left.now in
    let fit : Fit (drawing_of c.wide-n.result c.wide-m.result c.wide-o.result a.tails.now a.rotations.now a.left.now) =
    record { bounds = c.if-not-in_bounds.ensures; passes = c.in-Ok.ensures.5.0 } in
    let value = number_of_bits _ c.ranges.value in
    let e = c.solve.ensures in (
      answered _ _ same fit c.wide.ensures c.wide-2.ensures value a.flows.now _ a.set.now _ c.solve.result e.0,
      named_answered _ _ same c.wide.ensures c.wide-2.ensures value _ c.solve.result e.1,
      fit_answered _ _ same fit c.solve.result,
    )
