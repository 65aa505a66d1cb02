-- A limit above the present one: the greatest is stored and decided from the face left of the dart; the flow on the edge is stored and decided.
use mathlib.Core.Path.{refl, sym, ◌∙◌, ap}
use Prim.Native.Nat.{◌*◌, ◌<◌}
use native.Mathlib.Omega.{arith}
use lib.ListN.{length, set, length-set}
use mir.Syntax.{w32}
use mir.Val.{to_z, of_z}
use Rattle.std.specs.Prelude.{Some}
use Rattle.integers.proofs.Laws.{le_of_lt}
use Rattle.arrays.specs.At.{atℤ}
use Rattle.arrays.specs.Maps.{drawing_of}
use Rattle.arrays.proofs.FillLoops.{filled_length}
use Rattle.raising.specs.Raised.{raised}
use Rattle.raising.specs.inner.Sought.{most_limit}
use Rattle.raising.proofs.Raised.{le_same, stored, stored_elsewhere, raised_drawn}
use Rattle.raising.proofs.Seeking.{least_serves, limit_above, limit_small, limit_told, decided_as, sought_as}
use Rattle.raising.proofs.least_limit.Goals as goal

-- ── the greatest capacity is stored ──
pub decide_from-requires : goal.decide_from-requires
decide_from-requires c =
    let a = c.args in
    let p = c.requires.0 in
    let greatest = stored a.edge a.capacities.now a.capacities.now (λ d n. refl) most_limit
    (omega (arith, p.edge_in, p.lent.opened.drawn.few_edges, p.capacities_long)) in (
      record {
        opened = record {
          drawn = rw greatest (raised_drawn a.edge p.present.high (le_same most_limit) p.lent.opened.drawn);
          walked = p.lent.opened.walked;
        };
        ends = p.lent.ends;
        exact = p.lent.exact;
      },
      p.limited,
      omega (arith, p.edge_in),
      p.inside_long,
    )

-- ── it serves: the flow on the edge is stored, and its highest flow written ──
pub decide_from-requires-then-decide_from : goal.decide_from-requires-then-decide_from
decide_from-requires-then-decide_from c =
    let a = c.args in
    let p = c.requires.0 in
    let s = a.demand.source in
    let t = a.demand.sink in
    let v = a.demand.value in
    let cap = a.capacities.now in
    let between = c.decide_from.new.flows in
    let first = c.decide_from.new.inside in
    let σ = p.lent.opened.drawn.plane.sound in
    let 𝓓 = drawing_of a.sizes.nodes a.sizes.edges a.sizes.outer a.tails.now a.rotations.now cap in
    let in_array : 2 * a.edge < length cap = omega (arith, p.edge_in, p.lent.opened.drawn.few_edges, p.capacities_long) in
    let greatest = stored a.edge cap cap (λ d n. refl) most_limit in_array in
    let d = decided_as 𝓓.map (2 * a.edge) greatest s t v a.flows.now between first c.if-decide_from.true c.decide_from.ensures.1 in
    let above = limit_above 𝓓 s t v a.edge a.flows.now between first σ p.lent.ends p.edge_in p.present c.requires.1 d in
    let small = limit_small 𝓓 s t v a.edge a.flows.now between first σ p.lent.ends p.edge_in p.present c.requires.1 d in
    let told = limit_told 𝓓 s t v a.edge a.flows.now between first σ p.lent.ends p.edge_in p.present c.requires.1 d in
    let least =
    stored a.edge (set cap (2 * a.edge) most_limit) cap (stored_elsewhere a.edge cap cap (λ d n. refl) most_limit)
    (to_z w32 (of_z w32 (atℤ between a.edge))) (omega (arith, in_array, length-set cap (2 * a.edge) most_limit))
    ∙ ap (raised (atℤ cap) a.edge) told in (
      record {
        opened = record {
          drawn = rw least (raised_drawn a.edge (le_of_lt above) small.high p.lent.opened.drawn);
          walked = p.lent.opened.walked;
        };
        ends = p.lent.ends;
        exact = filled_length _ _ _ _ d.2 (omega (arith, p.lent.exact)) ∙ p.lent.exact;
      },
      p.limited,
      p.lent.opened.drawn.outer_in,
      c.decide_from.ensures.0,
    )

pub returns-then-decide_from : goal.returns-then-decide_from
returns-then-decide_from c =
    let a = c.args in
    let p = c.requires.0 in
    let s = a.demand.source in
    let t = a.demand.sink in
    let v = a.demand.value in
    let cap = a.capacities.now in
    let between = c.decide_from.new.flows in
    let first = c.decide_from.new.inside in
    let last = c.decide_from-then-decide_from in
    let σ = p.lent.opened.drawn.plane.sound in
    let 𝓓 = drawing_of a.sizes.nodes a.sizes.edges a.sizes.outer a.tails.now a.rotations.now cap in
    let in_array : 2 * a.edge < length cap = omega (arith, p.edge_in, p.lent.opened.drawn.few_edges, p.capacities_long) in
    let greatest = stored a.edge cap cap (λ d n. refl) most_limit in_array in
    let d = decided_as 𝓓.map (2 * a.edge) greatest s t v a.flows.now between first c.if-decide_from.true c.decide_from.ensures.1 in
    let told = limit_told 𝓓 s t v a.edge a.flows.now between first σ p.lent.ends p.edge_in p.present c.requires.1 d in
    let least =
    stored a.edge (set cap (2 * a.edge) most_limit) cap (stored_elsewhere a.edge cap cap (λ d n. refl) most_limit)
    (to_z w32 (of_z w32 (atℤ between a.edge))) (omega (arith, in_array, length-set cap (2 * a.edge) most_limit))
    ∙ ap (raised (atℤ cap) a.edge) told in (
      last.ensures.0,
      sought_as 𝓓 s t v a.edge {old = a.flows.now} refl last.new.flows last.new.inside {r = Some (d.0 a.edge)} (ap Some (sym told))
          (least_serves 𝓓 s t v a.edge a.flows.now σ.range p.lent.ends σ (omega (arith, p.edge_in)) c.requires.1 d.0 d.1 between last.new.flows
          last.new.inside last.result d.2
          (decided_as 𝓓.map a.sizes.outer least s t v between last.new.flows last.new.inside {r = last.result} refl last.ensures.1)),
    )

-- ── none does ──
pub returns : goal.returns
returns c =
    let a = c.args in
    let p = c.requires.0 in
    let cap = a.capacities.now in
    let 𝓓 = drawing_of a.sizes.nodes a.sizes.edges a.sizes.outer a.tails.now a.rotations.now cap in
    let greatest = stored a.edge cap cap (λ d n. refl) most_limit
    (omega (arith, p.edge_in, p.lent.opened.drawn.few_edges, p.capacities_long)) in (
      c.decide_from.ensures.0,
      decided_as 𝓓.map (2 * a.edge) greatest a.demand.source a.demand.sink a.demand.value a.flows.now c.decide_from.new.flows c.decide_from.new.inside
          c.if-decide_from.false c.decide_from.ensures.1,
    )
