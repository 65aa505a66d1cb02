-- The present capacity is decided first; where it fails, the least above it.
use mathlib.Core.Path.{refl, sym, ◌∙◌, ap}
use Prim.Native.Nat.{◌*◌}
use native.Mathlib.Omega.{arith}
use lib.ListN.{length}
use Rattle.std.specs.Prelude.{Some}
use Rattle.signed.proofs.Limits.{same_bits}
use Rattle.arrays.specs.Maps.{drawing_of}
use Rattle.raising.proofs.Seeking.{present_serves, present_fails, decided_as, sought_as}
use Rattle.raising.proofs.find_limit.Goals as goal

-- ── it serves ──
pub returns-then-decide_from : goal.returns-then-decide_from
returns-then-decide_from c =
    let a = c.args in
    let p = c.requires in
    let 𝓓 = drawing_of a.sizes.nodes a.sizes.edges a.sizes.outer a.tails.now a.rotations.now a.capacities.now in
    let decided = decided_as 𝓓.map a.sizes.outer {c = 𝓓.capacity} refl a.demand.source a.demand.sink a.demand.value a.flows.now c.decide_from.new.flows
    c.decide_from.new.inside c.if-decide_from.true c.decide_from.ensures.1 in (
      c.decide_from.ensures.0,
      sought_as 𝓓 a.demand.source a.demand.sink a.demand.value a.edge {old = a.flows.now} refl c.decide_from.new.flows c.decide_from.new.inside
          {r = Some (𝓓.capacity (2 * a.edge))} (ap Some (sym (same_bits (omega arith) p.present)))
          (present_serves 𝓓 a.demand.source a.demand.sink a.demand.value a.edge a.flows.now p.present.high c.decide_from.new.flows
          c.decide_from.new.inside decided),
    )

-- ── it fails ──
pub least_limit-requires : goal.least_limit-requires
least_limit-requires c =
    let a = c.args in
    let p = c.requires in
    let 𝓓 = drawing_of a.sizes.nodes a.sizes.edges a.sizes.outer a.tails.now a.rotations.now a.capacities.now in
    let decided = decided_as 𝓓.map a.sizes.outer {c = 𝓓.capacity} refl a.demand.source a.demand.sink a.demand.value a.flows.now c.decide_from.new.flows
    c.decide_from.new.inside c.if-decide_from.false c.decide_from.ensures.1 in (
      record {
        capacities_long = p.capacities_long;
        inside_long = c.decide_from.ensures.0;
        lent = record { opened = p.lent.opened; ends = p.lent.ends; exact = ap length decided.0 ∙ p.lent.exact };
        edge_in = p.edge_in;
        limited = p.limited;
        present = p.present;
      },
      present_fails 𝓓 a.demand.source a.demand.sink a.demand.value a.edge a.flows.now p.lent.opened.drawn.plane.sound.range p.lent.ends
          c.decide_from.new.flows c.decide_from.new.inside decided,
    )

pub returns : goal.returns
returns c =
    let a = c.args in
    let 𝓓 = drawing_of a.sizes.nodes a.sizes.edges a.sizes.outer a.tails.now a.rotations.now a.capacities.now in
    let decided = decided_as 𝓓.map a.sizes.outer {c = 𝓓.capacity} refl a.demand.source a.demand.sink a.demand.value a.flows.now c.decide_from.new.flows
    c.decide_from.new.inside c.if-decide_from.false c.decide_from.ensures.1 in (
      c.least_limit.ensures.0,
      sought_as 𝓓 a.demand.source a.demand.sink a.demand.value a.edge decided.0 c.least_limit.new.flows c.least_limit.new.inside
          {r = c.least_limit.result} refl c.least_limit.ensures.1,
    )
