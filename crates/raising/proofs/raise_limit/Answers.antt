-- What its checks passed, what was found, and the set written.
use mathlib.Core.Path.{refl}
use native.Mathlib.Omega.{arith}
use borrow.Author.Rules.{rules}
use Rattle.arrays.specs.Maps.{drawing_of}
use Rattle.balance.proofs.Parts.{part_length}
use Rattle.questions.specs.Question.{ValueOutside}
use Rattle.questions.proofs.Asked.{value_limited, room_flows}
use Rattle.questions.proofs.Sets.{written_back, set_written, proves_written}
use Rattle.questions.proofs.Solving.{ends_for, value_inside}
use Rattle.raising.specs.Raise.{limit_checks}
use Rattle.raising.specs.Raised.{raised}
use Rattle.raising.specs.inner.Sought.{most_limit}
use Rattle.raising.proofs.Raising.{is_edge, raise_none, sought_back, told_limit, limit_as}
use Rattle.raising.proofs.raise_limit.Goals as goal

pub find_limit-least-requires : goal.find_limit-least-requires
find_limit-least-requires c =
    let a = c.args in
    let p = c.requires.1 in
    let inside : ValueOutside a.demand.value → ⊥ = search rules in
    let 𝓓 = drawing_of a.sizes.nodes a.sizes.edges a.sizes.outer a.tails.now a.rotations.now a.capacities.now in
    record {
      capacities_long = c.requires.0;
      inside_long = refl;
      lent = record {
        opened = p.opened;
        ends = ends_for 𝓓.map a.demand.source a.demand.sink c.in_ok-check_ends.ensures;
        exact = part_length a.sizes.edges a.flows.now (room_flows _ _ _ _ c.in_ok-check_room.ensures).0;
      };
      edge_in = omega arith;
      limited = value_limited _ (value_inside _ inside);
      present = p.small _ (omega arith);
    }

-- ── a capacity serves ──
pub returns-in-Some : goal.returns-in-Some
returns-in-Some c =
    let a = c.args in
    let s = a.demand.source in
    let t = a.demand.sink in
    let v = a.demand.value in
    let inside : ValueOutside v → ⊥ = search rules in
    let 𝓓 = drawing_of a.sizes.nodes a.sizes.edges a.sizes.outer a.tails.now a.rotations.now a.capacities.now in
    let checks = limit_checks a.sizes.nodes a.sizes.edges s t v a.edge a.flows.now a.set.now in
    let found = c.find_limit-least in
    let none = raise_none a.sizes.nodes a.sizes.edges s t v a.edge a.flows.now a.set.now c.in_ok-check_ends.ensures (value_inside _ inside)
    (is_edge _ _ (omega arith)) c.in_ok-check_room.ensures in
    let h = sought_back 𝓓 s t v a.edge a.flows.now found.new.flows found.new.inside c.in-Some.is found.ensures.1 in
    limit_as 𝓓 checks s t v a.edge a.flows.now _ a.set.now a.set.now
    (told_limit 𝓓 s t v a.edge a.flows.now _ found.new.inside _ (c.requires.1.small _ (omega arith)) h)
    (none, h.0, h.1, h.2, h.3, refl)

-- ── none does: the set is written ──
pub returns : goal.returns
returns c =
    let a = c.args in
    let s = a.demand.source in
    let t = a.demand.sink in
    let v = a.demand.value in
    let inside : ValueOutside v → ⊥ = search rules in
    let 𝓓 = drawing_of a.sizes.nodes a.sizes.edges a.sizes.outer a.tails.now a.rotations.now a.capacities.now in
    let found = c.find_limit-least in
    let two = c.in_ok-check_ends.ensures in
    let h = sought_back 𝓓 s t v a.edge a.flows.now found.new.flows found.new.inside c.in_default.is found.ensures.1 in
    let written = written_back a.set.now c.words_for-words.ensures (room_flows _ _ _ _ c.in_ok-check_room.ensures).1 c.write_set.ensures in (
      raise_none a.sizes.nodes a.sizes.edges s t v a.edge a.flows.now a.set.now two (value_inside _ inside) (is_edge _ _ (omega arith))
          c.in_ok-check_room.ensures,
      h.0,
      (
        _,
        set_written written,
        proves_written c.requires.1.opened.drawn.plane.sound.range (raised 𝓓.capacity a.edge most_limit) written s t two v h.1,
      ),
    )
