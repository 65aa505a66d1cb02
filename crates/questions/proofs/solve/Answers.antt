-- Solve meets its contract: what its checks passed, what was decided, and the set written.
use mathlib.Core.Path.{refl, ◌∙◌}
use borrow.Author.Rules.{rules}
use Rattle.arrays.specs.At.{atℤ}
use Rattle.arrays.specs.Maps.{map_of}
use Rattle.arrays.specs.inner.Flags.{flagged}
use Rattle.balance.proofs.Parts.{part_length}
use Rattle.questions.specs.Question.{ValueOutside}
use Rattle.questions.proofs.Asked.{value_limited, room_flows}
use Rattle.questions.proofs.Sets.{written_back, words_again, set_written, size_small, proves_written}
use Rattle.questions.proofs.Solving.{solve_none, value_inside, ends_for, decided_back}
use Rattle.questions.proofs.solve.Goals as goal

-- ── it is decided ──
pub decide-requires : goal.decide-requires
decide-requires c =
    let a = c.args in
    let inside : ValueOutside a.demand.value → ⊥ = search rules in (
      record {
        opened = c.requires;
        ends = ends_for (map_of a.sizes.nodes a.sizes.edges a.tails.now a.rotations.now) a.demand.source a.demand.sink c.in_ok-check_ends.ensures;
        exact = part_length a.sizes.edges a.flows.now (room_flows _ _ _ _ c.in_ok-check_room.ensures).0;
      },
      value_limited _ (value_inside _ inside),
      refl,
      refl,
    )

pub returns-then-decide : goal.returns-then-decide
returns-then-decide c =
    let a = c.args in
    let inside : ValueOutside a.demand.value → ⊥ = search rules in
    let decided = decided_back (map_of a.sizes.nodes a.sizes.edges a.tails.now a.rotations.now) a.sizes.outer (atℤ a.capacities.now) a.demand.source
    a.demand.sink a.demand.value a.flows.now c.decide.new.flows c.decide.new.inside c.if-decide.true c.decide.ensures.1 in (
      (
        solve_none a.sizes.nodes a.sizes.edges a.demand.source a.demand.sink a.demand.value a.flows.now a.set.now c.in_ok-check_ends.ensures
            (value_inside _ inside) c.in_ok-check_room.ensures,
        decided,
        refl,
      ),
      tt,
    )

-- ── it cannot: the set is written, and the ones in it are counted ──
pub narrow-requires : goal.narrow-requires
narrow-requires c =
    let a = c.args in
    let many = c.words_for-words.ensures in
    let room = (room_flows _ _ _ _ c.in_ok-check_room.ensures).1 in
    let written = written_back a.set.now many room c.write_set.ensures in
    size_small written c.requires.drawn.few_nodes _ (c.count_set-size.ensures ∙ words_again a.set.now many room c.write_set.ensures)

pub returns : goal.returns
returns c =
    let a = c.args in
    let inside : ValueOutside a.demand.value → ⊥ = search rules in
    let 𝓜 = map_of a.sizes.nodes a.sizes.edges a.tails.now a.rotations.now in
    let two = c.in_ok-check_ends.ensures in
    let many = c.words_for-words.ensures in
    let room = (room_flows _ _ _ _ c.in_ok-check_room.ensures).1 in
    let written = written_back a.set.now many room c.write_set.ensures in
    let decided = decided_back 𝓜 a.sizes.outer (atℤ a.capacities.now) a.demand.source a.demand.sink a.demand.value a.flows.now c.decide.new.flows
    c.decide.new.inside c.if-decide.false c.decide.ensures.1 in (
      (
        solve_none a.sizes.nodes a.sizes.edges a.demand.source a.demand.sink a.demand.value a.flows.now a.set.now two (value_inside _ inside)
            c.in_ok-check_room.ensures,
        (
          _,
          set_written written,
          proves_written c.requires.drawn.plane.sound.range (atℤ a.capacities.now) written a.demand.source a.demand.sink two a.demand.value decided.1,
          c.narrow.ensures ∙ c.count_set-size.ensures ∙ words_again a.set.now many room c.write_set.ensures,
        ),
        decided.0,
      ),
      record {
        inside = flagged c.decide.new.inside;
        named = c.decide.ensures.3 c.if-decide.false;
        holds = written.members;
      },
    )
