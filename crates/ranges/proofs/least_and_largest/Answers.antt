-- There, the way from source to sink, and back: what each found, and the sets written.
use mathlib.Core.Path.{refl, sym, ◌∙◌}
use Prim.Native.Nat.{◌-◌}
use lib.ListN.{take}
use Rattle.arrays.specs.At.{atℤ}
use Rattle.arrays.specs.Maps.{map_of}
use Rattle.balance.proofs.Parts.{part_length}
use Rattle.questions.proofs.Asked.{room_flows}
use Rattle.questions.proofs.Sets.{written_back, set_written, next_proved, none_written}
use Rattle.questions.proofs.Solving.{ends_for}
use Rattle.questions.proofs.Finding.{told_value, highest_as, maximized_back}
use Rattle.ranges.proofs.Exchanged.{ends_exchanged, negatable, told_least, least_highest, known_back, next_lower, never_nothing, also_written, filled_again}
use Rattle.ranges.proofs.Ranging.{range_none}
use Rattle.ranges.proofs.least_and_largest.Goals as goal

-- ── there ──
pub maximize_from-most-requires : goal.maximize_from-most-requires
maximize_from-most-requires c =
    let a = c.args in (
      record {
        opened = c.requires.opened;
        ends = ends_for (map_of a.sizes.nodes a.sizes.edges a.tails.now a.rotations.now) a.terminals.source a.terminals.sink c.in_ok-check_ends.ensures;
        exact = part_length a.sizes.edges a.high.now (room_flows _ _ _ _ c.in_ok-check_room-2.ensures).0;
      },
      c.requires.small,
      refl,
      refl,
    )

-- ── nothing can be carried ──
pub returns-in_default : goal.returns-in_default
returns-in_default c =
    let a = c.args in
    let s = a.terminals.source in
    let t = a.terminals.sink in
    let many = c.words_for-words.ensures in
    let two = c.in_ok-check_ends.ensures in
    let there = maximized_back (map_of a.sizes.nodes a.sizes.edges a.tails.now a.rotations.now) a.sizes.outer (atℤ a.capacities.now) s t a.high.now
    c.maximize_from-most.new.flows c.maximize_from-most.new.a c.in_default.is c.maximize_from-most.ensures.2 in
    let above = written_back a.above.now many (room_flows _ _ _ _ c.in_ok-check_room-2.ensures).1 c.write_set.ensures in
    let below = written_back a.below.now many (room_flows _ _ _ _ c.in_ok-check_room.ensures).1 c.write_set-in_default.ensures in (
      range_none a.sizes.nodes a.sizes.edges s t a.low.now a.below.now a.high.now a.above.now two c.in_ok-check_room.ensures c.in_ok-check_room-2.ensures,
      refl,
      there.0,
      (
        _,
        also_written below above,
        set_written above,
        none_written c.requires.opened.drawn.plane.sound.range (atℤ a.capacities.now) above s t two there.1 there.2,
      ),
    )

-- ── something can: then back ──
pub negate-requires : goal.negate-requires
negate-requires c =
    let a = c.args in
    let 𝓜 = map_of a.sizes.nodes a.sizes.edges a.tails.now a.rotations.now in
    let there = maximized_back 𝓜 a.sizes.outer (atℤ a.capacities.now) a.terminals.source a.terminals.sink a.high.now c.maximize_from-most.new.flows
    c.maximize_from-most.new.a c.in-Some.is c.maximize_from-most.ensures.2 in
    negatable 𝓜 (atℤ a.capacities.now) c.requires.opened.drawn.few_edges c.requires.small c.maximize_from-most.new.a there.2

pub maximize_on-back-requires : goal.maximize_on-back-requires
maximize_on-back-requires c =
    let a = c.args in
    let s = a.terminals.source in
    let t = a.terminals.sink in
    let p = c.requires in
    let 𝓜 = map_of a.sizes.nodes a.sizes.edges a.tails.now a.rotations.now in
    let two = c.in_ok-check_ends.ensures in
    let room = (room_flows _ _ _ _ c.in_ok-check_room-2.ensures).0 in
    let there = rw c.in-Some.is at c.maximize_from-most.ensures.2 in
    let back = told_least 𝓜 (atℤ a.capacities.now) p.opened.drawn.few_edges p.small c.maximize_from-most.new.a there.2 c.negate.result c.negate.ensures in (
      record {
        opened = p.opened;
        ends = ends_for 𝓜 t s (ends_exchanged _ _ _ two);
        exact = part_length a.sizes.edges a.low.now (room_flows _ _ _ _ c.in_ok-check_room.ensures).0;
      },
      p.small,
      c.maximize_from-most.ensures.0,
      c.maximize_from-most.ensures.1,
      (
        there.0.0,
        take (a.sizes.edges - 0) a.high.now,
        known_back p.opened.drawn.plane.sound.range (atℤ a.capacities.now) s t two a.sizes.outer back there.0.1,
        filled_again a.sizes.edges there.0.0 a.high.now c.maximize_from-most.new.flows room there.0.2,
        part_length a.sizes.edges a.high.now room,
      ),
    )

pub negate-requires-in-Some-back : goal.negate-requires-in-Some-back
negate-requires-in-Some-back c =
    let a = c.args in
    let 𝓜 = map_of a.sizes.nodes a.sizes.edges a.tails.now a.rotations.now in
    let back = maximized_back 𝓜 a.sizes.outer (atℤ a.capacities.now) a.terminals.sink a.terminals.source a.low.now c.maximize_on-back.new.flows
    c.maximize_on-back.new.a c.in-Some-back.is c.maximize_on-back.ensures.1 in
    negatable 𝓜 (atℤ a.capacities.now) c.requires.opened.drawn.few_edges c.requires.small c.maximize_on-back.new.a back.2

pub returns-in-Some-back : goal.returns-in-Some-back
returns-in-Some-back c =
    let a = c.args in
    let s = a.terminals.source in
    let t = a.terminals.sink in
    let p = c.requires in
    let cap = atℤ a.capacities.now in
    let range = p.opened.drawn.plane.sound.range in
    let 𝓜 = map_of a.sizes.nodes a.sizes.edges a.tails.now a.rotations.now in
    let two = c.in_ok-check_ends.ensures in
    let many = c.words_for-words.ensures in
    let above = written_back a.above.now many (room_flows _ _ _ _ c.in_ok-check_room-2.ensures).1 c.write_set.ensures in
    let below = written_back a.below.now many (room_flows _ _ _ _ c.in_ok-check_room.ensures).1 c.write_set-2.ensures in
    let there = maximized_back 𝓜 a.sizes.outer cap s t a.high.now c.maximize_from-most.new.flows c.maximize_from-most.new.a c.in-Some.is
    c.maximize_from-most.ensures.2 in
    let back = maximized_back 𝓜 a.sizes.outer cap t s a.low.now c.maximize_on-back.new.flows c.maximize_on-back.new.a c.in-Some-back.is
    c.maximize_on-back.ensures.1 in
    let v = told_value 𝓜 cap p.opened.drawn.few_edges p.small _ c.maximize_from-most.new.a there.2 in
    let n = told_least 𝓜 cap p.opened.drawn.few_edges p.small c.maximize_on-back.new.a back.2 c.negate-in-Some-back.result
    c.negate-in-Some-back.ensures in (
      range_none a.sizes.nodes a.sizes.edges s t a.low.now a.below.now a.high.now a.above.now two c.in_ok-check_room.ensures c.in_ok-check_room-2.ensures,
      (back.0.0, least_highest range cap s t two a.sizes.outer n back.0.1, back.0.2),
      (
        _,
        set_written below,
        next_lower range cap s t two c.in-Some-back.v _ n (next_proved range cap below t s (ends_exchanged _ _ _ two) _ back.1 back.2),
      ),
      (there.0.0, highest_as (sym v) there.0.1, there.0.2),
      (_, set_written above, next_proved range cap above s t two _ there.1 (v ∙ there.2)),
    )

-- nothing back, where something is carried there: this never comes
pub returns : goal.returns
returns c =
    let a = c.args in
    let s = a.terminals.source in
    let t = a.terminals.sink in
    let cap = atℤ a.capacities.now in
    let 𝓜 = map_of a.sizes.nodes a.sizes.edges a.tails.now a.rotations.now in
    let there = maximized_back 𝓜 a.sizes.outer cap s t a.high.now c.maximize_from-most.new.flows c.maximize_from-most.new.a c.in-Some.is
    c.maximize_from-most.ensures.2 in
    let back = maximized_back 𝓜 a.sizes.outer cap t s a.low.now c.maximize_on-back.new.flows c.maximize_on-back.new.a c.in_default-back.is
    c.maximize_on-back.ensures.1 in
    absurd (never_nothing c.requires.opened.drawn.plane.sound.range cap s t c.in_ok-check_ends.ensures _ back.1 back.2 _ there.0.0 there.0.1.carries)
