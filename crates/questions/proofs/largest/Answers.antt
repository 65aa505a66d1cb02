-- Largest meets its contract: what its checks passed, what was found, and the set written.
use mathlib.Core.Path.{◌≡◌, refl}
use mathlib.Core.List.{◌++◌}
use Prim.Native.Nat.{◌-◌}
use lib.ListN.{drop}
use lib.IntN.{ℤ}
use Rattle.std.specs.Prelude.{Option, Some, None, Ok}
use Rattle.arrays.specs.At.{atℤ}
use Rattle.arrays.specs.Maps.{map_of, drawing_of}
use Rattle.balance.proofs.Parts.{part_length}
use Rattle.questions.specs.Largest.{search_checks, LargestFound}
use Rattle.questions.proofs.Asked.{room_flows}
use Rattle.questions.proofs.Sets.{written_back, set_written, next_proved, none_written}
use Rattle.questions.proofs.Solving.{ends_for}
use Rattle.questions.proofs.Finding.{largest_none, maximized_back}
use Rattle.questions.proofs.largest.Goals as goal

pub maximize-most-requires : goal.maximize-most-requires
maximize-most-requires c =
    let a = c.args in (
      record {
        opened = c.requires.opened;
        ends = ends_for (map_of a.sizes.nodes a.sizes.edges a.tails.now a.rotations.now) a.terminals.source a.terminals.sink c.in_ok-check_ends.ensures;
        exact = part_length a.sizes.edges a.flows.now (room_flows _ _ _ _ c.in_ok-check_room.ensures).0;
      },
      c.requires.small,
      refl,
    )

pub returns : goal.returns
returns c = go c.maximize-most.result refl
  where
    go : (m : Option ℤ) → c.maximize-most.result ≡ m
        → LargestFound (drawing_of c.args.sizes.nodes c.args.sizes.edges c.args.sizes.outer c.args.tails.now c.args.rotations.now c.args.capacities.now)
        (search_checks c.args.sizes.nodes c.args.sizes.edges c.args.terminals.source c.args.terminals.sink c.args.flows.now c.args.set.now)
        c.args.terminals.source c.args.terminals.sink c.args.flows.now (c.maximize-most.new.flows ++ drop (c.args.sizes.edges - 0) c.args.flows.now)
        c.args.set.now (c.write_set.new.words ++ drop (c.words_for-words.result - 0) c.args.set.now) (Ok m)
    go (Some v) e =
        let a = c.args in
        let cap = atℤ a.capacities.now in
        let range = c.requires.opened.drawn.plane.sound.range in
        let two = c.in_ok-check_ends.ensures in
        let room = (room_flows _ _ _ _ c.in_ok-check_room.ensures).1 in
        let written = written_back a.set.now c.words_for-words.ensures room c.write_set.ensures in
        let found = maximized_back (map_of a.sizes.nodes a.sizes.edges a.tails.now a.rotations.now) a.sizes.outer cap a.terminals.source a.terminals.sink
        a.flows.now c.maximize-most.new.flows c.maximize-most.new.a e c.maximize-most.ensures.1 in (
          largest_none a.sizes.nodes a.sizes.edges a.terminals.source a.terminals.sink a.flows.now a.set.now two c.in_ok-check_room.ensures,
          found.0,
          (_, set_written written, next_proved range cap written a.terminals.source a.terminals.sink two v found.1 found.2),
        )
    go None e =
        let a = c.args in
        let cap = atℤ a.capacities.now in
        let range = c.requires.opened.drawn.plane.sound.range in
        let two = c.in_ok-check_ends.ensures in
        let room = (room_flows _ _ _ _ c.in_ok-check_room.ensures).1 in
        let written = written_back a.set.now c.words_for-words.ensures room c.write_set.ensures in
        let found = maximized_back (map_of a.sizes.nodes a.sizes.edges a.tails.now a.rotations.now) a.sizes.outer cap a.terminals.source a.terminals.sink
        a.flows.now c.maximize-most.new.flows c.maximize-most.new.a e c.maximize-most.ensures.1 in (
          largest_none a.sizes.nodes a.sizes.edges a.terminals.source a.terminals.sink a.flows.now a.set.now two c.in_ok-check_room.ensures,
          found.0,
          (_, set_written written, none_written range cap written a.terminals.source a.terminals.sink two found.1 found.2),
        )
