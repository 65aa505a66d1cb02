-- The records of all edges, after the head.
use mathlib.Core.Path.{◌≡◌, refl, sym, ◌∙◌, ap}
use Prim.Native.Nat.{◌+◌, ◌<◌}
use native.Mathlib.Omega.{arith}
use native.Mathlib.Numerals.{add-one}
use lib.IntN.{pos}
use mir.Syntax.{w32}
use mir.Val.{to_z, of_z}
use Rattle.signed.proofs.Laws.{number_of_bits}
use Rattle.fields.specs.Fields.{put}
use Rattle.records.specs.Record.{record_length}
use Rattle.records.specs.Sheet.{edge_after}
use Rattle.records.specs.Encode.{encode_edge}
use Rattle.records.proofs.Places.{edge_length}
use Rattle.sheets.proofs.Placing.{placed_first, placed_length}
use Rattle.practice.specs.Grid.{grid_edges}
use Rattle.practice.specs.Seed.{next_state, state_after, capacity_from, forward_of}
use Rattle.practice.specs.Practice.{grid_drawing}
use Rattle.practice.proofs.Accepted.{forward_small}
use Rattle.practice.proofs.Writing.{front_start, front_step, front_end, grid_record}
use Rattle.practice.proofs.write_edges.Goals as goal

pub loop-e-init : goal.loop-e-init
unfolding state_after
loop-e-init c = record {
  state_is = refl;
  small = c.requires.4;
  kept = refl;
  written = λ old e. front_start _ old _ e;
}

pub next_state-state-requires : goal.next_state-state-requires
next_state-state-requires c = c.loop-e.invariant.small

-- ── an edge is written, where the table has it behind a head of kind 1 ──
pub write_edge-requires : goal.write_edge-requires
write_edge-requires c =
    let e = c.loop-e.e in
    let p = c.requires in
    let inside : e < grid_edges c.args.rows c.args.columns = omega (arith, c.loop-e-test.true, c.edge_count-edges.ensures.0) in
    let place : c.edge_at-place.result ≡ edge_after (record_length 1) e = c.edge_at-place.ensures ∙ ap (λ n. edge_after n e) c.record_length-head.ensures.0 in (
      omega (arith, place, c.edge_count-edges.ensures.1, inside),
      omega (arith, place, inside, c.loop-e.invariant.kept, p.5),
      p.1,
      p.2,
      p.3,
      inside,
    )

pub loop-e-preserved : goal.loop-e-preserved
unfolding state_after forward_of
loop-e-preserved c =
    let a = c.args in
    let e = c.loop-e.e in
    let i = c.loop-e.invariant in
    let inside : e < grid_edges a.rows a.columns = omega (arith, c.loop-e-test.true, c.edge_count-edges.ensures.0) in
    let stepped : c.next_state-state.result ≡ state_after a.seed (e + 1) =
    c.next_state-state.ensures.0 ∙ ap next_state i.state_is ∙ ap (state_after a.seed) (sym (add-one e)) in
    let capacity : c.capacity_from-forward.result ≡ pos (forward_of a.seed e) =
    c.capacity_from-forward.ensures ∙ ap (λ x. pos (capacity_from x)) (stepped ∙ ap (state_after a.seed) (add-one e)) in
    let bits : to_z w32 (of_z w32 c.capacity_from-forward.result) ≡ pos (forward_of a.seed e) =
    ap (λ x. to_z w32 (of_z w32 x)) capacity
    ∙ number_of_bits (pos (forward_of a.seed e)) (record { sfits = omega (arith, forward_small a.seed e) }) in
    let place : c.edge_at-place.result ≡ edge_after (record_length 1) e = c.edge_at-place.ensures ∙ ap (λ n. edge_after n e) c.record_length-head.ensures.0 in
    let there : c.write_edge.new.out ≡ put (edge_after (record_length 1) e) (encode_edge (grid_drawing a.rows a.columns a.seed) e) c.loop-e.out =
    rw (grid_record a.rows a.columns a.seed e inside) (rw (place, bits) at c.write_edge.ensures) in
    let 𝓓 = grid_drawing a.rows a.columns a.seed in
    record {
      state_is = stepped;
      small = c.next_state-state.ensures.1;
      kept = placed_length (placed_first {bs = encode_edge 𝓓 e} there (edge_length 𝓓 e)) (omega (arith, i.kept, c.requires.5, inside)) ∙ i.kept;
      written = λ old h. front_step 𝓓 old e c.loop-e.out _ (i.written old h) there;
    }

pub returns : goal.returns
returns c = λ old h. front_end _ old c.loop-e.e _ (omega (arith, c.edge_count-edges.ensures.0)) (c.loop-e.invariant.written old h)
