-- The records of all edges, after the head.
use mathlib.Core.Path.{◌≡◌, refl, ◌∙◌, ap}
use Prim.Native.Nat.{ℕ}
use native.Mathlib.Omega.{arith}
use borrow.Author.Rules.{rules}
use Rattle.fields.specs.Fields.{put}
use Rattle.records.specs.Sheet.{edge_after}
use Rattle.records.specs.Encode.{encode_edge, encode_length}
use Rattle.records.proofs.Places.{edge_length}
use Rattle.sheets.specs.Write.{slices_drawing}
use Rattle.sheets.proofs.Placing.{placed_first, placed_length}
use Rattle.sheets.proofs.Writing.{write_start, write_step, write_end}
use Rattle.sheets.proofs.write_edges.Goals as goal

pub loop-e-init : goal.loop-e-init
loop-e-init c = record { kept = refl; written = λ nodes outer old e. write_start _ old _ e }

-- the record of an edge stands where the table has it, behind a head of kind 4
pub loop-e-preserved : goal.loop-e-preserved
unfolding encode_edge
loop-e-preserved c =
    let a = c.args in
    let e = c.loop-e.e in
    let place : c.edge_at-place.result ≡ encode_length e = c.edge_at-place.ensures ∙ ap (λ n. edge_after n e) c.record_length-head.ensures.0 in
    let there : (nodes outer : ℕ)
    → c.write_edge.new.out ≡ put (encode_length e) (encode_edge (slices_drawing nodes outer a.tails.now a.rotations.now a.capacities.now) e) c.loop-e.out
    = λ nodes outer. rw (← place) (search rules) in
    let room = c.requires.3 in
    let 𝓓 = slices_drawing 0 0 a.tails.now a.rotations.now a.capacities.now in
    record {
      kept = placed_length (placed_first {bs = encode_edge 𝓓 e} (there 0 0) (edge_length 𝓓 e)) (omega (arith, c.loop-e.invariant.kept, room))
          ∙ c.loop-e.invariant.kept;
      written = λ nodes outer old h. write_step _ old e _ _ (c.loop-e.invariant.written nodes outer old h) (there nodes outer);
    }

pub returns : goal.returns
returns c = λ nodes outer old h. write_end _ old c.loop-e.e _ (omega arith) (c.loop-e.invariant.written nodes outer old h)
