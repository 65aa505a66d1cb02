-- Write: the slices are of one even length, the drawing passed, there is room; then the head and the edges are written.
use mathlib.Core.Path.{◌≡◌, sym, ◌∙◌, ap}
use mathlib.Core.List.{◌++◌}
use native.Mathlib.Omega.{arith}
use lib.ListN.{drop}
use Rattle.records.specs.Sheet.{edge_after}
use Rattle.records.specs.Encode.{encode, encode_length}
use Rattle.sheets.specs.Write.{edges_in, slices_drawing}
use Rattle.sheets.proofs.Writing.{head_written, write_whole}
use Rattle.sheets.proofs.write.Goals as goal

pub returns : goal.returns
returns c =
    let a = c.args in
    let 𝓓 = slices_drawing a.nodes a.outer a.tails.now a.rotations.now a.capacities.now in
    let n : c.edge_at-end.result ≡ encode_length (edges_in a.tails.now) =
    c.edge_at-end.ensures ∙ ap (λ k. edge_after k (edges_in a.tails.now)) c.record_length.ensures.0 in
    let passed = rw (c.wide.ensures, c.wide-2.ensures) at c.in_ok-check_slices.ensures in (
      write_whole a.nodes a.outer a.tails.now a.rotations.now a.capacities.now a.out.now (omega arith) (omega arith) (omega arith) passed (omega (arith, n)),
      n,
      c.write_edges.ensures a.nodes a.outer a.out.now (head_written 𝓓 a.out.now _ c.narrow.result c.narrow.ensures c.write_head.ensures)
          ∙ ap (λ k. encode 𝓓 ++ drop k a.out.now) (sym n),
    )
