-- A practice sheet: 23, then 16, then the head and the edges.
use mathlib.Core.Path.{◌≡◌, sym, ◌∙◌, ap, ap₂}
use mathlib.Core.List.{◌++◌}
use Prim.Native.Nat.{◌*◌}
use native.Mathlib.Omega.{arith}
use lib.ListN.{drop}
use Rattle.records.specs.Record.{record_length}
use Rattle.records.specs.Sheet.{edge_after}
use Rattle.records.specs.Encode.{encode_plain}
use Rattle.practice.specs.Grid.{grid_nodes, grid_edges}
use Rattle.practice.specs.Practice.{grid_drawing, practice_length}
use Rattle.practice.proofs.Writing.{head_written, practice_passes}
use Rattle.practice.proofs.practice_sheet.Goals as goal

pub returns : goal.returns
returns c =
    let a = c.args in
    let made = rw (c.wide-height.ensures, c.wide-width.ensures) at c.if-out_of_range.ensures in
    let edges : c.edge_count-edges.result ≡ grid_edges a.rows a.columns = rw (c.wide-height.ensures, c.wide-width.ensures) at c.edge_count-edges.ensures.0 in
    let nodes : c.times.result ≡ grid_nodes a.rows a.columns = c.times.ensures.0 ∙ ap₂ ◌*◌ c.wide-height.ensures c.wide-width.ensures in
    let n : c.edge_at-end.result ≡ practice_length a.rows a.columns =
    c.edge_at-end.ensures ∙ ap (λ n. edge_after n c.edge_count-edges.result) c.record_length.ensures.0 ∙ ap (edge_after (record_length 1)) edges in
    let headed = head_written (grid_drawing a.rows a.columns a.seed) a.out.now _ c.narrow.result c.narrow-2.result
    (c.narrow.ensures ∙ nodes) (c.narrow-2.ensures ∙ edges) c.write_head.ensures in
    let written = rw (c.wide-height.ensures, c.wide-width.ensures) at (c.write_edges.ensures a.out.now) in (
      practice_passes a.rows a.columns a.seed a.out.now made (omega (arith, n)),
      n,
      written headed ∙ ap (λ k. encode_plain (grid_drawing a.rows a.columns a.seed) ++ drop k a.out.now) (sym n),
    )
