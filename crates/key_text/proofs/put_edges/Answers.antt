-- A line has at most 13 bytes, so those of all edges have room.
use mathlib.Core.List.{List}
use mathlib.Core.Path.{subst, sym}
use Prim.Native.Nat.{ℕ}
use native.Mathlib.Omega.{arith}
use borrow.Author.Rules.{rules}
use Rattle.integers.specs.inner.Limited.{Limited}
use Rattle.signed.proofs.Laws.{number_of_bits}
use Rattle.arrays.specs.At.{atℤ}
use Rattle.texts.specs.Lines.{lines}
use Rattle.texts.proofs.Joined.{placed_none, placed_as, lines_more, lines_length}
use Rattle.key_text.specs.Text.{edge_line}
use Rattle.key_text.proofs.Length.{edge_line_length}
use Rattle.key_text.proofs.put_edges.Goals as goal

pub loop-e-init : goal.loop-e-init
unfolding lines
loop-e-init c = placed_none _ _

pub put_edge-end-requires : goal.put_edge-end-requires
put_edge-end-requires c =
    let flow = atℤ c.args.flows.now in
    let e = c.loop-e.e in
    let line : ℕ → List ℕ = λ i. edge_line i (flow i) in
    let before = lines_length 13 e line (λ i h. edge_line_length i (flow i) (omega arith) (c.requires.2 i (omega arith))) in
    let fits : Limited 1000000 (flow e) = c.requires.2 e (omega arith) in
    (omega arith, omega arith, subst (Limited 1000000) (sym (number_of_bits (flow e) (record { sfits = search rules }))) fits)

pub loop-e-preserved : goal.loop-e-preserved
loop-e-preserved c =
    let flow = atℤ c.args.flows.now in
    let e = c.loop-e.e in
    let line : ℕ → List ℕ = λ i. edge_line i (flow i) in
    let before = lines_length 13 e line (λ i h. edge_line_length i (flow i) (omega arith) (c.requires.2 i (omega arith))) in
    let here = edge_line_length e (flow e) (omega arith) (c.requires.2 e (omega arith)) in
    lines_more _ _ _ e line _ _ _ c.loop-e.invariant
    (placed_as (edge_line e) _ _ _ _ (number_of_bits (flow e) (record { sfits = search rules })) c.put_edge-end.ensures)
    (omega arith)
