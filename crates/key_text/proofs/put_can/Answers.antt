-- The key of an answer "can": the first line and the lines of the edges, one behind another.
use mathlib.Core.Path.{sym, subst}
use mathlib.Core.List.{List}
use Prim.Native.Nat.{ℕ}
use native.Mathlib.Omega.{arith}
use Rattle.integers.specs.inner.Limited.{Limited}
use Rattle.signed.proofs.Laws.{number_of_bits}
use Rattle.arrays.specs.At.{atℤ}
use Rattle.texts.proofs.Joined.{placed_then, lines_length, placed_as}
use Rattle.key_text.specs.Text.{edge_line, can_line, can_text}
use Rattle.key_text.proofs.Length.{can_line_length, edge_line_length}
use Rattle.key_text.proofs.put_can.Goals as goal

pub put_can_line-at-requires : goal.put_can_line-at-requires
put_can_line-at-requires c = (omega arith, subst (Limited 600000000) (sym (number_of_bits _ c.ranges.value)) c.requires.1)

pub put_edges-requires : goal.put_edges-requires
put_edges-requires c =
    let first = placed_as can_line _ _ _ _ (number_of_bits _ c.ranges.value) c.put_can_line-at.ensures in
    let short = can_line_length c.args.value c.requires.1 in
    (omega (arith, first.1), c.requires.2, c.requires.3)

pub returns : goal.returns
unfolding can_text
returns c =
    let flow = atℤ c.args.flows.now in
    let line : ℕ → List ℕ = λ e. edge_line e (flow e) in
    let all = lines_length 13 c.args.edges line (λ i h. edge_line_length i (flow i) (omega arith) (c.requires.3 i h)) in
    let first = placed_as can_line _ _ _ _ (number_of_bits _ c.ranges.value) c.put_can_line-at.ensures in
    placed_then _ _ _ _ _ _ _ _ first c.put_edges.ensures (omega (arith, can_line_length c.args.value c.requires.1))
