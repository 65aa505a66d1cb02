-- The key of a question on a sheet: each arm of the match has what Solve ensures of its answer, and prints it, by a law of `Answering`.
use mathlib.Core.Path.{sym, ap, subst, ◌∙◌}
use mathlib.Core.List.{List}
use Prim.Native.Nat.{ℕ, ◌≤◌, ◌<◌}
use native.Mathlib.Omega.{arith}
use lib.ListN.{length, replicate, length-replicate}
use lib.IntN.{ℤ, pos}
use Rattle.std.specs.Prelude.{Ok, Err}
use Rattle.signed.proofs.Laws.{number_of_bits}
use Rattle.integers.specs.inner.Limited.{Limited}
use Rattle.records.specs.Sheet.{nodes_of, edges_of}
use Rattle.questions.specs.declared.Solution.TheVariants.{Can, Cannot}
use Rattle.key_text.proofs.Answering.{of_bytes, head_there, few_nodes, few_edges, value_fits, flows_fit}
use Rattle.key_text.proofs.Answering.{can_printed, cannot_printed, refused_printed}
use Rattle.key_text.proofs.put_answer.Goals as goal

-- the key's own slices, before Solve
abbrev no_flows : List ℤ
no_flows = replicate 512 (pos 0)

abbrev no_set : List ℕ
no_set = replicate 9 0

long : 512 ≤ length no_flows
long = omega (arith, length-replicate 512 (pos 0))

wide : 9 ≤ length no_set
wide = omega (arith, length-replicate {A = ℕ} 9 0)

-- ── it can ──
pub edges_of-requires : goal.edges_of-requires
edges_of-requires c =
    let is = c.in-Ok-Can.is ∙ ap Ok c.in-Ok-Can.field-0-is in
    let solved = rw (number_of_bits _ c.ranges.value, is) at c.solve.ensures in
    head_there _ _ _ _ _ c.solve.new.flows _ c.solve.new.set solved.0.0

pub put_can-requires : goal.put_can-requires
put_can-requires c =
    let is = c.in-Ok-Can.is ∙ ap Ok c.in-Ok-Can.field-0-is in
    let solved = rw (number_of_bits _ c.ranges.value, is) at c.solve.ensures in
    let flows' = c.solve.new.flows in
    let set' = c.solve.new.set in
    let few = few_edges _ _ _ _ _ flows' _ set' solved.0.0 in (
      omega (arith, few),
      subst (Limited 600000000) (sym (number_of_bits _ c.ranges.value)) (value_fits _ _ _ _ _ flows' _ set' solved.0.0),
      omega (arith, few),
      λ i l. flows_fit _ _ _ _ _ flows' _ set' solved.0 i (subst (λ k. i < k) c.edges_of.ensures l),
    )

pub returns-in-Ok-Can : goal.returns-in-Ok-Can
returns-in-Ok-Can c b question sheet source sink value =
    let is = c.in-Ok-Can.is ∙ ap Ok c.in-Ok-Can.field-0-is in
    let solved = rw (number_of_bits _ c.ranges.value, is) at c.solve.ensures in
    let flows' = c.solve.new.flows in
    let set' = c.solve.new.set in
    can_printed b question no_flows flows' no_set set' long wide c.args.text.now c.put_can.new.text c.put_can.auto.text c.put_can.result _
    (number_of_bits _ c.ranges.value ∙ sym value)
    (of_bytes (sym sheet) (sym source) (sym sink) (sym value) no_flows flows' no_set set' (Ok Can) solved)
    _
    (c.edges_of.ensures ∙ ap edges_of (sym sheet))
    c.put_can.ensures

-- ── it cannot ──
pub nodes_of-requires : goal.nodes_of-requires
nodes_of-requires c =
    let is = c.in-Ok-Cannot.is ∙ ap Ok c.in-Ok-Cannot.field-0-is in
    let solved = rw (number_of_bits _ c.ranges.value, is) at c.solve.ensures in
    head_there _ _ _ _ _ c.solve.new.flows _ c.solve.new.set solved.0.0

pub put_cannot-requires : goal.put_cannot-requires
put_cannot-requires c =
    let is = c.in-Ok-Cannot.is ∙ ap Ok c.in-Ok-Cannot.field-0-is in
    let solved = rw (number_of_bits _ c.ranges.value, is) at c.solve.ensures in
    let flows' = c.solve.new.flows in
    let set' = c.solve.new.set in
    let few = few_nodes _ _ _ _ _ flows' _ set' solved.0.0 in (
      omega (arith, few),
      subst (Limited 600000000) (sym (number_of_bits _ c.ranges.value)) (value_fits _ _ _ _ _ flows' _ set' solved.0.0),
      omega (arith, few),
    )

pub returns-in-Ok-Cannot : goal.returns-in-Ok-Cannot
returns-in-Ok-Cannot c b question sheet source sink value =
    let is = c.in-Ok-Cannot.is ∙ ap Ok c.in-Ok-Cannot.field-0-is in
    let solved = rw (number_of_bits _ c.ranges.value, is) at c.solve.ensures in
    let flows' = c.solve.new.flows in
    let set' = c.solve.new.set in
    cannot_printed b question no_flows flows' no_set set' long wide c.args.text.now c.put_cannot.new.text c.put_cannot.auto.text
    c.put_cannot.result _
    (number_of_bits _ c.ranges.value ∙ sym value)
    _
    (of_bytes (sym sheet) (sym source) (sym sink) (sym value) no_flows flows' no_set set' (Ok (Cannot _)) solved)
    _
    (c.nodes_of.ensures ∙ ap nodes_of (sym sheet))
    c.put_cannot.ensures

-- ── refused ──
pub returns-in-Err : goal.returns-in-Err
returns-in-Err c b question sheet source sink value =
    let solved = rw (number_of_bits _ c.ranges.value, c.in-Err.is) at c.solve.ensures in
    let flows' = c.solve.new.flows in
    let set' = c.solve.new.set in
    refused_printed b question no_flows flows' no_set set' long wide c.args.text.now c.put_refused.new.text c.put_refused.auto.text c.put_refused.result _
    (of_bytes (sym sheet) (sym source) (sym sink) (sym value) no_flows flows' no_set set' (Err _) solved)
    c.put_refused.ensures
