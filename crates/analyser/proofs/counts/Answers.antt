-- What Totals by node says of the sheet checks, then the head is read.
use mathlib.Core.Path.{◌∙◌}
use mathlib.Core.List.{List}
use Prim.Native.Nat.{ℕ}
use native.Mathlib.Omega.{arith}
use lib.IntN.{ℤ, pos}
use lib.ListN.{replicate, length-replicate}
use Rattle.std.proofs.lemmas.Result.{err_from_is_err_and}
use Rattle.analyser.proofs.Counted.{totals_passed, totals_refused}
use Rattle.analyser.proofs.counts.Goals as goal

abbrev no_set : List ℕ
no_set = replicate 9 0

abbrev no_totals : List ℤ
no_totals = replicate 513 (pos 0)

pub returns-in_err-totals : goal.returns-in_err-totals
returns-in_err-totals c =
    let p = err_from_is_err_and c.from_residual.result c.from_residual.ensures.1 in
    rw (p.1, p.2) (totals_refused c.args.sheet.now no_set no_totals _ (omega (arith, length-replicate {A = ℕ} 9 0))
    (omega (arith, length-replicate 513 (pos 0))) _ c.in_err-totals.ensures)

pub nodes_of-requires : goal.nodes_of-requires
nodes_of-requires c = (totals_passed c.args.sheet.now no_set no_totals _ _ c.in_ok-totals.ensures).counted

pub narrow-requires : goal.narrow-requires
narrow-requires c = omega (arith, c.nodes_of.ensures, (totals_passed c.args.sheet.now no_set no_totals _ _ c.in_ok-totals.ensures).few_nodes)

pub edges_of-requires : goal.edges_of-requires
edges_of-requires c = (totals_passed c.args.sheet.now no_set no_totals _ _ c.in_ok-totals.ensures).counted

pub narrow-requires-2 : goal.narrow-requires-2
narrow-requires-2 c = omega (arith, c.edges_of.ensures, (totals_passed c.args.sheet.now no_set no_totals _ _ c.in_ok-totals.ensures).few_edges)

pub outer_of-requires : goal.outer_of-requires
outer_of-requires c = (totals_passed c.args.sheet.now no_set no_totals _ _ c.in_ok-totals.ensures).whole

pub narrow-requires-3 : goal.narrow-requires-3
narrow-requires-3 c = omega (arith, c.outer_of.ensures, (totals_passed c.args.sheet.now no_set no_totals _ _ c.in_ok-totals.ensures).low_outer)

pub returns : goal.returns
returns c = (
  (totals_passed c.args.sheet.now no_set no_totals _ _ c.in_ok-totals.ensures).sheet,
  c.narrow.ensures ∙ c.nodes_of.ensures,
  c.narrow-2.ensures ∙ c.edges_of.ensures,
  c.narrow-3.ensures ∙ c.outer_of.ensures,
)
