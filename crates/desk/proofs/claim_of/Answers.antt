-- A claim: kind 1 is none.
use mathlib.Core.Path.{◌∙◌, ap}
use native.Mathlib.Omega.{arith}
use Rattle.std.specs.Prelude.{Some}
use Rattle.signed.proofs.Laws.{number_of_bits}
use Rattle.desk.proofs.Judging.{claim_none, claim_value}
use Rattle.desk.proofs.claim_of.Goals as goal

pub returns-then-kind-eq1 : goal.returns-then-kind-eq1
returns-then-kind-eq1 c = claim_none c.args.kind c.args.number (omega arith)

pub returns-else-kind-eq1 : goal.returns-else-kind-eq1
returns-else-kind-eq1 c = ap Some (number_of_bits _ c.ranges.number) ∙ claim_value c.args.kind c.args.number (λ e. omega arith)
