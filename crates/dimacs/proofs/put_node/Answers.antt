-- "n ", a node, and what it is.
use mathlib.Core.List.{◌++◌}
use Prim.Native.Nat.{◌+◌}
use native.Mathlib.Omega.{arith}
use lib.ListN.{length-append}
use Rattle.texts.specs.Decimal.{decimal}
use Rattle.texts.proofs.Joined.{placed_as, placed_then}
use Rattle.dimacs.proofs.put_node.Goals as goal

pub returns : goal.returns
returns c =
    placed_then _ _ _ _ _ _ _ _ c.put_bytes-first.ensures
    (placed_as (λ k. decimal k ++ c.args.role.now) _ _ _ _ c.node_number.ensures c.put_field.ensures)
    (omega (arith, length-append (decimal (c.args.v + 1)) c.args.role.now))
