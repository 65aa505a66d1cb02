-- The drop and what goes along the dart are exact at 64 bits, and their sum is the flow, which fits 64 and 32 bits.
use mathlib.Core.Path.{◌∙◌}
use native.Mathlib.Omega.{arith}
use borrow.Author.Rules.{rules}
use Rattle.signed.proofs.Laws.{number_of_bits}
use Rattle.edge_flows.proofs.Fitting.{left_in, right_in, drop_fits, held_fits64, held_fits, held_at_last}
use Rattle.edge_flows.proofs.flow_of.Goals as goal

pub drop_over-fall-requires : goal.drop_over-fall-requires
drop_over-fall-requires c =
    let φ = c.requires.2 in
    let l = c.requires.1 in
    (omega (arith, c.requires.0), left_in φ c.args.e l, right_in φ c.args.e l, drop_fits φ c.args.e l)

pub overflow_add-result : goal.overflow_add-result
overflow_add-result c =
    held_fits64 c.requires.2 c.args.e c.requires.1 c.drop_over-fall.result c.from.result c.from-2.result
    (record { sfits = c.drop_over-fall.type_inv })
    (record { sfits = c.from.type_inv })
    (record { sfits = c.from-2.type_inv })
    (search rules)
    c.drop_over-fall.ensures
    (c.from.ensures ∙ number_of_bits _ (record { sfits = search rules }))
    (c.from-2.ensures ∙ number_of_bits _ (record { sfits = search rules }))

pub overflow_cast-result : goal.overflow_cast-result
overflow_cast-result c =
    held_fits c.requires.2 c.args.e c.requires.1 c.drop_over-fall.result c.from.result c.from-2.result
    (record { sfits = c.drop_over-fall.type_inv })
    (record { sfits = c.from.type_inv })
    (record { sfits = c.from-2.type_inv })
    (search rules)
    c.drop_over-fall.ensures
    (c.from.ensures ∙ number_of_bits _ (record { sfits = search rules }))
    (c.from-2.ensures ∙ number_of_bits _ (record { sfits = search rules }))

pub returns : goal.returns
returns c =
    held_at_last c.requires.2 c.args.e c.requires.1 c.drop_over-fall.result c.from.result c.from-2.result
    (record { sfits = c.drop_over-fall.type_inv })
    (record { sfits = c.from.type_inv })
    (record { sfits = c.from-2.type_inv })
    (search rules)
    c.drop_over-fall.ensures
    (c.from.ensures ∙ number_of_bits _ (record { sfits = search rules }))
    (c.from-2.ensures ∙ number_of_bits _ (record { sfits = search rules }))
