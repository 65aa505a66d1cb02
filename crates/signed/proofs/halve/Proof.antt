-- `signed::halve` meets its contract: the bits of a number that is not below zero are the number itself.
use mathlib.Core.Path.{◌∙◌, ap}
use borrow.Author.Rules.{rules}
use mir.Syntax.{w32}
use mir.Val.{of_z}
use Rattle.signed.proofs.Laws.{number_of_bits, halved}
use Rattle.signed.proofs.halve.Statement.{statement}
use Rattle.signed.proofs.halve.Tie as tie

returns : tie.Need-returns
returns c =
    let s = c in
    halved s.args.x _ c.to_bits.result s.ranges.x s.requires
    (c.to_bits.ensures ∙ ap (of_z w32) (number_of_bits _ s.ranges.x))
    (number_of_bits _ (record { sfits = c.of_bits.type_inv }) ∙ c.of_bits.ensures)

pub halve_spec : {M : Type 1} → statement M
halve_spec = tie.close (tie.spec (λ c κs. search rules) (λ c κs. search rules) returns)
