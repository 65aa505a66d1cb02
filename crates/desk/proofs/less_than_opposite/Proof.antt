-- A sum at 64 bits, which never wraps, beside -1.
use mathlib.Core.Path.{◌∙◌, ap, ap₂}
use borrow.Author.Rules.{rules}
use lib.IntN.{negsuc, ◌+ℤ◌}
use lib.Signed.{lt_z}
use mir.Syntax.{w64}
use mir.ValLaws.{to_z-of_z}
use Rattle.signed.proofs.Laws.{number_of_bits}
use Rattle.desk.proofs.less_than_opposite.Statement.{statement}
use Rattle.desk.proofs.less_than_opposite.Tie as tie

returns : tie.Need-returns
returns c =
    let f = c.ranges in
    ap (λ x. lt_z x (negsuc 0))
    (to_z-of_z w64 _ (record { sfits = c.add32.type_inv }) ∙ c.add32.ensures ∙ ap₂ ◌+ℤ◌ (number_of_bits _ f.x) (number_of_bits _ f.v))

pub less_than_opposite_spec : {M : Type 1} → statement M
less_than_opposite_spec = tie.close (tie.spec (λ c κs. search rules) returns)
