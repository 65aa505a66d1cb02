-- Two levels that 19 leaves, so their difference fits; the second dart of an edge is the reverse of its first.
use mathlib.Core.Path.{◌≡◌, sym, ◌∙◌, ap, ap₂}
use lib.IntN.{◌-ℤ◌}
use borrow.Author.Rules.{rules}
use Rattle.signed.proofs.Laws.{number_of_bits}
use Rattle.maps.proofs.Darts.{rev_even}
use Rattle.arrays.specs.At.{at, atℤ}
use Rattle.levels.proofs.drop_across.Goals as goal

pub returns : goal.returns
returns c =
    let ρ = atℤ c.args.levels.now in
    let lefts = at c.args.lefts.now in
    let is : c.minus.result ≡ ρ c.wide-left.result -ℤ ρ c.wide-right.result = search rules in
    number_of_bits _ (record { sfits = c.minus.type_inv })
    ∙ is
    ∙ ap₂ ◌-ℤ◌ (ap ρ c.wide-left.ensures) (ap ρ (c.wide-right.ensures ∙ ap lefts (sym (rev_even c.args.e))))
