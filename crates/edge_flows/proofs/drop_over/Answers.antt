-- The second dart of an edge is the reverse of its first, and the drop fits as required.
use mathlib.Core.Path.{sym}
use mir.Syntax.{w64}
use mir.ValLaws.{to_z-of_z}
use borrow.Author.Rules.{rules}
use Rattle.maps.proofs.Darts.{rev_even}
use Rattle.arrays.specs.At.{atℤ}
use Rattle.edge_flows.proofs.drop_over.Goals as goal

pub bounds-potentials-right : goal.bounds-potentials-right
bounds-potentials-right c = rw (c.from-right.ensures, sym (rev_even c.args.e)) c.requires.2

pub overflow_sub-result : goal.overflow_sub-result
overflow_sub-result c =
    let ρ = atℤ c.args.potentials.now in
    rw (
      to_z-of_z w64 (ρ c.from-left.result) (record { sfits = search rules }),
      to_z-of_z w64 (ρ c.from-right.result) (record { sfits = search rules }),
      c.from-left.ensures,
      c.from-right.ensures,
      sym (rev_even c.args.e),
    ) c.requires.3

pub returns : goal.returns
returns c =
    let ρ = atℤ c.args.potentials.now in
    rw (
      to_z-of_z w64 (ρ c.from-left.result) (record { sfits = search rules }),
      to_z-of_z w64 (ρ c.from-right.result) (record { sfits = search rules }),
      c.from-left.ensures,
      c.from-right.ensures,
      sym (rev_even c.args.e),
    ) (to_z-of_z w64 _ c.requires.3)
