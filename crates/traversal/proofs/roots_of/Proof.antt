-- A walk over all darts, and the first faces of its trees.
use borrow.Author.Rules.{rules}
use Rattle.traversal.proofs.roots_of.Statement.{statement}
use Rattle.traversal.proofs.roots_of.Tie as tie

spread-all-requires : tie.Need-spread_all-trees-requires
spread-all-requires c κs = let p = c.requires in (search rules, search rules, p.1, p.2, p.3, p.4)

first-faces-requires : tie.Need-first_faces-requires
first-faces-requires c κs =
    let w = c in
    let p = w.requires in
    (p.0, p.1, w.spread_all-trees.ensures.2)

returns : tie.Need-returns
returns c = let e = c.first_faces.ensures in (e.0, e.1)

pub roots_of_spec : {M : Type 1} → statement M
roots_of_spec = tie.close (tie.spec spread-all-requires first-faces-requires returns)
