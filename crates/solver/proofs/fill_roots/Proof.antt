-- The roots are read off the walk, or off a walk of their own.
use mathlib.Core.Path.{sym, subst}
use native.Mathlib.Omega.{arith}
use borrow.Author.Rules.{rules}
use Rattle.arrays.specs.At.{at}
use Rattle.traversal.specs.inner.Forest.{RootsOf}
use Prim.Native.Nat.{◌*◌}
use Rattle.solver.proofs.fill_roots.Statement.{statement}
use Rattle.solver.proofs.fill_roots.Tie as tie

first-faces-requires : tie.Need-first_faces-requires
first-faces-requires c κs = let p = c.requires in (p.0, omega (arith, p.1), p.4)

returns : tie.Need-returns-then-first-sizes
returns c =
    let t = c in
    let a = t.args in
    let e = c.first_faces.ensures in
    let queue = c.first_faces.new.roots in
    (e.0, subst (λ f. RootsOf (2 * a.sizes.edges) (at a.rotations.now) f (at a.lefts.now) (at queue) a.sizes.parts) (sym t.if-first-sizes.true) e.1)

roots-of-requires : tie.Need-roots_of-requires
roots-of-requires c κs = let p = c.requires in (p.0, omega (arith, p.1), omega arith, p.2, p.3)

returns-2 : tie.Need-returns
returns-2 c = c.roots_of.ensures

pub fill_roots_spec : {M : Type 1} → statement M
fill_roots_spec = tie.close (tie.spec (λ c. search rules) first-faces-requires returns (λ c. search rules) roots-of-requires returns-2)
