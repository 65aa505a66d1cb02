-- One tree, from a dart that nothing is listed before.
use mathlib.Core.Path.{refl}
use mathlib.Core.Logic.{inl}
use native.Mathlib.Omega.{arith}
use Rattle.traversal.proofs.Spreading.{growing_none, finished}
use Rattle.traversal.proofs.spread.Statement.{statement}
use Rattle.traversal.proofs.spread.Tie as tie

unmark-all-requires : tie.Need-unmark_all-requires
unmark-all-requires c κs = c.requires.1

grow-requires : tie.Need-grow-requires
grow-requires c κs =
    let u = c in
    let p = u.requires in
    let e = u.unmark_all.ensures in (
      p.0,
      e.0,
      p.2,
      p.3,
      p.5,
      growing_none p.2 e.1,
      record { inside = p.4; fresh = e.1 _ (omega (arith, p.2, p.4)); next = inl (refl, refl, refl) },
    )

returns : tie.Need-returns
returns c =
    let p = c.requires in
    let e = c.grow.ensures in
    (e.0, e.1, finished e.2 p.3 p.5)

pub spread_spec : {M : Type 1} → statement M
spread_spec = tie.close (tie.spec unmark-all-requires grow-requires returns)
