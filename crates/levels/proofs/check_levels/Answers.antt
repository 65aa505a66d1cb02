use mathlib.Core.Path.{sym, ap, ◌∙◌}
use mathlib.Core.Logic.{◌≢◌}
use native.Mathlib.Omega.{arith}
use lib.IntN.{pos}
use lib.ListN.{length}
use borrow.Author.Rules.{rules}
use Rattle.arrays.specs.At.{at, atℤ}
use Rattle.levels.specs.inner.Across.{OneOf}
use Rattle.levels.specs.Level.{LevelOutside}
use Rattle.levels.proofs.Level.{levels_outside, levels_off, levels_none}
use Rattle.levels.proofs.check_levels.Goals as goal

pub returns-then-level_outside : goal.returns-then-level_outside
returns-then-level_outside c =
    let f = c.loop-f.f in
    let here : LevelOutside (atℤ c.args.levels.now f) = search rules in
    rw c.refused.ensures (levels_outside _ _ _ f (omega arith) here)

pub returns-then-levels-wide-ne0 : goal.returns-then-levels-wide-ne0
returns-then-levels-wide-ne0 c =
    let a = c.args in
    let here : atℤ a.levels.now c.wide.result ≢ pos 0 = search rules in
    rw c.refused-then-levels-wide-ne0.ensures
    (levels_off (length a.levels.now) (OneOf (at a.roots.now) a.count) (atℤ a.levels.now) (λ k l. c.loop-f.invariant k (omega arith))
    c.wide.result (c.loop-m.m, omega arith, sym c.wide.ensures) here)

pub returns : goal.returns
returns c =
    let a = c.args in
    levels_none (length a.levels.now) (OneOf (at a.roots.now) a.count) (atℤ a.levels.now) (λ k l. c.loop-f.invariant k (omega arith))
    (λ f r. ap (atℤ a.levels.now) (sym r.2) ∙ c.loop-m.invariant r.0 (omega (arith, r.1)))
