-- 16, or the key as it is written.
use mathlib.Core.Path.{refl}
use mathlib.Core.Logic.{inl}
use native.Mathlib.Omega.{arith}
use Rattle.refusals.specs.Order.{NoneOf, FirstOf}
use Rattle.key_text.proofs.write_key.Goals as goal

pub returns-then-text-lt6671 : goal.returns-then-text-lt6671
unfolding FirstOf
returns-then-text-lt6671 c = rw c.refused.ensures ((inl (c.if-text-lt6671.true, refl, refl), refl), tt)

pub returns : goal.returns
unfolding NoneOf
returns c = let key = c.put_key.ensures in ((((λ l. omega arith), tt), key.0), key.1)
