-- `relax` meets its contract: the sum is compared and stored as 64 bits, and read back it is the sum.
use mathlib.Core.Path.{ap, ap₂, ◌∙◌, ◌≡◌, refl}
use native.Mathlib.Omega.{arith}
use lib.IntN.{ℤ, ◌+ℤ◌}
use lib.ListN.{set}
use mir.Syntax.{w32, w64}
use mir.Val.{to_z, of_z}
use mir.ValLaws.{to_z-of_z}
use borrow.Author.Rules.{rules}
use Rattle.arrays.proofs.wide.Reads as wide-reads
use Rattle.arrays.specs.At.{atℤ, at}
use Rattle.search.proofs.Order.{test_yes, test_no, mag_add}
use Rattle.search.proofs.relax.Statement.{statement}
use Rattle.search.proofs.relax.Tie as tie
use Rattle.search.proofs.relax.Reads as reads
use Rattle.search.proofs.relax.Lts as lts
use Rattle.signed.proofs.plus_wide.Reads as plus-wide-reads

plus-wide-requires : tie.Need-plus_wide-v-requires
plus-wide-requires c κs =
    let a = c.args in
    rw (
      to_z-of_z w64 (atℤ a.potentials.now a.i) (record { sfits = c.plus_wide-arg-1.given }),
      to_z-of_z w32 (atℤ a.lengths.now a.d) (record { sfits = c.plus_wide-arg-2-1.given }),
    )
    (record { sfits = omega (arith, mag_add (atℤ a.potentials.now a.i) (atℤ a.lengths.now a.d), c.requires.5) })

abbrev Place : Type 0
Place = lts.After-t15-1 (wide-reads.Asked, wide-reads.Learnt, plus-wide-reads.Asked, plus-wide-reads.Learnt) reads.Pre reads.Post

new : (c : Place) → ℤ
new c = let a = c.args in atℤ a.potentials.now a.i +ℤ atℤ a.lengths.now a.d

new_is : (c : Place) → to_z w64 (of_z w64 c.plus_wide-v.result) ≡ new c
unfolding new
new_is c =
    let a = c.args in
    to_z-of_z w64 c.plus_wide-v.result (record { sfits = c.plus_wide-v.type_inv })
    ∙ c.plus_wide-v.ensures
    ∙ ap₂ ◌+ℤ◌
    (to_z-of_z w64 (atℤ a.potentials.now a.i) (record { sfits = c.plus_wide-arg-1.given }))
    (to_z-of_z w32 (atℤ a.lengths.now a.d) (record { sfits = c.plus_wide-arg-2-1.given }))

old : (c : Place) → ℤ
old c = let a = c.args in atℤ a.potentials.now (at a.lefts.now a.d)

old-is : (c : Place)
    → let w = c in to_z w64 (of_z w64 (atℤ w.args.potentials.now w.wide-f.result)) ≡ old c
unfolding old
old-is c =
    let p = c.args.potentials.now in
    let w = c.wide-f in
    to_z-of_z w64 (atℤ p w.result) (record { sfits = c.t15-1.given }) ∙ ap (atℤ p) w.ensures

returns : tie.Need-returns-then-v-potentials
unfolding new old
returns c =
    let a = c.args in
    let w = c.wide-f.ensures in (
      ap₂ (set a.potentials.now) w (new_is c.before.before),
      ap (λ f. set a.parents.now f a.d) w,
      test_yes _ _ _ _ (new_is c.before.before) (old-is c.before.before) c.if-v-potentials.true,
    )

returns-2 : tie.Need-returns
unfolding new old
returns-2 c = (refl, refl, test_no _ _ _ _ (new_is c.before) (old-is c.before) c.if-v-potentials.false)

pub relax_spec : {M : Type 1} → statement M
relax_spec =
    tie.close
    (tie.spec
    (λ c. search rules)
    (λ c. search rules)
    (λ c κs. search rules)
    (λ c. search rules)
    (λ c. search rules)
    (λ c. search rules)
    (λ c. search rules)
    plus-wide-requires
    (λ c. search rules)
    (λ c. search rules)
    (λ c. search rules)
    (λ c. search rules)
    (λ c. search rules)
    (λ c. search rules)
    (λ c. search rules)
    returns
    returns-2)
