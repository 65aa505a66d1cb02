-- `lengths::carry` meets its contract: the two stores change the lengths of the edge's two darts, and no other.
use mathlib.Core.Path.{◌≡◌, sym, ◌∙◌, ap, subst}
use lib.IntN.{pos, ◌+ℤ◌, ◌-ℤ◌}
use lib.ListN.{set}
use lib.Seq.{get_or-set_other}
use mir.Syntax.{w32}
use mir.Val.{to_z, of_z}
use borrow.Author.Rules.{rules}
use Rattle.signed.proofs.Laws.{number_of_bits}
use Rattle.arrays.specs.At.{atℤ}
use Rattle.integers.specs.inner.Limited.{Limited}
use Rattle.arrays.specs.inner.Sizes.{most_length}
use Rattle.lengths.proofs.Limits.{minus_read, plus_read, minus_fits, plus_fits}
use Rattle.lengths.proofs.Carrying.{carried}
use Rattle.lengths.proofs.carry.Statement.{statement}
use Rattle.lengths.proofs.carry.Tie as tie

minus-requires : tie.Need-minus-requires
minus-requires c κs = let h = c.requires in minus_fits h.4 h.6

-- the first store left the length at x as it was
plus-requires : tie.Need-plus-requires
plus-requires c κs =
    let s = c in
    let a = to_z w32 (of_z w32 c.minus.result) in
    let same = get_or-set_other s.args.lengths.now s.args.p s.args.x a (pos 0) s.requires.3 in
    plus_fits (subst (Limited most_length) (sym same) s.requires.5) s.requires.6

returns : tie.Need-returns
returns c =
    let s = c in
    let l = s.args.lengths.now in
    let p = s.args.p in
    let x = s.args.x in
    let value = s.args.value in
    let h = s.requires in
    let less = c.minus in
    let a = to_z w32 (of_z w32 less.result) in
    let b = to_z w32 (of_z w32 c.plus.result) in
    let same : atℤ (set l p a) x ≡ atℤ l x = get_or-set_other l p x a (pos 0) h.3 in
    let is-a : a ≡ atℤ l p -ℤ value = number_of_bits _ (record { sfits = less.type_inv }) ∙ less.ensures ∙ minus_read h.4 h.6 in
    let is_b : b ≡ atℤ l x +ℤ value =
    number_of_bits _ (record { sfits = c.plus.type_inv }) ∙ c.plus.ensures
    ∙ plus_read (subst (Limited most_length) (sym same) h.5) h.6 ∙ ap (λ y. y +ℤ value) same in
    carried l p x value a b h.0 h.1 h.2 h.3 is-a is_b

pub carry_spec : {M : Type 1} → statement M
carry_spec =
    tie.close
    (tie.spec
    (λ c. search rules)
    (λ c. search rules)
    minus-requires
    (λ c. search rules)
    (λ c. search rules)
    (λ c. search rules)
    (λ c. search rules)
    plus-requires
    (λ c. search rules)
    (λ c. search rules)
    returns)
