-- A dart that was met changes nothing; another goes to the end of the order, where its caller knows that there is room.
use mathlib.Core.Path.{◌∙◌}
use native.Mathlib.Omega.{arith}
use lib.ListN.{length-set}
use lib.Seq.{get_or-set_same, get_or-set_other}
use borrow.Author.Rules.{rules}
use Rattle.traversal.proofs.Spreading.{added_old, added_new}
use Rattle.traversal.proofs.add.Statement.{statement}
use Rattle.traversal.proofs.add.Tie as tie

returns : tie.Need-returns-then-from-d
returns c = let p = c.requires in (p.0, p.1, added_old c.if-from-d.true)

mul-order : tie.Need-offset_bounds-order-end
mul-order c = omega (arith, c.requires.4 c.if-from-d.false)

element-write-order : tie.Need-bounds-order-end
element-write-order c = omega (arith, c.requires.4 c.if-from-d.false)

add-result : tie.Need-overflow_add-result
add-result c = omega (arith, c.requires.4 c.if-from-d.false)

returns-2 : tie.Need-returns
returns-2 c =
    let p = c.requires in
    let a = c.args in
    let l = p.4 c.if-from-d.false in (
      length-set a.order.now a.end c.narrow-2.result ∙ p.0,
      length-set a.from.now a.d c.narrow.result ∙ p.1,
      added_new p.3 c.if-from-d.false
          (get_or-set_same a.from.now a.d c.narrow.result 0 (omega (arith, p.1, p.2)) ∙ c.narrow.ensures)
          (λ y h. get_or-set_other a.from.now a.d y c.narrow.result 0 h)
          (get_or-set_same a.order.now a.end c.narrow-2.result 0 (omega (arith, l, p.0)) ∙ c.narrow-2.ensures)
          (λ i h. get_or-set_other a.order.now a.end i c.narrow-2.result 0 h),
    )

pub add_spec : {M : Type 1} → statement M
add_spec =
    tie.close
    (tie.spec
    (λ c. search rules)
    (λ c. search rules)
    returns
    (λ c κs. search rules)
    (λ c. search rules)
    (λ c. search rules)
    (λ c κs. search rules)
    mul-order
    element-write-order
    add-result
    returns-2)
