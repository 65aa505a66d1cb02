-- The two stores change the winding of the dart and of its reverse, and no other.
use mathlib.Core.Path.{◌≡◌, sym, ◌∙◌, ap, subst}
use lib.IntN.{pos, ◌+ℤ◌, ◌-ℤ◌}
use lib.ListN.{set}
use lib.Seq.{get_or-set_other}
use mir.Syntax.{w16}
use mir.Val.{to_z, of_z}
use mir.ValLaws.{to_z-of_z}
use Rattle.integers.specs.inner.Limited.{Limited}
use Rattle.arrays.specs.At.{atℤ}
use Rattle.maps.proofs.Darts.{rev_apart}
use Rattle.windings.proofs.Crossing.{plus_read, minus_read, plus_fits, minus_fits, crossed_once}
use Rattle.windings.proofs.cross.Goals as goal

pub returns : goal.returns
returns c =
    let o = c.reverse-back in
    let l = c.args.winding.now in
    let p = c.args.p in
    let x = o.result in
    let h = c.requires in
    let a = to_z w16 (of_z w16 (to_z w16 (of_z w16 (atℤ l p)) +ℤ pos 1)) in
    let b = to_z w16 (of_z w16 (to_z w16 (of_z w16 (atℤ (set l p a) x)) -ℤ pos 1)) in
    let same : atℤ (set l p a) x ≡ atℤ l x = get_or-set_other l p x a (pos 0) (λ q. rev_apart p (sym o.ensures.0 ∙ q)) in
    let h-x : Limited 1024 (atℤ (set l p a) x) = subst (Limited 1024) (sym (same ∙ ap (atℤ l) o.ensures.0)) h.3 in
    let is-a : a ≡ atℤ l p +ℤ pos 1 = to_z-of_z w16 _ (plus_fits h.2) ∙ plus_read h.2 in
    let is-b : b ≡ atℤ l x -ℤ pos 1 = to_z-of_z w16 _ (minus_fits h-x) ∙ minus_read h-x ∙ ap (λ y. y -ℤ pos 1) same in
    crossed_once l p x a b h.0 h.1 o.ensures.1 o.ensures.0 is-a is-b
