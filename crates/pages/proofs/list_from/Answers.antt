-- One question more: the list is the next of `gathered`.
use mathlib.Core.Path.{◌≡◌, refl, ◌∙◌, ap}
use Prim.Native.Nat.{min}
use native.Mathlib.Omega.{arith}
use borrow.Author.Rules.{rules}
use lib.IntN.{ℤ, pos}
use lib.ListN.{get_or}
use mir.Syntax.{w32}
use mir.Val.{to_z, of_z}
use Rattle.arrays.specs.At.{at, atℤ}
use Rattle.pages.specs.Question.{question_in}
use Rattle.pages.specs.inner.Listed.{emptyList}
use Rattle.pages.specs.declared.Question.{Question}
use Rattle.pages.proofs.Listing.{gathered_start, gathered_next}
use Rattle.pages.proofs.list_from.Goals as goal

pub loop-i-init : goal.loop-i-init
loop-i-init c = c.empty_list-next.ensures ∙ gathered_start _ _

pub loop-i-preserved : goal.loop-i-preserved
loop-i-preserved c =
    let a = c.args in
    let i = c.loop-i.i in
    let value : to_z w32 (of_z w32 (get_or a.values.now i (pos 0))) ≡ atℤ a.values.now i = search rules in
    let asked : ℤ → Question = λ v. record { source = at a.sources.now i; sink = at a.sinks.now i; value = v } in
    gathered_next (question_in a.sources.now a.sinks.now a.values.now) (emptyList a.count) c.loop-i.next _ i _ c.loop-i.invariant (ap asked value) refl

pub returns : goal.returns
returns c =
    let all : c.loop-i.i ≡ min c.args.count 64 = omega (arith, c.held-i-end.ensures) in
    rw all at c.loop-i.invariant
