use Prim.Native.Nat.{ℕ, ◌+◌, ◌*◌, ◌^◌, ◌<◌}
use mathlib.Core.Path.{refl, sym, ap, ◌∙◌, subst}
use native.Mathlib.Omega.{arith}
use Rattle.node_sets.specs.inner.Words.{word, flag}
use Rattle.node_sets.proofs.Bits.{word_below, word_with, word_without}
use Rattle.node_sets.proofs.word_of.Goals as goal
use Rattle.node_sets.proofs.word_of.Goals.{then-flagged, else-flagged}

pub loop-k-init : goal.loop-k-init
unfolding word
loop-k-init c = refl

pub set_bit-w-requires : goal.set_bit-w-requires
set_bit-w-requires c = (omega arith, subst (λ (x : ℕ). x < 2 ^ c.loop-k.k) (sym c.loop-k.invariant) (word_below _ c.loop-k.k))

pub loop-k-preserved : goal.loop-k-preserved
loop-k-preserved c =
    let o = c.loop-k in
    let b = λ (k : ℕ). flag c.args.inside.now c.args.nodes (64 * c.args.j + k) in
    elim c.if-flagged.branch [
      | then-flagged w ↦ w.w-is ∙ w.set_bit-w.ensures ∙ ap (λ (x : ℕ). 2 ^ o.k + x) o.invariant ∙ sym
          (word_with b o.k (sym c.flagged.ensures ∙ w.if-flagged.true))
      | else-flagged w ↦ w.w-is ∙ o.invariant ∙ sym (word_without b o.k (sym c.flagged.ensures ∙ w.if-flagged.false))
    ]
