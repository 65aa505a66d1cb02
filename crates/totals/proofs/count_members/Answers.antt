use mathlib.Core.Path.{refl, sym, ◌∙◌, ap}
use Prim.Native.Nat.{ℕ, ◌+◌}
use native.Mathlib.Omega.{arith}
use Rattle.integers.specs.Sum.{sum}
use Rattle.flows.specs.ProvingSet.{member}
use Rattle.totals.proofs.Listing.{count_in, count_out}
use Rattle.totals.proofs.count_members.Goals as goal
use Rattle.totals.proofs.count_members.Goals.{then-contains, else-contains}

pub loop-v-init : goal.loop-v-init
unfolding sum
loop-v-init c = record { few = omega arith; counted = refl }

pub loop-v-preserved : goal.loop-v-preserved
loop-v-preserved c =
    let o = c.loop-v in
    let set = c.args.set.now in
    let t = c.contains.ensures in
    elim c.if-contains.branch [
      | then-contains w ↦ record {
        few = omega (arith, w.members-is, o.invariant.few);
        counted = w.members-is ∙ ap (λ (x : ℕ). x + 1) o.invariant.counted ∙ sym (count_in o.v (member set) (sym t ∙ w.if-contains.true));
      }
      | else-contains w ↦ record {
        few = omega (arith, w.members-is, o.invariant.few);
        counted = w.members-is ∙ o.invariant.counted ∙ sym (count_out o.v (member set) (sym t ∙ w.if-contains.false));
      }
    ]
