use mathlib.Core.Path.{◌≡◌, refl, ap, ◌∙◌}
use native.Mathlib.Omega.{arith}
use lib.ListN.{get_or, take}
use lib.Count.{ones-le}
use Rattle.flows.specs.ProvingSet.{words_for, size}
use Rattle.node_sets.proofs.Size.{size_more}
use Rattle.node_sets.proofs.count_set.Goals as goal

pub loop-i-init : goal.loop-i-init
unfolding size
loop-i-init c = (omega arith, refl)

pub loop-i-preserved : goal.loop-i-preserved
loop-i-preserved c =
    let ws = c.args.words.now in
    let i = c.loop-i.i in
    let next = size_more ws i (omega (arith, c.requires.exact)) in
    (omega (arith, ones-le 64 (get_or ws i 0) (c.type_inv.words i).fits), omega arith)

pub returns : goal.returns
returns c =
    let whole : c.loop-i.i ≡ words_for c.args.nodes = omega arith in
    c.loop-i.invariant.1 ∙ ap (λ k. size (take k c.args.words.now)) whole
