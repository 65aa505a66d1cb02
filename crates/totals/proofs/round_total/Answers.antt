use mathlib.Core.Path.{refl, ◌∙◌, ap}
use Prim.Native.Nat.{ℕ, ◌/◌, ◌≤◌, ◌<◌}
use native.Mathlib.Omega.{arith}
use lib.IntN.{◌+ℤ◌}
use mir.Syntax.{w32}
use mir.Val.{to_z}
use Rattle.signed.proofs.Laws.{number_of_bits}
use Rattle.maps.specs.Dart.{rev}
use Rattle.maps.specs.Map.{Map, darts}
use Rattle.maps.specs.Check.{Sound}
use Rattle.maps.proofs.Darts.{rev_in}
use Rattle.flows.specs.ProvingSet.{words_for}
use Rattle.totals.proofs.Adding.{set_off, dart_in, more_fits, turn_on, nearer, turned}
use Rattle.totals.proofs.round_total.Goals as goal

-- the head of a dart is a node, and the set has the word of its bit
head-word : {𝓜 : Map} → Sound 𝓜 → {n : ℕ} → words_for 𝓜.nodes ≤ n → (d : ℕ) → d < darts 𝓜 → 𝓜.tail (rev d) / 64 < n
head-word {𝓜} σ room d l = omega (arith, σ.range.tail_in (rev d) (rev_in 𝓜.edges d l))

pub share-first-requires : goal.share-first-requires
share-first-requires c =
    let p = c.requires in
    (omega (arith, p.0.few_edges, p.1), head-word p.0.sound (omega (arith, p.0.exact)) _ p.1)

pub loop-d-init : goal.loop-d-init
loop-d-init c =
    let p = c.requires in
    let f = c.share-first in
    set_off p.0.sound _ _ p.1 (number_of_bits _ (record { sfits = f.type_inv }) ∙ f.ensures) c.wide-d.ensures

pub share-requires : goal.share-requires
share-requires c =
    let p = c.requires.0 in
    let below = dart_in p.sound _ _ c.requires.1 c.loop-d.invariant in
    (omega (arith, p.few_edges, below), head-word p.sound (omega (arith, p.exact)) _ below)

pub plus-sum-requires : goal.plus-sum-requires
plus-sum-requires c =
    let p = c.requires.0 in
    let t = c.loop-d in
    rw (number_of_bits _ (record { sfits = c.share.type_inv }) ∙ c.share.ensures)
    (more_fits p.sound _ _ c.requires.1 t.invariant c.loop-d-test.true p.few_edges p.small)

pub offset_bounds-rotations-d : goal.offset_bounds-rotations-d
offset_bounds-rotations-d c = omega (arith, c.requires.0.few_edges, dart_in c.requires.0.sound _ _ c.requires.1 c.loop-d.invariant)

pub bounds-rotations-d : goal.bounds-rotations-d
bounds-rotations-d c = omega (arith, c.requires.0.few_edges, dart_in c.requires.0.sound _ _ c.requires.1 c.loop-d.invariant)

pub loop-d-smaller : goal.loop-d-smaller
loop-d-smaller c = nearer c.requires.0.sound _ _ c.requires.1 c.loop-d.invariant c.loop-d-test.true refl c.wide-d-in-loop-d.ensures

pub loop-d-preserved : goal.loop-d-preserved
loop-d-preserved c =
    turn_on c.requires.0.sound _ _ c.requires.1 c.loop-d.invariant c.loop-d-test.true
    (number_of_bits _ (record { sfits = c.plus-sum.type_inv }) ∙ c.plus-sum.ensures
    ∙ ap (λ z. to_z w32 c.loop-d.sum-bits +ℤ z) (number_of_bits _ (record { sfits = c.share.type_inv }) ∙ c.share.ensures))
    c.wide-d-in-loop-d.ensures

pub returns : goal.returns
returns c = turned c.requires.0.sound _ _ c.requires.1 c.loop-d.invariant c.loop-d-test.false
