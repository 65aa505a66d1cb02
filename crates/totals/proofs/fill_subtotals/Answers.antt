use mathlib.Core.Path.{◌≡◌, refl, sym, ◌∙◌, ap}
use mathlib.Core.List.{List}
use Prim.Native.Nat.{ℕ, ◌*◌, ◌≤◌, ◌<◌}
use native.Mathlib.Omega.{arith}
use lib.ListN.{length}
use mir.Syntax.{w64}
use mir.ValLaws.{to_z-of_z}
use Rattle.integers.specs.Sum.{count}
use Rattle.signed.proofs.Laws.{number_of_bits}
use Rattle.flows.specs.ProvingSet.{member}
use Rattle.arrays.specs.At.{at, atℤ}
use Rattle.arrays.specs.Maps.{map_of}
use Rattle.maps.specs.Check.{Sound}
use Rattle.totals.specs.Subtotal.{subtotal}
use Rattle.totals.specs.inner.Starts.{Starts}
use Rattle.totals.proofs.Filling.{fill_start, fill_put, fill_pass, fill_end, place_few, place_in, same_long, sum_fits}
use Rattle.totals.proofs.fill_subtotals.Goals as goal
use Rattle.totals.proofs.fill_subtotals.Goals.{then-contains, else-contains}

pub loop-v-init : goal.loop-v-init
loop-v-init c = fill_start _ _ _ _

-- the dart of the node v in the table is one of the darts, and leaves it
start-at : (nodes edges : ℕ) (tails rotations starts : List ℕ) {v start : ℕ} → Sound (map_of nodes edges tails rotations)
    → Starts (2 * edges) (at tails) (at starts) → v < nodes → start ≡ at starts v → (start < 2 * edges) × (at tails start ≡ v)
start-at nodes edges tails rotations starts {v} {start} sound table l e =
    let d = sound.has_dart v l in
    let s = table d.0 d.1 in
    let is : start ≡ at starts (at tails d.0) = e ∙ ap (at starts) (sym d.2) in
    (omega (arith, is, s.0), ap (at tails) is ∙ s.1 ∙ d.2)

pub round_total-sum-requires : goal.round_total-sum-requires
round_total-sum-requires c =
    let a = c.args in
    let p = c.requires.0 in
    (p, (start-at a.nodes a.edges a.tails.now a.rotations.now a.starts.now p.sound c.requires.1 c.loop-v-test.true c.wide-start.ensures).0)

pub plus_wide-total-requires : goal.plus_wide-total-requires
plus_wide-total-requires c =
    let p = c.requires.0 in
    let a = c.args in
    let at-start = start-at a.nodes a.edges a.tails.now a.rotations.now a.starts.now p.sound c.requires.1 c.loop-v-test.true c.wide-start.ensures in
    sum_fits _ _ _ _ c.loop-v.invariant p.few_edges p.small c.loop-v-test.true p.few_nodes (sym c.contains.ensures ∙ c.if-contains.true)
    (number_of_bits _ (record { sfits = c.round_total-sum.type_inv }) ∙ c.round_total-sum.ensures
    ∙ ap (subtotal (map_of a.nodes a.edges a.tails.now a.rotations.now) (atℤ a.capacities.now) (member a.set.now)) at-start.1)

pub offset_bounds-subtotals-place : goal.offset_bounds-subtotals-place
offset_bounds-subtotals-place c = omega (arith, place_few _ _ _ _ c.loop-v.invariant, c.requires.0.few_nodes)

pub bounds-subtotals-place : goal.bounds-subtotals-place
bounds-subtotals-place c =
    let φ = c.loop-v.invariant in
    let room : count c.args.nodes (member c.args.set.now) ≤ length c.args.subtotals.now = omega (arith, c.requires.2) in
    omega (
      arith,
      place_in _ _ _ _ φ (sym c.contains.ensures ∙ c.if-contains.true) c.loop-v-test.true room,
      same_long _ _ _ _ φ c.loop-v.auto.v-end room,
    )

pub overflow_add-place : goal.overflow_add-place
overflow_add-place c = omega (arith, place_few _ _ _ _ c.loop-v.invariant, c.requires.0.few_nodes)

pub loop-v-preserved : goal.loop-v-preserved
loop-v-preserved c =
    let a = c.args in
    let p = c.requires.0 in
    let φ = c.loop-v.invariant in
    let at-start = λ (start : ℕ) (e : start ≡ at a.starts.now c.loop-v.v).
    (start-at a.nodes a.edges a.tails.now a.rotations.now a.starts.now p.sound c.requires.1 c.loop-v-test.true e).1 in
    elim c.if-contains.branch [
      | then-contains w ↦ rw (w.subtotals-is, w.total-is, w.place-is)
          (fill_put _ _ _ _ φ (sym c.contains.ensures ∙ w.if-contains.true) c.loop-v-test.true (omega (arith, c.requires.2))
          (number_of_bits _ (record { sfits = w.round_total-sum.type_inv }) ∙ w.round_total-sum.ensures
          ∙ ap (subtotal (map_of a.nodes a.edges a.tails.now a.rotations.now) (atℤ a.capacities.now) (member a.set.now)) (at-start _ w.wide-start.ensures))
          (to_z-of_z w64 _ (record { sfits = w.plus_wide-total.type_inv }) ∙ w.plus_wide-total.ensures) refl)
      | else-contains w ↦ rw (w.subtotals-is, w.total-is, w.place-is) (fill_pass _ _ _ _ φ (sym c.contains.ensures ∙ w.if-contains.false))
    ]

pub returns : goal.returns
returns c = fill_end _ _ _ _ c.loop-v.invariant (omega arith)
