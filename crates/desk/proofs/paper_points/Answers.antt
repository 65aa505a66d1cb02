-- One paper: 4 for its settings, and the points for claim and set.
use Prim.Native.Nat.{ℕ, ◌≤◌, ◌<◌, ◌/◌}
use mathlib.Core.Path.{◌≡◌, ◌∙◌, ap}
use native.Mathlib.Omega.{arith}
use borrow.Author.Rules.{rules}
use Rattle.signed.proofs.Laws.{number_of_bits}
use Rattle.flows.specs.ProvingSet.{words_for, member}
use Rattle.desk.proofs.Judging.{earns_at_most, judged_at_most}
use Rattle.desk.proofs.Asking.{ends_inside, paper_earns}
use Rattle.desk.proofs.paper_points.Goals as goal

-- a node's word is one of the set's
word_in : (nodes words v w : ℕ) → words_for nodes ≤ words → w ≡ v → v < nodes → w / 64 < words
word_in nodes words v w long e l = omega arith

pub holds-from-requires : goal.holds-from-requires
holds-from-requires c = word_in _ _ _ _ c.requires.2 c.from.ensures (ends_inside _ _ _ c.requires.0.ends).0

pub holds-into-requires : goal.holds-into-requires
holds-into-requires c = word_in _ _ _ _ c.requires.2 c.from-2.ensures (ends_inside _ _ _ c.requires.0.ends).1

pub overflow_add-result : goal.overflow_add-result
overflow_add-result c =
    let a = c.args in
    let first = rw (number_of_bits _ c.ranges.value) at c.settings_points-first.ensures in
    let rest = rw (number_of_bits c.outward_total-total.result (record { sfits = search rules })) at c.last_six-rest.ensures in
    record {
      fits = omega (
        arith,
        earns_at_most 4 _ first,
        judged_at_most a.largest a.claim c.outward_total-total.result c.holds-from.result c.holds-into.result c.last_six-rest.result rest,
      );
    }

pub returns : goal.returns
returns c =
    let a = c.args in
    let first = rw (number_of_bits _ c.ranges.value) at c.settings_points-first.ensures in
    let rest = rw (number_of_bits c.outward_total-total.result (record { sfits = search rules })) at c.last_six-rest.ensures in
    paper_earns _ _ _ a.value a.largest a.claim a.settings.now a.set.now c.outward_total-total.result _ _ _ _ c.requires.0 first
    c.outward_total-total.ensures (c.holds-from.ensures ∙ ap (member a.set.now) c.from.ensures)
    (c.holds-into.ensures ∙ ap (member a.set.now) c.from-2.ensures) rest
