-- Refused where a slice is too short, and else the subtotals and their sum.
use mathlib.Core.Path.{◌≡◌, refl, ◌∙◌}
use mathlib.Core.List.{List}
use Prim.Native.Nat.{ℕ, ◌-◌, ◌<◌}
use native.Mathlib.Omega.{arith}
use lib.ListN.{take}
use lib.IntN.{ℤ}
use mir.Syntax.{w64}
use mir.Val.{SFits, to_z, of_z}
use mir.ValLaws.{to_z-of_z}
use Rattle.signed.proofs.Laws.{number_of_bits}
use Rattle.maps.specs.Check.{Sound}
use Rattle.arrays.specs.At.{atℤ}
use Rattle.arrays.specs.Maps.{map_of}
use Rattle.totals.specs.Subtotal.{total}
use Rattle.integers.specs.Sum.{count}
use Rattle.flows.specs.ProvingSet.{words_for, member}
use Rattle.totals.proofs.Filling.{total_fits}
use Rattle.totals.proofs.Giving.{set_short, out_short, both_long, part_member, count_agrees, total_agrees, subtotaled_back}
use Rattle.totals.proofs.totals_of.Goals as goal

pub returns-then-set-words : goal.returns-then-set-words
returns-then-set-words c = rw c.refused.ensures (set_short _ _ _ (omega arith), refl)

-- the words lent say of each node what the set says, and so they have as many members
module _ (nodes words : ℕ) (set : List ℕ) (is : words ≡ words_for nodes) where
  same : (v : ℕ) → v < nodes → member (take (words - 0) set) v ≡ member set v
  same v l = part_member nodes words set is v l

  as_many : {members : ℕ} → members ≡ count nodes (member (take (words - 0) set)) → members ≡ count nodes (member set)
  as_many e = e ∙ count_agrees nodes (member (take (words - 0) set)) (member set) same

pub returns-then-subtotals-members : goal.returns-then-subtotals-members
returns-then-subtotals-members c =
    let a = c.args in
    let members = as_many a.nodes c.words_for-words.result a.set.now c.words_for-words.ensures c.count_members-members.ensures in
    rw c.refused-then-subtotals-members.ensures (out_short _ _ _ (omega (arith, members)), refl)

-- what the loop adds up is the total of the set
sum_is : (nodes edges words : ℕ) (tails rotations : List ℕ) (capacities : List ℤ) (set : List ℕ)
    → Sound (map_of nodes edges tails rotations) → words ≡ words_for nodes → {t : ℤ} → SFits w64 t
    → t ≡ total (map_of nodes edges tails rotations) (atℤ capacities) (member (take (words - 0) set))
    → to_z w64 (of_z w64 t) ≡ total (map_of nodes edges tails rotations) (atℤ capacities) (member set)
sum_is nodes edges words tails rotations capacities set sound is fits e =
    to_z-of_z w64 _ fits ∙ e ∙ total_agrees sound.range (atℤ capacities) (member (take (words - 0) set)) (member set) (same nodes words set is)

pub narrow-requires : goal.narrow-requires
narrow-requires c =
    let a = c.args in
    let p = c.requires in
    rw (sum_is a.nodes a.edges c.words_for-words.result a.tails.now a.rotations.now a.capacities.now a.set.now p.2 c.words_for-words.ensures
    (record { sfits = c.fill_subtotals-total.type_inv }) c.fill_subtotals-total.ensures.1)
    (total_fits p.2.range _ _ p.1 p.3)

pub returns : goal.returns
returns c =
    let a = c.args in
    let p = c.requires in
    let words = c.words_for-words.ensures in
    let members = as_many a.nodes c.words_for-words.result a.set.now words c.count_members-members.ensures in
    let f = c.fill_subtotals-total in (
      both_long a.nodes a.set.now a.subtotals.now (omega arith) (omega (arith, members)),
      subtotaled_back p.2.range (atℤ a.capacities.now) (member (take (c.words_for-words.result - 0) a.set.now)) (member a.set.now)
          (same a.nodes c.words_for-words.result a.set.now words) c.count_members-members.result a.subtotals.now _ c.count_members-members.ensures f.ensures.0,
      number_of_bits _ (record { sfits = c.narrow.type_inv }) ∙ c.narrow.ensures
          ∙ sum_is a.nodes a.edges c.words_for-words.result a.tails.now a.rotations.now a.capacities.now a.set.now p.2 words
          (record { sfits = f.type_inv }) f.ensures.1,
    )
