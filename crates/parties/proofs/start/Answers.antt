-- All is zero at first, and stays so where the sheet is refused; of an accepted one the network record is copied, and all of its limits are left.
use mathlib.Core.Path.{◌≡◌, refl, ◌∙◌, ap}
use native.Mathlib.Omega.{arith}
use borrow.Author.Rules.{rules}
use lib.IntN.{pos}
use lib.ListN.{length}
use Rattle.arrays.specs.At.{at, atℤ}
use Rattle.sheets.proofs.Accepted.{sheet_counts, sheet_outer}
use Rattle.sheets.proofs.Opening.{opens_passed}
use Rattle.parties.proofs.Starting.{array_is, after_start}
use Rattle.parties.proofs.start.Goals as goal

pub narrow-requires : goal.narrow-requires
narrow-requires c =
    let a = opens_passed c.args.sheet.now c.open_walked-net.result c.in_ok-sizes.was c.open_walked-net.ensures.4 in
    omega (arith, a.1.nodes_are, (sheet_counts _ a.0).1)

pub narrow-requires-2 : goal.narrow-requires-2
narrow-requires-2 c =
    let a = opens_passed c.args.sheet.now c.open_walked-net.result c.in_ok-sizes.was c.open_walked-net.ensures.4 in
    omega (arith, a.1.edges_are, (sheet_counts _ a.0).3)

pub narrow-requires-3 : goal.narrow-requires-3
narrow-requires-3 c =
    let a = opens_passed c.args.sheet.now c.open_walked-net.result c.in_ok-sizes.was c.open_walked-net.ensures.4 in
    omega (arith, a.1.outer_is, sheet_outer _ a.0, (sheet_counts _ a.0).3)

pub returns : goal.returns
returns c =
    let a = opens_passed c.args.sheet.now c.open_walked-net.result c.in_ok-sizes.was c.open_walked-net.ensures.4 in
    let net = c.open_walked-net.result in
    let tails_long : length net.tails ≡ 1024 = search rules in
    let turns_long : length net.rotations ≡ 1024 = search rules in
    let limits_long : length net.capacities ≡ 1024 = search rules in
    let tails = c.copy.ensures in
    let rotations = c.copy-2.ensures in
    let limits = c.copy-3.ensures in
    let left = c.copy-4.ensures in (
      a.0,
      after_start _ _ _ c.erase.ensures (c.narrow.ensures ∙ a.1.nodes_are) (c.narrow-2.ensures ∙ a.1.edges_are) (c.narrow-3.ensures ∙ a.1.outer_is)
          (array_is 0 1024 _ _ (ap length tails ∙ tails_long) (ap at tails ∙ a.1.tails_are))
          (array_is 0 1024 _ _ (ap length rotations ∙ turns_long) (ap at rotations ∙ a.1.rotations_are))
          (array_is (pos 0) 1024 _ _ (ap length limits ∙ limits_long) (ap atℤ limits ∙ a.1.capacities_are))
          (array_is (pos 0) 1024 _ _ (ap length left ∙ limits_long) (ap atℤ left ∙ a.1.capacities_are)) refl refl,
    )
