-- The capacities, and two climbs: what each needs and what both leave are laws of `Filling`.
use Rattle.std.proofs.Common.{◌≡◌, ℕ, ◌<◌, ◌≤◌, ◌++◌, List, length, take, ◌∙◌, ap, arith, get_or-take}
use Rattle.std.proofs.lemmas.List.{length-take}
use lib.Signed.{mag}
use Rattle.std.proofs.Math.ListN.{get_or-append}
use lib.IntN.{ℤ, pos, ◌-ℤ◌}
use mir.Syntax.{w32}
use mir.Val.{to_z, of_z}
use Rattle.arrays.specs.At.{atℤ}
use Rattle.signed.proofs.Laws.{number_of_bits}
use Rattle.lengths.proofs.Filling.{fill_by_bits, fill_from_bits, up_climbable, both_filled}
use Rattle.lengths.proofs.fill_lengths.Goals as goal

copied : {n : ℕ} {xs : List ℤ} (ys rest : List ℤ) → xs ≡ take n ys → n ≤ length ys → (d : ℕ) → d < n → atℤ (xs ++ rest) d ≡ atℤ ys d
copied {n} {xs} ys rest is fits d l =
    get_or-append xs rest (pos 0) d (omega (arith, ap length is, length-take n ys)) ∙ ap (λ t. atℤ t d) is ∙ get_or-take n ys d (pos 0) l

turned : (value against : ℤ) → mag against < 2147483648 → against ≡ pos 0 -ℤ to_z w32 (of_z w32 value)
    → to_z w32 (of_z w32 against) ≡ pos 0 -ℤ to_z w32 (of_z w32 value)
turned value against fits e = number_of_bits _ (record { sfits = fits }) ∙ e

pub climb-up-requires : goal.climb-up-requires
climb-up-requires c =
    let same = copied c.args.capacities.now _ c.copy.ensures (omega (arith, c.requires.1.few)) in
    let e = c.climb-down.ensures in
    (e.0, up_climbable (fill_by_bits c.requires.1) same e.1 (turned c.args.value _ c.minus-against.type_inv c.minus-against.ensures))

pub returns : goal.returns
returns c =
    let p = c.requires.1 in
    let same = copied c.args.capacities.now _ c.copy.ensures (omega (arith, c.requires.1.few)) in
    let e = c.climb-up.ensures in
    let turn = turned c.args.value _ c.minus-against.type_inv c.minus-against.ensures in
    (e.0, fill_from_bits p.small (both_filled (fill_by_bits p) same c.climb-down.ensures.1 turn e.1))
