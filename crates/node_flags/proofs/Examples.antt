-- Worked examples. The map has three nodes in a row, 0 - 1 - 2, with the capacities 2 and 1 on the first edge and -3 and 4 on the second, forward and backward.
-- The sets are flags: only 1 counts as inside.
use mathlib.Core.Path.{◌≡◌, refl}
use mathlib.Core.Bool.{true, false}
use mathlib.Core.List.{List, [], ◌∷◌}
use Prim.Native.Nat.{ℕ}
use lib.IntN.{ℤ, pos, negsuc}
use Rattle.integers.specs.Sum.{sum}
use Rattle.maps.specs.Dart.{rev}
use Rattle.maps.specs.Cut.{union, intersection}
use Rattle.arrays.specs.At.{at, atℤ}
use Rattle.cuts.specs.inner.Cut.{cut_of}
use Rattle.node_flags.specs.inner.Flags.{Sided}
use Rattle.arrays.specs.inner.Flags.{flagged}
use Rattle.node_flags.specs.declared.Side.TheVariants as side

abbrev tails : List ℕ
tails = 0 ∷ 1 ∷ 1 ∷ 2 ∷ []

abbrev capacities : List ℤ
capacities = pos 2 ∷ pos 1 ∷ negsuc 2 ∷ pos 4 ∷ []

abbrev first_two : List ℕ
first_two = 1 ∷ 1 ∷ 0 ∷ []

abbrev last_two : List ℕ
last_two = 0 ∷ 1 ∷ 1 ∷ []

-- ── cuts ──
-- a capacity below zero counts as it is: the one dart that leaves is that of -3
below_zero : cut_of 4 (at tails) (atℤ capacities) (flagged first_two) ≡ negsuc 2
unfolding cut_of sum rev
below_zero = refl

-- only the dart back to node 0 leaves, and the one that enters does not count
last_cut : cut_of 4 (at tails) (atℤ capacities) (flagged last_two) ≡ pos 1
unfolding cut_of sum rev
last_cut = refl

-- the middle node: 1 back and -3 forward
middle_cut : cut_of 4 (at tails) (atℤ capacities) (intersection (flagged first_two) (flagged last_two)) ≡ negsuc 1
unfolding cut_of sum rev
middle_cut = refl

-- all nodes: nothing leaves
whole_cut : cut_of 4 (at tails) (atℤ capacities) (union (flagged first_two) (flagged last_two)) ≡ pos 0
unfolding cut_of sum rev
whole_cut = refl

-- ── union and intersection ──
union_first : union (flagged first_two) (flagged last_two) 0 ≡ true
union_first = refl

union_last : union (flagged first_two) (flagged last_two) 2 ≡ true
union_last = refl

intersection_first : intersection (flagged first_two) (flagged last_two) 0 ≡ false
intersection_first = refl

intersection_middle : intersection (flagged first_two) (flagged last_two) 1 ≡ true
intersection_middle = refl

-- a flag other than 1 is not inside, and neither is a node past the end
not_two : flagged (2 ∷ []) 0 ≡ false
not_two = refl

past_end : flagged first_two 3 ≡ false
past_end = refl

-- ── sides, with the source 0 and the sink 2 ──
first_at_source : Sided 0 2 (flagged first_two) side.Source
first_at_source = (refl, refl)

last_at_sink : Sided 0 2 (flagged last_two) side.Sink
last_at_sink = (refl, refl)

union_beside : Sided 0 2 (union (flagged first_two) (flagged last_two)) side.Beside
union_beside = refl

intersection_beside : Sided 0 2 (intersection (flagged first_two) (flagged last_two)) side.Beside
intersection_beside = refl
