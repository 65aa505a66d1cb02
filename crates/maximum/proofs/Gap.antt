-- How far the probing has to go: the values from the low bound to the high one, and one more while none is found. Each probe makes it smaller.
use mathlib.Core.Path.{◌≡◌, refl}
use mathlib.Core.Bool.{Bool, true, false, not, true≢false}
use mathlib.Core.Logic.{◌⊎◌, inl, inr}
use Prim.Native.Nat.{ℕ, ◌+◌, ◌≤◌, ◌<◌}
use native.Mathlib.Omega.{arith}
use lib.IntN.{ℤ, pos, ◌+ℤ◌, ◌-ℤ◌}
use lib.Signed.{◌≤ℤ◌, ◌<ℤ◌}
use Rattle.integers.specs.Sum.{bit}
use Rattle.integers.proofs.Omega.{atom, literal, added, negated, parts, positive, positive_is, from_at_most, from_less}
use Rattle.maximum.specs.inner.Bracket.{Closer}

abbrev pub gap : ℤ → ℤ → Bool → ℕ
gap low high found = positive ((high -ℤ low) +ℤ pos 1) + bit (not found)

module _ (low high low' high' : ℤ) (ordered : low ≤ℤ high) (rises : low ≤ℤ low') (falls : high' ≤ℤ high) where
  -- no more values lie between bounds that lie within others, and fewer where one has moved
  values : positive ((high' -ℤ low') +ℤ pos 1) ≤ positive ((high -ℤ low) +ℤ pos 1)
  values =
      let x = atom low in
      let y = atom high in
      let z = atom low' in
      let w = atom high' in
      omega (
        arith,
        positive_is (added (added y (negated x)) (literal 1)),
        positive_is (added (added w (negated z)) (literal 1)),
        from_at_most rises (search parts),
        from_at_most falls (search parts),
      )

  fewer : (low <ℤ low') ⊎ (high' <ℤ high) → positive ((high' -ℤ low') +ℤ pos 1) < positive ((high -ℤ low) +ℤ pos 1)
  fewer (inl l) =
      let x = atom low in
      let y = atom high in
      let z = atom low' in
      let w = atom high' in
      omega (
        arith,
        positive_is (added (added y (negated x)) (literal 1)),
        positive_is (added (added w (negated z)) (literal 1)),
        from_at_most ordered (search parts),
        from_less l (search parts),
        from_at_most falls (search parts),
      )
  fewer (inr l) =
      let x = atom low in
      let y = atom high in
      let z = atom low' in
      let w = atom high' in
      omega (
        arith,
        positive_is (added (added y (negated x)) (literal 1)),
        positive_is (added (added w (negated z)) (literal 1)),
        from_at_most ordered (search parts),
        from_at_most rises (search parts),
        from_less l (search parts),
      )

-- what is found stays found
found_bits : (found found' : Bool) → (found ≡ true → found' ≡ true) → bit (not found') ≤ bit (not found)
found_bits true true h = omega arith
found_bits true false h = absurd (true≢false (mathlib.Core.Path.sym (h refl)))
found_bits false true h = omega arith
found_bits false false h = omega arith

pub gap_closer : (low high : ℤ) (found : Bool) (low' high' : ℤ) (found' : Bool) → low ≤ℤ high → Closer low high found low' high' found'
    → gap low' high' found' < gap low high found
gap_closer low high found low' high' found' ordered c = by c.less
  where
    by : (low <ℤ low') ⊎ ((high' <ℤ high) ⊎ ((found ≡ false) × (found' ≡ true))) → gap low' high' found' < gap low high found
    by (inl l) = omega (arith, fewer low high low' high' ordered c.rises c.falls (inl l), found_bits found found' c.still)
    by (inr (inl l)) = omega (arith, fewer low high low' high' ordered c.rises c.falls (inr l), found_bits found found' c.still)
    by (inr (inr (e, f))) = rw (e, f) (omega (arith, values low high low' high' ordered c.rises c.falls))
