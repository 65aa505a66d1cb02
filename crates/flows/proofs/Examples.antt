-- The definitions on document 01's drawings, by computation: what carries, what proves impossible, levels, sets as words.
use mathlib.Core.Path.{◌≡◌, refl, sym, ◌∙◌, ap}
use mathlib.Core.Logic.{◌⊎◌, inl, inr}
use mathlib.Core.List.{List, [], ◌∷◌}
use mathlib.Core.Bool.{true}
use Prim.Native.Nat.{ℕ, zero, suc, ◌<◌}
use native.Mathlib.Omega.{arith}
use lib.ListN.{get_or}
use lib.Count.{ones, ones_in}
use lib.IntN.{ℤ, pos, negsuc, neg_ℤ, ◌+ℤ◌, ◌-ℤ◌, ◌*ℤ◌}
use lib.Signed.{◌≤ℤ◌, le_z}
use Rattle.integers.specs.Sum.{sum}
use Rattle.integers.proofs.Omega.{atoms₁, atoms₂, atoms₃, atoms₅, parts, equal, at_most, from_equal, from_at_most}
use Rattle.integers.proofs.Laws.{lt_of_test, le_of_test}
use Rattle.integers.proofs.Tests.{every, every_equalℤ, every_at_most, eq_z}
use Rattle.maps.specs.Dart.{rev}
use Rattle.maps.specs.Orbit.{iter, lowest, is_lowest, orbits, orbit_of}
use Rattle.maps.specs.Face.{faces, left}
use Rattle.maps.specs.Flow.{net}
use Rattle.maps.specs.Cut.{cut}
use Rattle.maps.specs.Potential.{difference}
use Rattle.maps.proofs.Examples.{A, a_sound, a_connected, B, a_capacity, b_capacity}
use Rattle.flows.specs.Settings.{on_darts, Carries}
use Rattle.flows.specs.Parts.{CarriesInParts}
use Rattle.flows.specs.Levels.{Levels}
use Rattle.flows.specs.Highest.{Highest}
use Rattle.flows.specs.ProvingSet.{bound, Proves, member, size}
use Rattle.flows.specs.ZeroFace.{ZeroFace}
use Rattle.flows.proofs.OnDarts.{on_darts_antisymmetric}
use Rattle.flows.proofs.Plane.{zero_connected}

unfoldable pub settings : List ℤ → ℕ → ℤ
settings l e = get_or l e (pos 0)

-- settings on A's three edges carry what they add up to at node 0, if tests say that no dart has more than its capacity
pub a_carries : (c x : ℕ → ℤ) (value : ℤ) → every 6 (λ d. le_z (on_darts x d) (c d)) ≡ true → net A (on_darts x) 0 ≡ value → Carries A c 0 1 value x
a_carries c x value fits total = record {
  antisymmetric = on_darts_antisymmetric A x;
  within = every_at_most 6 (on_darts x) c fits;
  balanced = λ v l p q. absurd (omega (arith, p, q));
  carries = total;
}

-- "6: settings 0, 2, 4" carry 6, and "12: 5, 3, 4" carry 12
pub a_six : Carries A a_capacity 0 1 (pos 6) (settings (pos 0 ∷ pos 2 ∷ pos 4 ∷ []))
unfolding settings a_capacity on_darts net sum every
a_six = a_carries a_capacity (settings (pos 0 ∷ pos 2 ∷ pos 4 ∷ [])) (pos 6) refl refl

pub a_twelve : Carries A a_capacity 0 1 (pos 12) (settings (pos 5 ∷ pos 3 ∷ pos 4 ∷ []))
unfolding settings a_capacity on_darts net sum every
a_twelve = a_carries a_capacity (settings (pos 5 ∷ pos 3 ∷ pos 4 ∷ [])) (pos 12) refl refl

-- in halves: 10, 6 and 8 of them are 12 again; and half a litre on the first edge, 2 on the second, 3 and a half on the third are 6
pub a_twelve_in_halves : CarriesInParts 2 A a_capacity 0 1 (pos 12) (settings (pos 10 ∷ pos 6 ∷ pos 8 ∷ []))
unfolding settings a_capacity on_darts net sum every
a_twelve_in_halves = (omega arith, a_carries (λ d. pos 2 *ℤ a_capacity d) (settings (pos 10 ∷ pos 6 ∷ pos 8 ∷ [])) (pos 24) refl refl)

pub a_six_in_halves : CarriesInParts 2 A a_capacity 0 1 (pos 6) (settings (pos 1 ∷ pos 4 ∷ pos 7 ∷ []))
unfolding settings a_capacity on_darts net sum every
a_six_in_halves = (omega arith, a_carries (λ d. pos 2 *ℤ a_capacity d) (settings (pos 1 ∷ pos 4 ∷ pos 7 ∷ [])) (pos 12) refl refl)

-- there are no parts of which none make a litre: else 13, which A cannot carry, would be carried by nothing at all
pub a_no_parts_of_zero : CarriesInParts 0 A a_capacity 0 1 (pos 13) (settings []) → ⊥
a_no_parts_of_zero h = omega (arith, h.0)

-- "13: cannot, set {0}, size 1", "−1: cannot, set {1}"; the set {0} is bit 0 of the first word, {1} is bit 1
pub a_thirteen : Proves A a_capacity 0 1 (pos 13) (member (1 ∷ [])) × (size (1 ∷ []) ≡ 1)
unfolding a_capacity bound cut sum rev size ones ones_in
a_thirteen = (lt_of_test (pos 12) (pos 13) refl, refl)

pub a_minus_one : Proves A a_capacity 0 1 (negsuc 0) (member (2 ∷ []))
unfolding a_capacity bound cut sum rev
a_minus_one = lt_of_test (pos 0) (pos 1) refl

-- "A with back limit −2 on channel 1: 2 gives 0, 2, 0; 1: cannot, set {1}"
least_two : ℕ → ℤ
least_two d = get_or (pos 5 ∷ pos 0 ∷ pos 3 ∷ negsuc 1 ∷ pos 4 ∷ pos 0 ∷ []) d (pos 0)

a_least_two : Carries A least_two 0 1 (pos 2) (settings (pos 0 ∷ pos 2 ∷ pos 0 ∷ []))
unfolding settings least_two on_darts net sum every
a_least_two = a_carries least_two (settings (pos 0 ∷ pos 2 ∷ pos 0 ∷ [])) (pos 2) refl refl

a_least_two_not_one : Proves A least_two 0 1 (pos 1) (member (2 ∷ []))
unfolding least_two bound cut sum rev
a_least_two_not_one = lt_of_test (negsuc 1) (negsuc 0) refl

-- A has one part, so the outer dart's face is its only zero face
a_zero : (outer : ℕ) → outer < 6 → (f : ℕ) → ZeroFace A outer f → f ≡ left A outer
a_zero outer l = zero_connected a_sound a_connected outer l

-- "settings 2, 1, −3 have levels 0, −2, −3"
a_levels : Levels A 0 (settings (pos 2 ∷ pos 1 ∷ negsuc 2 ∷ [])) (settings (pos 0 ∷ negsuc 1 ∷ negsuc 2 ∷ []))
unfolding settings on_darts faces left orbits orbit_of is_lowest lowest iter sum rev every eq_z
a_levels = record {
  differences = every_equalℤ 6 (on_darts (settings (pos 2 ∷ pos 1 ∷ negsuc 2 ∷ []))) (difference A (settings (pos 0 ∷ negsuc 1 ∷ negsuc 2 ∷ []))) refl;
  rooted = λ f z. ap (settings (pos 0 ∷ negsuc 1 ∷ negsuc 2 ∷ [])) (a_zero 0 (omega arith) f z);
}

-- "B .. headgate 0, outfall 1: largest is none, set {2}": it holds neither end, so it proves every value impossible
pub b_none : (value : ℤ) → Proves B b_capacity 0 1 value (member (4 ∷ []))
unfolding b_capacity bound cut sum rev
b_none value = lt_of_test (negsuc 0) (pos 0) refl

-- ── the highest answer on A: the first edge carries as little as it can, and the last as much ──
-- of settings y that carry the same, the levels of y minus x are 0, x 0 − y 0 and y 2 − x 2
levels_less : (x y : ℕ → ℤ) → ℕ → ℤ
levels_less x y zero = pos 0
levels_less x y (suc zero) = x 0 -ℤ y 0
levels_less x y (suc (suc f)) = y 2 -ℤ x 2

-- what holds of the six darts, and of the three faces
six : (P : ℕ → Type 0) → P 0 → P 1 → P 2 → P 3 → P 4 → P 5 → (d : ℕ) → d < 6 → P d
six P a b c d e f zero l = a
six P a b c d e f (suc zero) l = b
six P a b c d e f (suc (suc zero)) l = c
six P a b c d e f (suc (suc (suc zero))) l = d
six P a b c d e f (suc (suc (suc (suc zero)))) l = e
six P a b c d e f (suc (suc (suc (suc (suc zero))))) l = f
six P a b c d e f (suc (suc (suc (suc (suc (suc i)))))) l = absurd (omega arith)

three : (P : ℕ → Type 0) → P 0 → P 1 → P 2 → (f : ℕ) → f < 3 → P f
three P a b c zero l = a
three P a b c (suc zero) l = b
three P a b c (suc (suc zero)) l = c
three P a b c (suc (suc (suc i))) l = absurd (omega arith)

module _ (c : ℕ → ℤ) (value : ℤ) where
  -- what settings that carry the value are known by: their total, and the capacities that the first and the last edge can run into
  record Laid (y : ℕ → ℤ) : Type 0 where
    total : y 0 +ℤ y 1 +ℤ y 2 ≡ value
    first_back : neg_ℤ (y 0) ≤ℤ c 1
    middle : y 1 ≤ℤ c 2
    middle_back : neg_ℤ (y 1) ≤ℤ c 3
    last : y 2 ≤ℤ c 4

  laid : (y : ℕ → ℤ) → Carries A c 0 1 value y → Laid y
  unfolding on_darts net sum
  laid y g =
      let a = atoms₃ (y 0) (y 1) (y 2) in
      let b = atoms₁ value in
      let all : pos 0 +ℤ y 0 +ℤ pos 0 +ℤ y 1 +ℤ pos 0 +ℤ y 2 +ℤ pos 0 ≡ value = g.carries in
      record {
        total = equal (search parts) (omega (arith, from_equal all (search parts depth 9)));
        first_back = g.within 1 (omega arith);
        middle = g.within 2 (omega arith);
        middle_back = g.within 3 (omega arith);
        last = g.within 4 (omega arith);
      }

  -- x₀ is the least that the first edge can carry: its back capacity, or the capacities of the other two, forbid less
  first_least : (x₀ : ℤ) → (x₀ ≤ℤ neg_ℤ (c 1)) ⊎ ((x₀ +ℤ (c 2 +ℤ c 4)) ≤ℤ value) → (y : ℕ → ℤ) → Laid y → (x₀ -ℤ y 0) ≤ℤ pos 0
  first_least x₀ (inl h) y f =
      let a = atoms₃ x₀ (y 0) (c 1) in at_most (search parts) (omega (arith, from_at_most h (search parts), from_at_most f.first_back (search parts)))
  first_least x₀ (inr h) y f =
      let a = atoms₅ x₀ (y 0) (y 1) (y 2) value in
      let b = atoms₂ (c 2) (c 4) in
      at_most (search parts) (omega (
        arith,
        from_at_most h (search parts),
        from_equal f.total (search parts),
        from_at_most f.middle (search parts),
        from_at_most f.last (search parts),
      ))

  -- x₂ is the most that the last can carry
  last_most : (x₂ : ℤ) → (c 4 ≤ℤ x₂) ⊎ ((value +ℤ (c 1 +ℤ c 3)) ≤ℤ x₂) → (y : ℕ → ℤ) → Laid y → (y 2 -ℤ x₂) ≤ℤ pos 0
  last_most x₂ (inl h) y f =
      let a = atoms₃ x₂ (y 2) (c 4) in at_most (search parts) (omega (arith, from_at_most h (search parts), from_at_most f.last (search parts)))
  last_most x₂ (inr h) y f =
      let a = atoms₅ x₂ (y 0) (y 1) (y 2) value in
      let b = atoms₂ (c 1) (c 3) in
      at_most (search parts) (omega (
        arith,
        from_at_most h (search parts),
        from_equal f.total (search parts),
        from_at_most f.first_back (search parts),
        from_at_most f.middle_back (search parts),
      ))

-- the differences of those levels are y minus x, on every dart
levels-less : (x y : ℕ → ℤ) → x 0 +ℤ x 1 +ℤ x 2 ≡ y 0 +ℤ y 1 +ℤ y 2 → Levels A 0 (λ e. y e -ℤ x e) (levels_less x y)
unfolding on_darts faces left orbits orbit_of is_lowest lowest iter sum rev levels_less
levels-less x y same =
    let a = atoms₃ (y 0) (y 1) (y 2) in
    let b = atoms₃ (x 0) (x 1) (x 2) in
    record {
      differences = six _
          (equal (search parts) (omega arith))
          (equal (search parts) (omega arith))
          (equal (search parts) (omega (arith, from_equal same (search parts))))
          (equal (search parts) (omega (arith, from_equal same (search parts))))
          (equal (search parts) (omega arith))
          (equal (search parts) (omega arith));
      rooted = λ f z. ap (levels_less x y) (a_zero 0 (omega arith) f z);
    }

pub a_highest : (c x : ℕ → ℤ) (value : ℤ) → Carries A c 0 1 value x
    → (x 0 ≤ℤ neg_ℤ (c 1)) ⊎ ((x 0 +ℤ (c 2 +ℤ c 4)) ≤ℤ value)
    → (c 4 ≤ℤ x 2) ⊎ ((value +ℤ (c 1 +ℤ c 3)) ≤ℤ x 2)
    → Highest A 0 c 0 1 value x
unfolding faces orbits is_lowest lowest iter sum rev levels_less
a_highest c x value mine low high = record {
  carries = mine;
  highest = λ y g.
      let f = laid c value y g in (
        levels_less x y,
        levels-less x y ((laid c value x mine).total ∙ sym f.total),
        three _ (le_of_test (pos 0) (pos 0) refl) (first_least c value (x 0) low y f) (last_most c value (x 2) high y f),
      );
}

-- "6: settings 0, 2, 4" is the highest
pub a_six_highest : Highest A 0 a_capacity 0 1 (pos 6) (settings (pos 0 ∷ pos 2 ∷ pos 4 ∷ []))
unfolding settings a_capacity
a_six_highest =
    a_highest a_capacity (settings (pos 0 ∷ pos 2 ∷ pos 4 ∷ [])) (pos 6) a_six (inl (le_of_test (pos 0) (pos 0) refl)) (inl (le_of_test (pos 4) (pos 4) refl))
