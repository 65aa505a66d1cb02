-- Each kind of line of the table, from tests that are computed: so a line that is wrong fails at a test. The questions are all "Headgate 0, outfall 1".
use mathlib.Core.Path.{◌≡◌, refl, sym, ◌∙◌, ap}
use mathlib.Core.Logic.{◌⊎◌, inl, inr}
use mathlib.Core.Bool.{Bool, true, false, not, ◌&&◌, ◌||◌, beq, true≢false, false≢true}
use mathlib.Core.List.{List, [], ◌∷◌}
use Prim.Native.Nat.{ℕ, ◌^◌, ◌≤◌}
use native.Mathlib.Omega.{arith}
use lib.Dec.{eqb}
use lib.IntN.{ℤ, pos, negsuc, neg_ℤ, ◌+ℤ◌}
use lib.Signed.{◌≤ℤ◌, ◌<ℤ◌, le_z, lt_z}
use Rattle.integers.proofs.Laws.{lt_le_clash, lt_of_test, le_of_test}
use Rattle.integers.proofs.Tests.{of_T, and_both, and_true, every, every_equalℤ, every_at_most, eq_z}
use Rattle.refusals.specs.Order.{NoneOf}
use Rattle.refusals.proofs.Order.{neither}
use Rattle.maps.specs.Flow.{net}
use Rattle.maps.specs.Cut.{cut}
use Rattle.maps.specs.Potential.{difference}
use Rattle.maps.proofs.Examples as maps
use Rattle.flows.specs.Settings.{on_darts}
use Rattle.flows.specs.ProvingSet.{bound, Proves, member, size}
use Rattle.flows.proofs.OnDarts.{on_darts_antisymmetric}
use Rattle.flows.proofs.Examples.{a_carries, a_highest}
use Rattle.flows.proofs.Plane.{zero_connected}
use Rattle.flows.proofs.Interval.{beside_proves}
use Rattle.maps.specs.Drawing.{Drawing}
use Rattle.arrays.specs.At.{atℤ}
use Rattle.questions.specs.Question.{end_checks, value_checks}
use Rattle.starred.specs.Table.{SolveCan, SolveCannot, LargestIs, LargestNone, LevelsAre}
use Rattle.starred.proofs.Sheets.{Good, drawn}
use Rattle.starred.proofs.Sets.{only_one}
use Rattle.starred.proofs.Answers.{CanBy, CannotBy, LevelsBy, solve_can, solve_cannot, largest_is, largest_is_none, levels_are}

-- ── the question ──
two_ends : (nodes : ℕ) → 2 ≤ nodes → NoneOf (end_checks nodes 0 1)
unfolding NoneOf end_checks
two_ends nodes l = (neither (λ h. omega arith) (λ h. omega arith), ((λ h. omega (arith, h)), tt))

abbrev inside : ℤ → Bool
inside value = le_z (negsuc 599999999) value && le_z value (pos 600000000)

pub in-range : (value : ℤ) → inside value ≡ true → NoneOf (value_checks value)
unfolding NoneOf value_checks
in-range value e =
    let r = and_both (le_z (negsuc 599999999) value) (le_z value (pos 600000000)) e in
    (neither (λ h. lt_le_clash h (le_of_test (negsuc 599999999) value r.0)) (λ h. lt_le_clash h (le_of_test value (pos 600000000) r.1)), tt)

-- ── "can", on A's map: no dart has more than its capacity, the settings add up to the value, the first edge can carry no less, and the last no more ──
one_at_most : (a b c d : ℤ) → le_z a b || le_z c d ≡ true → (a ≤ℤ b) ⊎ (c ≤ℤ d)
one_at_most a b c d e = go (le_z a b) (le_z c d) refl refl e
  where
    go : (p q : Bool) → le_z a b ≡ p → le_z c d ≡ q → p || q ≡ true → (a ≤ℤ b) ⊎ (c ≤ℤ d)
    go true q i j e = inl (le_of_test a b i)
    go false q i j e = inr (le_of_test c d (j ∙ e))

module _ (capacities : List ℤ) (x₀ x₁ x₂ value : ℤ) where
  abbrev fitting : Bool
  fitting = every 6 (λ d. le_z (on_darts (atℤ (x₀ ∷ x₁ ∷ x₂ ∷ [])) d) (atℤ capacities d))

  abbrev first_least : Bool
  first_least = le_z x₀ (neg_ℤ (atℤ capacities 1)) || le_z (x₀ +ℤ (atℤ capacities 2 +ℤ atℤ capacities 4)) value

  abbrev last_most : Bool
  last_most = le_z (atℤ capacities 4) x₂ || le_z (value +ℤ (atℤ capacities 1 +ℤ atℤ capacities 3)) x₂

  pub can_on_a : fitting ≡ true → net maps.A (on_darts (atℤ (x₀ ∷ x₁ ∷ x₂ ∷ []))) 0 ≡ value → first_least ≡ true → last_most ≡ true
      → CanBy 0 1 value (x₀ ∷ x₁ ∷ x₂ ∷ []) (drawn maps.A capacities)
  can_on_a fits total low high =
      let x = atℤ (x₀ ∷ x₁ ∷ x₂ ∷ []) in
      let c = atℤ capacities in
      record {
        ends = two_ends 2 (omega arith);
        long = refl;
        highest = a_highest c x value (a_carries c x value fits total)
            (one_at_most x₀ (neg_ℤ (c 1)) (x₀ +ℤ (c 2 +ℤ c 4)) value low)
            (one_at_most (c 4) x₂ (value +ℤ (c 1 +ℤ c 3)) x₂ high);
      }

  pub can-line : {s : List ℕ} → Good s (drawn maps.A capacities) → inside value ≡ true
      → fitting ≡ true → net maps.A (on_darts (atℤ (x₀ ∷ x₁ ∷ x₂ ∷ []))) 0 ≡ value → first_least ≡ true → last_most ≡ true
      → SolveCan s 0 1 value (x₀ ∷ x₁ ∷ x₂ ∷ [])
  can-line good asked fits total low high = solve_can good 0 1 value (in-range value asked) (x₀ ∷ x₁ ∷ x₂ ∷ []) (can_on_a fits total low high)

-- ── sets of nodes, tried word by word ──
same_bool : (a b : Bool) → a ≡ b → beq a b ≡ true
same_bool true true e = refl
same_bool true false e = absurd (true≢false e)
same_bool false true e = absurd (false≢true e)
same_bool false false e = refl

module _ (𝓓 : Drawing) where
  abbrev outward : ℕ → ℤ
  outward v = cut 𝓓.map 𝓓.capacity (member (v ∷ []))

  -- the set proves the value impossible
  abbrev short : ℤ → ℕ → Bool
  short value v = lt_z (outward v) (bound (member (v ∷ [])) 0 1 value)

  -- the set holds both ends or neither, and its outward total is below 0
  abbrev beside : ℕ → Bool
  beside v = beq (member (v ∷ []) 0) (member (v ∷ []) 1) && lt_z (outward v) (pos 0)

  -- every word but w fails the test
  abbrev alone : (ℕ → Bool) → ℕ → Bool
  alone test w = every (2 ^ 𝓓.map.nodes) (λ v. not (test v) || eqb v w)

  module _ (some : 2 ≤ 𝓓.map.nodes) (few : 𝓓.map.nodes ≤ 64) where
    -- ── "cannot": the set proves it, and of all sets no other does ──
    pub cannot_by : (value : ℤ) (w : ℕ) → short value w ≡ true → alone (short value) w ≡ true → CannotBy 0 1 value (w ∷ []) 𝓓
    cannot_by value w proves tried = record {
      ends = two_ends 𝓓.map.nodes some;
      proves = lt_of_test (outward w) (bound (member (w ∷ [])) 0 1 value) proves;
      only = only_one 𝓓.map.nodes (omega arith) few w (λ ws. Proves 𝓓.map 𝓓.capacity 0 1 value (member ws)) (short value) (λ v h. of_T h.lt) tried;
    }

    pub cannot-line : {s : List ℕ} → Good s 𝓓 → (value : ℤ) (w n : ℕ) → inside value ≡ true
        → short value w ≡ true → alone (short value) w ≡ true → size (w ∷ []) ≡ n
        → SolveCannot s 0 1 value (w ∷ []) n
    cannot-line good value w n asked proves tried ones = solve_cannot good 0 1 value (in-range value asked) (w ∷ []) n ones (cannot_by value w proves tried)

    -- ── "none": the set is beside the ends with an outward total below 0, and of all sets no other is so ──
    pub none_line : {s : List ℕ} → Good s 𝓓 → (w : ℕ) → member (w ∷ []) 0 ≡ member (w ∷ []) 1
        → lt_z (outward w) (pos 0) ≡ true → alone beside w ≡ true → LargestNone s 0 1 (w ∷ [])
    none_line good w same low tried =
        largest_is_none good 0 1 (w ∷ [])
        (record {
          ends = two_ends 𝓓.map.nodes some;
          proves = beside_proves 𝓓.map 𝓓.capacity 0 1 (member (w ∷ [])) same (lt_of_test (outward w) (pos 0) low);
          only = λ ws s e h.
              only_one 𝓓.map.nodes (omega arith) few w (λ ws. (member ws 0 ≡ member ws 1) × (cut 𝓓.map 𝓓.capacity (member ws) <ℤ pos 0)) beside
              (λ v r. and_true (same_bool (member (v ∷ []) 0) (member (v ∷ []) 1) r.0) (of_T r.1.lt))
              tried ws s (e, h);
        })

-- ── the largest, on A's map: the settings carry it, no more leaves the set, and of all sets only this one proves the next value impossible ──
module _ (capacities : List ℤ) (x₀ x₁ x₂ value : ℤ) (w : ℕ) where
  abbrev 𝓐 : Drawing
  𝓐 = drawn maps.A capacities

  abbrev next : ℤ
  next = value +ℤ pos 1

  pub largest_line : {s : List ℕ} → Good s (drawn maps.A capacities)
      → fitting capacities x₀ x₁ x₂ value ≡ true → net maps.A (on_darts (atℤ (x₀ ∷ x₁ ∷ x₂ ∷ []))) 0 ≡ value
      → first_least capacities x₀ x₁ x₂ value ≡ true → last_most capacities x₀ x₁ x₂ value ≡ true
      → member (w ∷ []) 0 ≡ true → member (w ∷ []) 1 ≡ false → le_z (outward 𝓐 w) value ≡ true
      → short 𝓐 next w ≡ true → alone 𝓐 (short 𝓐 next) w ≡ true
      → LargestIs s 0 1 value (x₀ ∷ x₁ ∷ x₂ ∷ []) (w ∷ [])
  largest_line good fits total low high source sink most proves tried =
      largest_is good 0 1 value (x₀ ∷ x₁ ∷ x₂ ∷ []) (w ∷ []) (can_on_a capacities x₀ x₁ x₂ value fits total low high)
      ((source, sink), le_of_test (outward 𝓐 w) value most) (cannot_by 𝓐 (omega arith) (omega arith) next w proves tried)

-- ── levels, on A's map: the settings fit, are balanced, and are the differences of the three levels, the first of which is 0 ──
module _ (capacities : List ℤ) (x₀ x₁ x₂ l₀ l₁ l₂ : ℤ) where
  abbrev flows : List ℤ → ℕ → ℤ
  flows more = atℤ (x₀ ∷ x₁ ∷ x₂ ∷ more)

  abbrev heights : ℕ → ℤ
  heights = atℤ (l₀ ∷ l₁ ∷ l₂ ∷ [])

  pub levels_line : {s : List ℕ} → Good s (drawn maps.A capacities)
      → ((more : List ℤ) → every 6 (λ d. le_z (on_darts (flows more) d) (atℤ capacities d)) ≡ true)
      → ((more : List ℤ) → every 2 (λ v. eq_z (net maps.A (on_darts (flows more)) v) (pos 0)) ≡ true)
      → ((more : List ℤ) → every 6 (λ d. eq_z (on_darts (flows more) d) (difference maps.A heights d)) ≡ true)
      → l₀ ≡ pos 0
      → LevelsAre s (x₀ ∷ x₁ ∷ x₂ ∷ []) (l₀ ∷ l₁ ∷ l₂ ∷ [])
  levels_line good fits balanced differ rooted = levels_are good (x₀ ∷ x₁ ∷ x₂ ∷ []) (l₀ ∷ l₁ ∷ l₂ ∷ []) by
    where
      by : (more : List ℤ) → LevelsBy (x₀ ∷ x₁ ∷ x₂ ∷ more) (l₀ ∷ l₁ ∷ l₂ ∷ []) (drawn maps.A capacities)
      by more = record {
        settings_long = omega arith;
        found_long = sym (maps.a_faces).0;
        within = every_at_most 6 (on_darts (flows more)) (atℤ capacities) (fits more);
        balanced =
            record {
              antisymmetric = on_darts_antisymmetric maps.A (flows more);
              balanced = every_equalℤ 2 (net maps.A (on_darts (flows more))) (λ v. pos 0) (balanced more);
            };
        levels =
            record {
              differences = every_equalℤ 6 (on_darts (flows more)) (difference maps.A heights) (differ more);
              rooted = λ f z. ap heights (zero_connected maps.a_sound maps.a_connected 0 (omega arith) f z ∙ (maps.a_faces).1) ∙ rooted;
            };
      }
