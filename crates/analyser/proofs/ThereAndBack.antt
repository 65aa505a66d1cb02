-- There and back, from the contracts of the two level operations: settings to levels to settings, and levels to settings to levels, give the same numbers
-- (document 01, demand 2). Elements past the edges and past the faces take no part.
use mathlib.Core.Path.{◌≡◌, refl, sym, ◌∙◌, ap₂}
use mathlib.Core.List.{List}
use Prim.Native.Nat.{ℕ, ◌*◌, ◌≤◌, ◌<◌}
use native.Mathlib.Omega.{arith}
use lib.ListN.{length}
use lib.IntN.{ℤ, pos, ◌-ℤ◌}
use Rattle.std.specs.Prelude.{Result, Ok, Err}
use Rattle.integers.specs.inner.Limited.{Limited}
use Rattle.integers.proofs.Omega.{atoms₁, parts, from_less, from_at_most}
use Rattle.refusals.specs.Order.{NoneOf}
use Rattle.refusals.proofs.Order.{none_append, append_none, first_none, neither}
use Rattle.refusals.specs.declared.Refusal.{Refusal}
use Rattle.maps.specs.Map.{Map, darts}
use Rattle.maps.specs.Face.{faces, left, right}
use Rattle.maps.specs.Potential.{difference}
use Rattle.maps.proofs.Faces.{left_in, right_in}
use Rattle.maps.proofs.Planar.{difference_circulation}
use Rattle.flows.specs.Settings.{on_darts, Within}
use Rattle.flows.specs.Levels.{Levels}
use Rattle.flows.specs.Check.{within_checks, balance_checks, NoNode}
use Rattle.flows.proofs.OnDarts.{on_darts_even, on_darts_of, on_darts_antisymmetric}
use Rattle.flows.proofs.Nets.{net_ext}
use Rattle.flows.proofs.LevelBound.{levels_small}
use Rattle.balance.proofs.Within.{none_within, within_none}
use Rattle.balance.proofs.Balance.{circulation_none}
use Rattle.flows.proofs.Agreement.{on_darts_agrees, within_agrees}
use Rattle.records.specs.Sheet.{edges_of, capacity_of, outer_of, sheet_map, sheet_drawing}
use Rattle.arrays.specs.At.{atℤ}
use Rattle.sheets.specs.Open.{sheet_checks}
use Rattle.sheets.proofs.Accepted.{sheet_counts}
use Rattle.arrays.proofs.FillLoops.{filled_length, filled_front}
use Rattle.analyser.specs.LevelsOf.{levels_checks, GivesLevels}
use Rattle.levels.specs.Level.{LevelOutside}
use Rattle.analyser.specs.SettingsOf.{settings_checks, GivesSettings}
use Rattle.levels.specs.LevelsOf.{balanced_checks}
use Rattle.levels.specs.SettingsOf.{leveled_checks, from_levels}
use Rattle.levels.proofs.Given.{balanced_parts, balanced_none, leveled_parts, leveled_whole}
use Rattle.flows.specs.ZeroFace.{ZeroFace}
use Rattle.analyser.specs.Statements.{BalancedWithin, LevelsFor}
use Rattle.analyser.proofs.Accepted.{levels_none}
use Rattle.analyser.proofs.SheetPlane.{plane, outer_in, zero_in, capacity_small, levels_unique}

-- the settings from levels have those levels
from_levels_darts : {𝓜 : Map} → Rattle.maps.specs.Check.Sound 𝓜 → (ρ : ℕ → ℤ) (d : ℕ) → d < darts 𝓜 → on_darts (from_levels 𝓜 ρ) d ≡ difference 𝓜 ρ d
from_levels_darts {𝓜} σ ρ = on_darts_of 𝓜 (difference 𝓜 ρ) (difference_circulation σ ρ).antisymmetric

module _ (s : List ℕ) where
  abbrev 𝓜 : Map
  𝓜 = sheet_map s

  abbrev F : ℕ
  F = faces (sheet_map s)

  -- the parts of the two lists of checks
  levels_parts : (flows levels : List ℤ) → NoneOf (levels_checks s flows levels) → NoneOf (sheet_checks s) × NoneOf
      (balanced_checks (sheet_drawing s) flows levels)
  unfolding levels_checks
  levels_parts flows levels h = append_none (sheet_checks s) _ h

  settings_parts : (levels flows : List ℤ) → NoneOf (settings_checks s levels flows)
      → NoneOf (sheet_checks s) × NoneOf (leveled_checks (sheet_drawing s) levels flows)
  unfolding settings_checks
  settings_parts levels flows h = append_none (sheet_checks s) _ h

  settings_whole : (levels flows : List ℤ) → NoneOf (sheet_checks s)
      → NoneOf (leveled_checks (sheet_drawing s) levels flows) → NoneOf (settings_checks s levels flows)
  unfolding settings_checks
  settings_whole levels flows h b = none_append (sheet_checks s) _ h b

  -- ── settings to levels to settings ──
  pub settings_again : (flows levels levels' : List ℤ) → GivesLevels s flows levels levels' (Ok tt)
      → (flows₀ flows₁ : List ℤ) → edges_of s ≤ length flows₀ → (a : Result Unit Refusal) → GivesSettings s levels' flows₀ flows₁ a
      → (a ≡ Ok tt) × ((e : ℕ) → e < edges_of s → atℤ flows₁ e ≡ atℤ flows e)
  settings_again flows levels levels' given flows₀ flows₁ room a back = finish a back
    where
      sheet : NoneOf (sheet_checks s)
      sheet = (levels_parts flows levels given.0).0

      p : (edges_of s ≤ length flows) × (F ≤ length levels)
          × NoneOf (within_checks (edges_of s) (capacity_of s) (atℤ flows)) × NoneOf (balance_checks 𝓜 NoNode (atℤ flows))
      p = balanced_parts (sheet_drawing s) flows levels (levels_parts flows levels given.0).1

      ρ : ℕ → ℤ
      ρ = given.1.0

      is : Levels 𝓜 (outer_of s) (atℤ flows) ρ
      is = given.1.1

      at_face : (f : ℕ) → f < F → atℤ levels' f ≡ ρ f
      at_face = filled_front (pos 0) F ρ levels levels' given.1.2

      long : F ≤ length levels'
      long = omega (arith, filled_length F ρ levels levels' given.1.2 p.1, p.1)

      within : Within 𝓜 (capacity_of s) (atℤ flows)
      within = none_within 𝓜 (capacity_of s) (atℤ flows) p.2

      -- the differences of the levels are the settings
      same : (e : ℕ) → e < edges_of s → from_levels 𝓜 (atℤ levels') e ≡ atℤ flows e
      same e l =
          ap₂ ◌-ℤ◌ (at_face (left 𝓜 (2 * e)) (left_in (plane s sheet).sound (2 * e) (omega arith)))
          (at_face (right 𝓜 (2 * e)) (right_in (plane s sheet).sound (2 * e) (omega arith)))
          ∙ sym (is.differences (2 * e) (omega arith))
          ∙ on_darts_even (atℤ flows) e

      inside : (f : ℕ) → f < F → LevelOutside (atℤ levels' f) → ⊥
      inside f l =
          rw (at_face f l) (neither (λ h. let x = atoms₁ (ρ f) in omega (arith, from_less h (search parts), from_at_most small.low (search parts)))
          (λ h. let x = atoms₁ (ρ f) in omega (arith, from_less h (search parts), from_at_most small.high (search parts))))
        where
          small : Limited 512000000 (ρ f)
          small =
              levels_small (plane s sheet) (sheet_counts s sheet).3 (outer_of s) (outer_in s sheet)
              (capacity_of s) (atℤ flows) ρ (λ d m. (capacity_small s sheet d m).high) within is f l

      whole : NoneOf (settings_checks s levels' flows₀)
      whole =
          settings_whole levels' flows₀ sheet (leveled_whole (sheet_drawing s) levels' flows₀ room long inside
          (λ f z. at_face f (zero_in s sheet f z) ∙ is.rooted f z)
          (within_none 𝓜 (capacity_of s) (from_levels 𝓜 (atℤ levels'))
          (within_agrees 𝓜 (atℤ flows) (from_levels 𝓜 (atℤ levels')) (λ e l. sym (same e l)) (capacity_of s) within)))

      finish : (a : Result Unit Refusal) → GivesSettings s levels' flows₀ flows₁ a → (a ≡ Ok tt) × ((e : ℕ) → e < edges_of s → atℤ flows₁ e ≡ atℤ flows e)
      finish (Ok done) h = (refl, λ e l. filled_front (pos 0) (edges_of s) (from_levels 𝓜 (atℤ levels')) flows₀ flows₁ h.1 e l ∙ same e l)
      finish (Err r) h = absurd (first_none (settings_checks s levels' flows₀) r.number r.place h.0 whole)

  -- ── levels to settings to levels ──
  module _ (levels flows flows' : List ℤ) (given : GivesSettings s levels flows flows' (Ok tt)) where
    sheet : NoneOf (sheet_checks s)
    sheet = (settings_parts levels flows given.0).0

    p : (edges_of s ≤ length flows)
        × (F ≤ length levels)
        × ((f : ℕ) → f < F → LevelOutside (atℤ levels f) → ⊥)
        × ((f : ℕ) → ZeroFace 𝓜 (outer_of s) f → atℤ levels f ≡ pos 0)
        × NoneOf (within_checks (edges_of s) (capacity_of s) (from_levels 𝓜 (atℤ levels)))
    p = leveled_parts (sheet_drawing s) levels flows (settings_parts levels flows given.0).1

    abbrev x : ℕ → ℤ
    x = from_levels (sheet_map s) (atℤ levels)

    same : (e : ℕ) → e < edges_of s → x e ≡ atℤ flows' e
    same e l = sym (filled_front (pos 0) (edges_of s) x flows flows' given.1 e l)

    differ : (d : ℕ) → d < darts 𝓜 → on_darts (atℤ flows') d ≡ difference 𝓜 (atℤ levels) d
    differ d l = sym (on_darts_agrees 𝓜 x (atℤ flows') same d l) ∙ from_levels_darts (plane s sheet).sound (atℤ levels) d l

    -- the settings given balance, within limits, and their levels are those they were made from
    pub leveled_balanced : BalancedWithin s (atℤ flows') × LevelsFor s (atℤ flows') (atℤ levels)
    leveled_balanced =
        let even = (difference_circulation (plane s sheet).sound (atℤ levels)).balanced in (
          (
            record {
              antisymmetric = on_darts_antisymmetric 𝓜 (atℤ flows');
              balanced = λ v l. net_ext 𝓜 v (on_darts (atℤ flows')) (difference 𝓜 (atℤ levels)) differ ∙ even v l;
            },
            within_agrees 𝓜 x (atℤ flows') same (capacity_of s) (none_within 𝓜 (capacity_of s) x p.4),
          ),
          record { differences = differ; rooted = p.3 },
        )

    pub levels_again : (levels₀ levels₁ : List ℤ) → F ≤ length levels₀ → (a : Result Unit Refusal) → GivesLevels s flows' levels₀ levels₁ a
        → (a ≡ Ok tt) × ((f : ℕ) → f < F → atℤ levels₁ f ≡ atℤ levels f)
    levels_again levels₀ levels₁ room (Ok done) h = (
      refl,
      λ f l.
          filled_front (pos 0) F h.1.0 levels₀ levels₁ h.1.2 f l
          ∙ levels_unique s sheet (atℤ flows') h.1.0 (atℤ levels) h.1.1 leveled_balanced.1 f l,
    )
    levels_again levels₀ levels₁ room (Err r) h = absurd (first_none (levels_checks s flows' levels₀) r.number r.place h.0 whole)
      where
        long : edges_of s ≤ length flows'
        long = omega (arith, filled_length (edges_of s) x flows flows' given.1 p.0, p.0)

        whole : NoneOf (levels_checks s flows' levels₀)
        whole =
            levels_none s flows' levels₀ sheet (balanced_none (sheet_drawing s) flows' levels₀ long room
            (within_none 𝓜 (capacity_of s) (atℤ flows') leveled_balanced.0.1)
            (circulation_none 𝓜 (atℤ flows') leveled_balanced.0.0))
