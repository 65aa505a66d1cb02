-- The checks of the two level operations in their parts: the ways out of them, and what their passing tells.
use mathlib.Core.Path.{◌≡◌, refl}
use mathlib.Core.Logic.{◌⊎◌, inl, inr}
use mathlib.Core.List.{List, [], ◌∷◌, ◌++◌}
use Prim.Native.Nat.{ℕ, ◌≤◌, ◌<◌}
use native.Mathlib.Omega.{arith}
use lib.ListN.{length}
use lib.IntN.{ℤ, pos}
use Rattle.refusals.specs.Order.{Check, ◌when◌, NoneOf, FirstOf}
use Rattle.refusals.proofs.Order.{none_append, append_none, first_left, first_right, neither}
use Rattle.maps.specs.Drawing.{Drawing}
use Rattle.maps.specs.Face.{faces}
use Rattle.flows.specs.ZeroFace.{ZeroFace}
use Rattle.flows.specs.Check.{within_checks, balance_checks, NoNode}
use Rattle.arrays.specs.At.{atℤ}
use Rattle.levels.specs.Level.{LevelOutside, level_checks}
use Rattle.levels.specs.LevelsOf.{balanced_checks}
use Rattle.levels.specs.SettingsOf.{leveled_checks, from_levels}
use Rattle.levels.proofs.Level.{levels_none, levels_inside, levels_rooted}

-- ── 16, for both: a slice is too short ──
module _ (𝓓 : Drawing) (flows levels : List ℤ) where
  abbrev Short : Type 0
  Short = (length flows < 𝓓.map.edges) ⊎ (length levels < faces 𝓓.map)

  abbrev short_checks : List Check
  short_checks = (16 when Short) ∷ []

  is_long : 𝓓.map.edges ≤ length flows → faces 𝓓.map ≤ length levels → NoneOf short_checks
  unfolding NoneOf
  is_long room-edges room-faces = (neither (λ l. omega arith) (λ l. omega arith), tt)

  long_edges : (Short → ⊥) → 𝓓.map.edges ≤ length flows
  long_edges h = let f : length flows < 𝓓.map.edges → ⊥ = λ l. h (inl l) in omega arith

  long_faces : (Short → ⊥) → faces 𝓓.map ≤ length levels
  long_faces h = let f : length levels < faces 𝓓.map → ⊥ = λ l. h (inr l) in omega arith

-- ── Levels from settings: 16, 17, 18 ──
module _ (𝓓 : Drawing) (flows levels : List ℤ) where
  abbrev within : List Check
  within = within_checks 𝓓.map.edges 𝓓.capacity (atℤ flows)

  abbrev balance : List Check
  balance = balance_checks 𝓓.map NoNode (atℤ flows)

  pub balanced_short : (length flows < 𝓓.map.edges) ⊎ (length levels < faces 𝓓.map) → FirstOf (balanced_checks 𝓓 flows levels) 16 0
  unfolding FirstOf balanced_checks
  balanced_short l = inl (l, refl, refl)

  module _ (room-edges : 𝓓.map.edges ≤ length flows) (room-faces : faces 𝓓.map ≤ length levels) where
    pub balanced_within : (k p : ℕ) → FirstOf within k p → FirstOf (balanced_checks 𝓓 flows levels) k p
    unfolding balanced_checks
    balanced_within k p h =
        first_right (short_checks 𝓓 flows levels) (within ++ balance) k p (is_long 𝓓 flows levels room-edges room-faces) (first_left within balance k p h)

    pub balanced_balance : NoneOf within → (k p : ℕ) → FirstOf balance k p → FirstOf (balanced_checks 𝓓 flows levels) k p
    unfolding balanced_checks
    balanced_balance w k p h =
        first_right (short_checks 𝓓 flows levels) (within ++ balance) k p (is_long 𝓓 flows levels room-edges room-faces) (first_right within balance k p w h)

    pub balanced_none : NoneOf within → NoneOf balance → NoneOf (balanced_checks 𝓓 flows levels)
    unfolding balanced_checks
    balanced_none w b =
        none_append (short_checks 𝓓 flows levels) (within ++ balance) (is_long 𝓓 flows levels room-edges room-faces) (none_append within balance w b)

  pub balanced_parts : NoneOf (balanced_checks 𝓓 flows levels) → (𝓓.map.edges ≤ length flows) × (faces 𝓓.map ≤ length levels)
      × NoneOf (within_checks 𝓓.map.edges 𝓓.capacity (atℤ flows)) × NoneOf (balance_checks 𝓓.map NoNode (atℤ flows))
  unfolding balanced_checks NoneOf
  balanced_parts h =
      let q = append_none within balance h.1 in
      (long_edges 𝓓 flows levels h.0, long_faces 𝓓 flows levels h.0, q.0, q.1)

-- ── Settings from levels: 16, 19, 20, 17 ──
module _ (𝓓 : Drawing) (levels flows : List ℤ) where
  abbrev judged : List Check
  judged = level_checks (faces 𝓓.map) (ZeroFace 𝓓.map 𝓓.outer) (atℤ levels)

  abbrev kept : List Check
  kept = within_checks 𝓓.map.edges 𝓓.capacity (from_levels 𝓓.map (atℤ levels))

  pub leveled_short : (length flows < 𝓓.map.edges) ⊎ (length levels < faces 𝓓.map) → FirstOf (leveled_checks 𝓓 levels flows) 16 0
  unfolding FirstOf leveled_checks
  leveled_short l = inl (l, refl, refl)

  module _ (room-edges : 𝓓.map.edges ≤ length flows) (room-faces : faces 𝓓.map ≤ length levels) where
    pub leveled_levels : (k p : ℕ) → FirstOf judged k p → FirstOf (leveled_checks 𝓓 levels flows) k p
    unfolding leveled_checks
    leveled_levels k p h =
        first_right (short_checks 𝓓 flows levels) (judged ++ kept) k p (is_long 𝓓 flows levels room-edges room-faces) (first_left judged kept k p h)

    pub leveled_within : NoneOf judged → (k p : ℕ) → FirstOf kept k p → FirstOf (leveled_checks 𝓓 levels flows) k p
    unfolding leveled_checks
    leveled_within j k p h =
        first_right (short_checks 𝓓 flows levels) (judged ++ kept) k p (is_long 𝓓 flows levels room-edges room-faces) (first_right judged kept k p j h)

    pub leveled_none : NoneOf judged → NoneOf kept → NoneOf (leveled_checks 𝓓 levels flows)
    unfolding leveled_checks
    leveled_none j w = none_append (short_checks 𝓓 flows levels) (judged ++ kept) (is_long 𝓓 flows levels room-edges room-faces) (none_append judged kept j w)

    -- the same, by what 19 and 20 ask of the levels
    pub leveled_whole : ((f : ℕ) → f < faces 𝓓.map → LevelOutside (atℤ levels f) → ⊥) → ((f : ℕ) → ZeroFace 𝓓.map 𝓓.outer f → atℤ levels f ≡ pos 0)
        → NoneOf (within_checks 𝓓.map.edges 𝓓.capacity (from_levels 𝓓.map (atℤ levels))) → NoneOf (leveled_checks 𝓓 levels flows)
    leveled_whole inside rooted w = leveled_none (levels_none (faces 𝓓.map) (ZeroFace 𝓓.map 𝓓.outer) (atℤ levels) inside rooted) w

  pub leveled_parts : NoneOf (leveled_checks 𝓓 levels flows) → (𝓓.map.edges ≤ length flows) × (faces 𝓓.map ≤ length levels)
      × ((f : ℕ) → f < faces 𝓓.map → LevelOutside (atℤ levels f) → ⊥) × ((f : ℕ) → ZeroFace 𝓓.map 𝓓.outer f → atℤ levels f ≡ pos 0)
      × NoneOf (within_checks 𝓓.map.edges 𝓓.capacity (from_levels 𝓓.map (atℤ levels)))
  unfolding leveled_checks NoneOf
  leveled_parts h =
      let q = append_none judged kept h.1 in (
        long_edges 𝓓 flows levels h.0,
        long_faces 𝓓 flows levels h.0,
        levels_inside (faces 𝓓.map) (ZeroFace 𝓓.map 𝓓.outer) (atℤ levels) q.0,
        levels_rooted (faces 𝓓.map) (ZeroFace 𝓓.map 𝓓.outer) (atℤ levels) q.0,
        q.1,
      )
