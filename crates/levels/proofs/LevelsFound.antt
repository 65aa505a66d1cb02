-- Levels from settings on a drawing in arrays: settings that 17 leaves are small, the arrays are what the walk over the darts asks for, and the slice as it is
-- left has the levels.
use mathlib.Core.Path.{◌≡◌, refl, sym, ◌∙◌, ap, subst}
use mathlib.Core.Logic.{◌≢◌}
use mathlib.Core.List.{List, ◌++◌}
use Prim.Native.Nat.{ℕ, ◌+◌, ◌*◌, ◌-◌, ◌≤◌, ◌<◌}
use native.Mathlib.Omega.{arith}
use native.Mathlib.Decide.{dec_lt}
use lib.ListN.{length, get_or, drop, get_or-append}
use lib.Seq.{get_or-append-add, get_or-drop, ext_get_or}
use lib.IntN.{ℤ, pos}
use Rattle.integers.specs.inner.Limited.{Limited}
use Rattle.integers.proofs.Omega.{atoms₁, parts, at_most, from_at_most}
use Rattle.integers.proofs.Laws.{le_trans}
use Rattle.refusals.specs.Order.{NoneOf}
use Rattle.maps.specs.Map.{Map, darts}
use Rattle.maps.specs.Face as face
use Rattle.maps.proofs.Faces.{left_in}
use Rattle.flows.specs.Levels.{Levels}
use Rattle.flows.specs.Check.{within_checks, balance_checks, NoNode}
use Rattle.flows.proofs.Agreement.{on_darts_agrees}
use Rattle.arrays.specs.At.{atℤ}
use Rattle.arrays.specs.inner.Drawn.{Drawn}
use Rattle.arrays.specs.Filled.{tabulate, filled}
use Rattle.arrays.specs.inner.Sizes.{most_on_sheet}
use Rattle.arrays.proofs.Tabulate.{length_tabulate, get_d_tabulate}
use Rattle.arrays.proofs.FillLoops.{filled_length}
use Rattle.balance.specs.inner.SmallFlows.{SmallFlows}
use Rattle.balance.proofs.Within.{none_forward, none_backward}
use Rattle.balance.proofs.Balance.{none_circulation}
use Rattle.levels.specs.inner.Laying.{LevelledFrom, Levelable}
use Rattle.levels.proofs.LevelsOfMap.{map_fillable, levels_found}

-- a slice that differs from an older one in its first n places only
pub filled_itself : (n : ℕ) (old new : List ℤ) → n ≤ length old → length new ≡ length old → ((i : ℕ) → n ≤ i → atℤ new i ≡ atℤ old i)
    → new ≡ filled n (atℤ new) old
filled_itself n old new room same kept = ext_get_or (pos 0) new (table ++ drop n old) (same ∙ sym whole) (λ i l. at_place i (dec_lt i n))
  where
    table : List ℤ
    table = tabulate n (atℤ new)

    size : length table ≡ n
    size = length_tabulate n (atℤ new)

    whole : length (table ++ drop n old) ≡ length old
    whole = filled_length n (atℤ new) old (table ++ drop n old) refl room

    past : (k : ℕ) → atℤ new (n + k) ≡ get_or (table ++ drop n old) (n + k) (pos 0)
    past k =
        kept (n + k) (omega arith) ∙ sym (get_or-drop n old k (pos 0)) ∙ sym (get_or-append-add table (drop n old) k (pos 0))
        ∙ ap (λ m. get_or (table ++ drop n old) (m + k) (pos 0)) size

    at_place : (i : ℕ) → Dec (i < n) → atℤ new i ≡ get_or (table ++ drop n old) i (pos 0)
    at_place i (yes l) = sym (get_or-append table (drop n old) (pos 0) i (omega (arith, size)) ∙ get_d_tabulate n i (atℤ new) (pos 0) l)
    at_place i (no over) = let e : n + (i - n) ≡ i = omega (arith, over) in subst (λ j. atℤ new j ≡ get_or (table ++ drop n old) j (pos 0)) e (past (i - n))

-- settings that agree on the edges have the same levels
pub levels_agree : (𝓜 : Map) (outer : ℕ) (x y ρ : ℕ → ℤ) → ((e : ℕ) → e < 𝓜.edges → x e ≡ y e) → Levels 𝓜 outer x ρ → Levels 𝓜 outer y ρ
levels_agree 𝓜 outer x y ρ same h = record { differences = λ d l. sym (on_darts_agrees 𝓜 x y same d l) ∙ h.differences d l; rooted = h.rooted }

module _ {𝓜 : Map} {left : ℕ → ℕ} {faces outer : ℕ} {capacity : ℕ → ℤ} (p : Drawn 𝓜 left faces outer capacity) where
  pub tails_small : (d : ℕ) → d < darts 𝓜 → 𝓜.tail d < 1024
  tails_small d l = omega (arith, p.plane.sound.range.tail_in d l, p.few_nodes)

  -- settings within capacities of at most a million either way are that too
  pub settings_small : ((d : ℕ) → d < darts 𝓜 → Limited most_on_sheet (capacity d))
      → (x : ℕ → ℤ) → NoneOf (within_checks 𝓜.edges capacity x) → SmallFlows 𝓜.edges x
  settings_small small x w e l =
      let forward = le_trans (none_forward 𝓜.edges capacity x w e l) (small (2 * e) (omega arith)).high in
      let backward = le_trans (none_backward 𝓜.edges capacity x w e l) (small (2 * e + 1) (omega arith)).high in
      let a = atoms₁ (x e) in
      record { low = at_most (search parts) (omega (arith, from_at_most backward (search parts))); high = forward }

  module _ (flows levels : List ℤ) where
    pub levelable : length flows ≡ 𝓜.edges → face.faces 𝓜 ≤ length levels → SmallFlows 𝓜.edges (atℤ flows)
        → Levelable 𝓜.edges outer (length levels) 𝓜.rotation left flows
    levelable exact room-faces small = record {
      outer_in = p.outer_in;
      few = p.few_edges;
      exact = exact;
      rotation_in = p.plane.sound.range.rotation_in;
      walked = λ 𝓕. map_fillable p.left_is p.plane.sound (omega (arith, p.outer_in)) p.few_edges room-faces (omega arith) small 𝓕;
    }

    -- what is written: the levels of the balanced settings, in the places of the faces and in no other
    module _ (levels' : List ℤ) (written : LevelledFrom (darts 𝓜) 𝓜.rotation left outer (atℤ flows) levels levels') where
      pub found : NoneOf (balance_checks 𝓜 NoNode (atℤ flows)) → Levels 𝓜 outer (atℤ flows) (atℤ levels')
      found balanced = levels_found p.left_is p.plane (none_circulation 𝓜 (atℤ flows) balanced) written.forest written.levelled.filled

      pub in_place : face.faces 𝓜 ≤ length levels → levels' ≡ filled (face.faces 𝓜) (atℤ levels') levels
      in_place room = filled_itself (face.faces 𝓜) levels levels' room written.levelled.as_long (λ f past. written.levelled.kept f (other f past))
        where
          other : (f : ℕ) → face.faces 𝓜 ≤ f → (d : ℕ) → d < darts 𝓜 → left d ≢ f
          other f past d l e = omega (arith, p.left_is d l, left_in p.plane.sound d l)
