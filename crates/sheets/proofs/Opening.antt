-- Opening a sheet: arrays filled from its bytes are its drawing's functions, everywhere; what the phases of the checks said is what all of them say.
use mathlib.Core.Path.{◌≡◌, ◌∙◌, ap, subst, fun_ext}
use mathlib.Core.Bool.{cond}
use mathlib.Core.List.{List}
use Prim.Native.Nat.{ℕ, ◌*◌, ◌≤◌}
use native.Mathlib.Omega.{arith}
use lib.Dec.{ltb}
use lib.ListN.{length}
use lib.IntN.{ℤ, pos}
use Rattle.std.specs.Prelude.{Ok, Err}
use Rattle.refusals.specs.Order.{NoneOf, FirstOf}
use Rattle.refusals.specs.declared.Refusal.{Refusal}
use Rattle.refusals.proofs.Order.{none_append, first_left, first_right, first_in_turn, none_in_turn}
use Rattle.arrays.specs.At.{at, atℤ}
use Rattle.arrays.specs.Maps.{map_of, drawing_of}
use Rattle.arrays.specs.declared.Sizes.{Sizes}
use Rattle.arrays.proofs.FillLoops.{Filling, filling_end}
use Rattle.records.specs.Record.{record_length}
use Rattle.records.specs.Sheet.{headLength, nodes_of, edges_of, outer_of, edge_at, field16, field32}
use Rattle.records.specs.Sheet.{tail_of, rotation_of, capacity_of, sheet_map, sheet_drawing, byte_checks}
use Rattle.records.proofs.Bytes.{head_whole, bytes_head, bytes_length, bytes_counts}
use Rattle.sheets.specs.Open.{sheet_checks, Holds, Opens}
use Rattle.sheets.specs.declared.Network.{Network}

-- arrays that were filled edge by edge, from zeros on, hold the sheet's fields
module _ (s : List ℕ) (n : ℕ) (all : n ≡ 2 * edges_of s) where
  pub tails_are : (to : List ℕ) → Filling 0 (field16 s 1) n to → at to ≡ tail_of s
  unfolding tail_of
  tails_are to φ = fun_ext (λ d. filling_end φ d ∙ ap (λ k. cond (ltb d k) (field16 s 1 d) 0) all)

  pub rotations_are : (to : List ℕ) → Filling 0 (field16 s 5) n to → at to ≡ rotation_of s
  unfolding rotation_of
  rotations_are to φ = fun_ext (λ d. filling_end φ d ∙ ap (λ k. cond (ltb d k) (field16 s 5 d) 0) all)

  pub capacities_are : (to : List ℤ) → Filling (pos 0) (field32 s 9) n to → atℤ to ≡ capacity_of s
  unfolding capacity_of
  capacities_are to φ = fun_ext (λ d. filling_end φ d ∙ ap (λ k. cond (ltb d k) (field32 s 9 d) (pos 0)) all)

-- the map and the drawing of the arrays are the sheet's
pub maps_are : (s : List ℕ) (nodes edges : ℕ) (t r : List ℕ) → nodes ≡ nodes_of s → edges ≡ edges_of s
    → at t ≡ tail_of s → at r ≡ rotation_of s → map_of nodes edges t r ≡ sheet_map s
maps_are s nodes edges t r n e p q = λ i. record { nodes = n i; edges = e i; tail = p i; rotation = q i }

pub drawings_are : (s : List ℕ) (nodes edges outer : ℕ) (t r : List ℕ) (c : List ℤ) → nodes ≡ nodes_of s → edges ≡ edges_of s → outer ≡ outer_of s
    → at t ≡ tail_of s → at r ≡ rotation_of s → atℤ c ≡ capacity_of s → drawing_of nodes edges outer t r c ≡ sheet_drawing s
drawings_are s nodes edges outer t r c n e o p q k = λ i. record { map = maps_are s nodes edges t r n e p q i; capacity = k i; outer = o i }

-- room for what the reading asks of a sheet whose bytes passed
pub bytes_room : (s : List ℕ) → NoneOf (byte_checks s)
    → (record_length 1 ≤ length s) × (2 ≤ nodes_of s) × (nodes_of s ≤ 513) × (1 ≤ edges_of s) × (edges_of s ≤ 512) × (edge_at s (edges_of s) ≤ length s)
    × (headLength s ≤ length s)
bytes_room s h =
    let n = bytes_counts s h in
    let l = bytes_length s h in
    let w = head_whole s (bytes_head s h) in
    (omega arith, n.0, n.1, n.2, n.3, omega arith, w.0)

-- ── answers ──
-- what reading a sheet stands on: the checks on its bytes come before those on its map
pub ruleset sheet_steps = (none_append, first_left, first_right)

pub ruleset in_turn_steps = (first_in_turn, none_in_turn)

-- what a record that was looked at says
pub opens_passed : (s : List ℕ) (n : Network) {sizes : Sizes} → n.opened ≡ Ok sizes → Opens s n n.opened → NoneOf (sheet_checks s) × Holds s n sizes
opens_passed s n e h = subst (Opens s n) e h

pub opens_refused : (s : List ℕ) (n : Network) {r : Refusal} → n.opened ≡ Err r → Opens s n n.opened → FirstOf (sheet_checks s) r.number r.place
opens_refused s n e h = subst (Opens s n) e h
