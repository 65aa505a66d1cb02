-- The drawings that a sheet can hold: their numbers fit its fields, and they are zero past their darts, as the drawing read from a sheet is.
use mathlib.Core.Path.{◌≡◌}
use mathlib.Core.Logic.{inl, inr}
use mathlib.Core.List.{List}
use Prim.Native.Nat.{ℕ, ◌*◌, ◌≤◌, ◌<◌}
use native.Mathlib.Omega.{arith}
use native.Mathlib.Decide.{dec_lt}
use lib.Dec.{lt→ltb}
use lib.IntN.{ℤ, pos, negsuc}
use lib.Signed.{lt_z_yes}
use mir.Syntax.{w32}
use mir.Val.{SFits}
use Rattle.refusals.specs.Order.{NoneOf}
use Rattle.maps.specs.Drawing.{Drawing}
use Rattle.records.specs.Check.{CapacityOutside, number_checks, edge_checks}
use Rattle.records.specs.Sheet.{sheet_drawing}
use Rattle.records.proofs.Fields.{tail_past, rotation_past, capacity_past}
use Rattle.records.proofs.Drawing.{counts_range, outer_range, drawing_range, drawing_capacities}

-- zero past the darts
pub record ZeroPast (𝓓 : Drawing) : Type 0 where
  pub tail_zero : (d : ℕ) → 2 * 𝓓.map.edges ≤ d → 𝓓.map.tail d ≡ 0
  pub rotation_zero : (d : ℕ) → 2 * 𝓓.map.edges ≤ d → 𝓓.map.rotation d ≡ 0
  pub capacity_zero : (d : ℕ) → 2 * 𝓓.map.edges ≤ d → 𝓓.capacity d ≡ pos 0

pub record Encodable (𝓓 : Drawing) : Type 0 where
  pub nodes_fit : 𝓓.map.nodes < 65536
  pub edges_fit : 𝓓.map.edges < 65536
  pub outer_fits : 𝓓.outer < 65536
  pub tail_fits : (d : ℕ) → d < 2 * 𝓓.map.edges → 𝓓.map.tail d < 65536
  pub rotation_fits : (d : ℕ) → d < 2 * 𝓓.map.edges → 𝓓.map.rotation d < 65536
  pub capacity_fits : (d : ℕ) → d < 2 * 𝓓.map.edges → SFits w32 (𝓓.capacity d)
  pub zero_past : ZeroPast 𝓓

pub sheet_zero_past : (s : List ℕ) → ZeroPast (sheet_drawing s)
sheet_zero_past s = record { tail_zero = tail_past s; rotation_zero = rotation_past s; capacity_zero = capacity_past s }

-- ── what the checks leave fits ──
-- 1,000,000 is far below 2 ^ 31
capacity_fits_32 : (c : ℤ) → (CapacityOutside c → ⊥) → SFits w32 c
capacity_fits_32 (pos n) h = go (dec_lt 1000000 n)
  where
    go : Dec (1000000 < n) → SFits w32 (pos n)
    go (yes l) = absurd (h (inr (lt_z_yes (lt→ltb 1000000 n l))))
    go (no l) = record { sfits = omega (arith, l) }
capacity_fits_32 (negsuc n) h = go (dec_lt 999999 n)
  where
    go : Dec (999999 < n) → SFits w32 (negsuc n)
    go (yes l) = absurd (h (inl (lt_z_yes (lt→ltb 999999 n l))))
    go (no l) = record { sfits = omega (arith, l) }

pub encodable_of_checks : (𝓓 : Drawing) → NoneOf (number_checks 𝓓.map.nodes 𝓓.map.edges 𝓓.outer)
    → ((e : ℕ) → e < 𝓓.map.edges → NoneOf (edge_checks 𝓓 e)) → ZeroPast 𝓓 → Encodable 𝓓
encodable_of_checks 𝓓 numbers edges zero =
    let n = counts_range 𝓓.map.nodes 𝓓.map.edges 𝓓.outer numbers in
    record {
      nodes_fit = omega arith;
      edges_fit = omega arith;
      outer_fits = omega (arith, outer_range 𝓓.map.nodes 𝓓.map.edges 𝓓.outer numbers);
      tail_fits = λ d h. omega (arith, (drawing_range 𝓓 edges).tail_in d h);
      rotation_fits = λ d h. omega (arith, (drawing_range 𝓓 edges).rotation_in d h);
      capacity_fits = λ d h. capacity_fits_32 (𝓓.capacity d) (drawing_capacities 𝓓 edges d h);
      zero_past = zero;
    }
