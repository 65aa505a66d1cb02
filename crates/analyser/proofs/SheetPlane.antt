-- An accepted sheet's drawing is plane, its outer dart is one of its darts, and its capacities are within their range;
-- its circulations have levels, one set of them.
use mathlib.Core.Path.{◌≡◌, subst}
use mathlib.Core.Logic.{inl, inr}
use mathlib.Core.List.{List}
use Prim.Native.Nat.{ℕ, ◌<◌}
use native.Mathlib.Omega.{arith}
use lib.IntN.{ℤ}
use Rattle.integers.specs.inner.Limited.{Limited}
use Rattle.integers.proofs.Limits.{limited_more}
use Rattle.refusals.specs.Order.{NoneOf}
use Rattle.maps.specs.Map.{darts}
use Rattle.maps.specs.Face.{faces, left}
use Rattle.maps.proofs.Faces.{left_in}
use Rattle.flows.specs.Settings.{on_darts, Balanced}
use Rattle.flows.specs.ZeroFace.{ZeroFace}
use Rattle.flows.specs.Levels.{Levels}
use Rattle.flows.specs.inner.Plane.{Plane}
use Rattle.flows.proofs.Plane.{potentials_at, potentials_one}
use Rattle.arrays.specs.inner.Sizes.{most_on_sheet}
use Rattle.arrays.specs.inner.Drawn.{Drawn}
use Rattle.rotations.proofs.Accepted.{accepted}
use Rattle.records.specs.Sheet.{capacity_of, outer_of, sheet_map}
use Rattle.records.proofs.Bytes.{bytes_range, bytes_capacities, bytes_pairs}
use Rattle.records.proofs.Drawing.{capacity_inside}
use Rattle.sheets.specs.Open.{sheet_checks}
use Rattle.sheets.proofs.Accepted.{sheet_bytes, sheet-map, sheet_counts, sheet_outer}

module _ (s : List ℕ) (h : NoneOf (sheet_checks s)) where
  pub plane : Plane (sheet_map s)
  plane =
      let a = accepted (bytes_range s (sheet_bytes s h)) (sheet-map s h) in
      let n = sheet_counts s h in
      record { sound = a.0; flat = a.1; some = omega arith }

  pub outer_in : outer_of s < darts (sheet_map s)
  outer_in = sheet_outer s h

  -- a face at 0 is a face
  pub zero_in : (f : ℕ) → ZeroFace (sheet_map s) (outer_of s) f → f < faces (sheet_map s)
  zero_in f (inl e) = rw e (left_in plane.sound (outer_of s) outer_in)
  zero_in f (inr r) = subst (λ g. g < faces (sheet_map s)) r.holds (left_in plane.sound r.dart r.dart_in)

  pub capacity_small : (d : ℕ) → d < darts (sheet_map s) → Limited most_on_sheet (capacity_of s d)
  capacity_small d l = let r = capacity_inside (capacity_of s d) (bytes_capacities s (sheet_bytes s h) d l) in record { low = r.0; high = r.1 }

  -- what the operations on drawings ask of the arrays that hold it
  pub sheet_drawn : (left' : ℕ → ℕ) (count : ℕ) → ((d : ℕ) → d < darts (sheet_map s) → left' d ≡ left (sheet_map s) d) → count ≡ faces (sheet_map s)
      → Drawn (sheet_map s) left' count (outer_of s) (capacity_of s)
  sheet_drawn left' count lefts counted =
      let n = sheet_counts s h in
      record {
        plane = plane;
        few_nodes = omega (arith, n.1);
        few_edges = n.3;
        left_is = lefts;
        counted = counted;
        outer_in = outer_in;
        small = λ d l. limited_more (omega arith) (capacity_small d l);
        pairs = bytes_pairs s (sheet_bytes s h);
      }

  -- the levels of balanced settings, and that there is one set of them
  pub levels_exist : (x : ℕ → ℤ) → Balanced (sheet_map s) x → (ρ : ℕ → ℤ) × Levels (sheet_map s) (outer_of s) x ρ
  levels_exist x b = let r = potentials_at plane (outer_of s) outer_in (on_darts x) b in (r.0, record { differences = r.1; rooted = r.2 })

  pub levels_unique : (x ρ τ : ℕ → ℤ) → Levels (sheet_map s) (outer_of s) x ρ → Levels (sheet_map s) (outer_of s) x τ → (f : ℕ) → f < faces (sheet_map s) → ρ f
      ≡ τ f
  levels_unique x ρ τ p q = potentials_one plane (outer_of s) outer_in (on_darts x) ρ τ p.differences q.differences p.rooted q.rooted
