-- The outer face on drawing A, by computation: with dart 1 as the outer dart it is the face left of that dart, face 1, and the levels of the settings 2, 1, −3,
-- which are 0, −2, −3 with face 0 at 0, are all 2 higher (document 02, Job 6).
use mathlib.Core.Path.{refl, ap}
use mathlib.Core.Logic.{inl}
use mathlib.Core.List.{List, [], ◌∷◌}
use Prim.Native.Nat.{ℕ}
use native.Mathlib.Omega.{arith}
use lib.ListN.{get_or}
use lib.IntN.{ℤ, pos, negsuc}
use Rattle.integers.specs.Sum.{sum}
use Rattle.integers.proofs.Tests.{every, every_equalℤ, eq_z}
use Rattle.maps.specs.Dart.{rev}
use Rattle.maps.specs.Orbit.{iter, lowest, is_lowest, orbits, orbit_of}
use Rattle.maps.specs.Face.{faces, left}
use Rattle.maps.specs.Potential.{difference}
use Rattle.maps.proofs.Examples.{A, a_sound, a_connected}
use Rattle.flows.specs.Settings.{on_darts}
use Rattle.flows.specs.ZeroFace.{ZeroFace}
use Rattle.flows.specs.Levels.{Levels}
use Rattle.flows.proofs.Plane.{zero_connected}

abbrev three : List ℤ → ℕ → ℤ
three l i = get_or l i (pos 0)

pub outer_face : ZeroFace A 1 1
unfolding left orbit_of is_lowest lowest iter sum rev
outer_face = inl refl

pub outer_levels : Levels A 1 (three (pos 2 ∷ pos 1 ∷ negsuc 2 ∷ [])) (three (pos 2 ∷ pos 0 ∷ negsuc 0 ∷ []))
unfolding on_darts faces left orbits orbit_of is_lowest lowest iter sum rev every eq_z
outer_levels = record {
  differences = every_equalℤ 6 (on_darts (three (pos 2 ∷ pos 1 ∷ negsuc 2 ∷ []))) (difference A (three (pos 2 ∷ pos 0 ∷ negsuc 0 ∷ []))) refl;
  rooted = λ f z. ap (three (pos 2 ∷ pos 0 ∷ negsuc 0 ∷ [])) (zero_connected a_sound a_connected 1 (omega arith) f z);
}
