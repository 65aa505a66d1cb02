-- A map of two components, by computation: two nodes with a loop each have four faces, and 2 + 4 = 2 + 2 · 2, so each component is flat.
use mathlib.Core.Path.{refl, subst}
use mathlib.Core.List.{[], ◌∷◌}
use Prim.Native.Nat.{ℕ, ◌*◌}
use native.Mathlib.Omega.{arith}
use lib.Dec.{eqb}
use lib.ListN.{get_or}
use Rattle.integers.specs.Sum.{sum}
use Rattle.integers.proofs.Tests.{every, every_below, every_equal, every_two, eqb_true, eqb_eq}
use Rattle.integers.proofs.Injections.{find}
use Rattle.maps.specs.Dart.{rev}
use Rattle.maps.specs.Orbit.{iter, lowest, is_lowest, orbits}
use Rattle.maps.specs.Map.{Map, head}
use Rattle.maps.specs.Face.{faces}
use Rattle.maps.specs.Walk.{Walk, here, Components}
use Rattle.maps.specs.Flat.{FlatInEach}
use Rattle.maps.specs.Check.{Sound}
use Rattle.maps.proofs.Walks.{walk_keeps}
use Rattle.maps.proofs.Parts.{flat_of_total}

abbrev pub two_loops : Map
two_loops = record { nodes = 2; edges = 2; tail = λ d. get_or (0 ∷ 0 ∷ 1 ∷ 1 ∷ []) d 0; rotation = λ d. get_or (1 ∷ 0 ∷ 3 ∷ 2 ∷ []) d 0 }

abbrev steps_to : ℕ → ℕ → ℕ
steps_to c d = find 4 (λ j. eqb (iter two_loops.rotation j c) d)

pub two_loops_sound : Sound two_loops
unfolding every iter find
two_loops_sound = record {
  range = record { tail_in = every_below 4 two_loops.tail (λ d. 2) refl; rotation_in = every_below 4 two_loops.rotation (λ d. 4) refl };
  same_tail = every_equal 4 (λ d. two_loops.tail (two_loops.rotation d)) two_loops.tail refl;
  injective = λ c d lc ld e. eqb_eq c d
      (every_two 4 (λ c d. eqb (two_loops.rotation c) (two_loops.rotation d)) eqb refl c d lc ld (eqb_true (two_loops.rotation c) (two_loops.rotation d) e));
  one_round = λ c d lc ld e. (
    steps_to c d,
    eqb_eq (iter two_loops.rotation (steps_to c d) c) d
        (every_two 4 (λ c d. eqb (two_loops.tail c) (two_loops.tail d)) (λ c d. eqb (iter two_loops.rotation (steps_to c d) c) d) refl c d lc ld
        (eqb_true (two_loops.tail c) (two_loops.tail d) e)),
  );
  has_dart = λ v l. (2 * v, omega arith, every_equal 2 (λ v. two_loops.tail (2 * v)) (λ v. v) refl v l);
}

pub two_loops_components : Components two_loops 2 (λ v. v)
unfolding every rev
two_loops_components = record {
  below = λ v l. l;
  joined = λ v w lv lw e. subst (λ x. Walk two_loops v x) e here;
  agree = λ v w lv lw r. walk_keeps (λ v. v) (every_equal 4 two_loops.tail (head two_loops) refl) r;
  used = λ c l. (c, l, refl);
}

pub two_loops_flat : FlatInEach two_loops 2 (λ v. v)
unfolding faces orbits is_lowest lowest iter sum rev
two_loops_flat = flat_of_total two_loops_sound two_loops_components refl
