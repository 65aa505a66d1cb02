-- Concrete maps, by computation: nothing in this crate is vacuous, and each definition that carries meaning gives the paper's numbers.
-- Drawing A of document 01 meets every hypothesis; A with its turns at node 1 the other way round fails flatness only, and has a circulation without
-- potentials; drawing B has a set of nodes with a negative cut.
use mathlib.Core.Path.{◌≡◌, refl, ◌∙◌, ap}
use mathlib.Core.List.{List, [], ◌∷◌}
use mathlib.Core.Bool.{true}
use Prim.Native.Nat.{ℕ, zero, suc, ◌+◌, ◌<◌}
use native.Mathlib.Omega.{arith}
use lib.Dec.{eqb, ltb}
use lib.ListN.{get_or}
use lib.IntN.{ℤ, pos, negsuc, neg_ℤ, nat_abs, +ℤ_invr}
use Rattle.integers.specs.Sum.{sum}
use Rattle.integers.proofs.Tests.{every, every_below, every_equal, every_two, every_equalℤ, every_at_most, eq_z, eqb_true, eqb_eq}
use Rattle.integers.proofs.Injections.{find}
use Rattle.maps.specs.Dart.{rev}
use Rattle.maps.specs.Orbit.{iter, lowest, is_lowest, orbits, orbit_of}
use Rattle.maps.specs.Map.{Map}
use Rattle.maps.specs.Face.{faces, left}
use Rattle.maps.specs.Walk.{Walk, here, along, Connected}
use Rattle.maps.specs.Flat.{Flat}
use Rattle.maps.specs.Check.{Sound, NotFlat}
use Rattle.maps.specs.Flow.{net, Circulation, Flow}
use Rattle.maps.specs.Potential.{difference, Potentials}
use Rattle.maps.specs.Cut.{cut}
use Rattle.maps.proofs.Walks.{connected_components, walk_append, walk_back}
use Rattle.maps.proofs.Euler.{flat_in_one}
use Rattle.maps.proofs.Planar.{circulation_potentials}
use Rattle.maps.proofs.Parts.{flat_connected, connected_total}

-- two nodes and three edges from 0 to 1: the tails of the darts, and a rotation by its list
abbrev three_edges : List ℕ → Map
three_edges turns = record { nodes = 2; edges = 3; tail = λ d. get_or (0 ∷ 1 ∷ 0 ∷ 1 ∷ 0 ∷ 1 ∷ []) d 0; rotation = λ d. get_or turns d 0 }

-- "0 1 2 5 5 0; 0 1 4 1 3 0; 0 1 0 3 4 0"
abbrev pub A : Map
A = three_edges (2 ∷ 5 ∷ 4 ∷ 1 ∷ 0 ∷ 3 ∷ [])

-- "A with turns 1→3→5→1 at node 1"
abbrev pub twisted_a : Map
twisted_a = three_edges (2 ∷ 3 ∷ 4 ∷ 5 ∷ 0 ∷ 1 ∷ [])

-- a map of three edges between two nodes is sound if tests say so
abbrev steps_to : Map → ℕ → ℕ → ℕ
steps_to 𝓜 c d = find 6 (λ j. eqb (iter 𝓜.rotation j c) d)

sound_three : (turns : List ℕ)
    → every 6 (λ d. ltb ((three_edges turns).rotation d) 6) ≡ true
    → every 6 (λ d. eqb ((three_edges turns).tail ((three_edges turns).rotation d)) ((three_edges turns).tail d)) ≡ true
    → ((c d : ℕ) → c < 6 → d < 6 → eqb ((three_edges turns).rotation c) ((three_edges turns).rotation d) ≡ true → eqb c d ≡ true)
    → ((c d : ℕ) → c < 6 → d < 6 → eqb ((three_edges turns).tail c) ((three_edges turns).tail d) ≡ true
    → eqb (iter (three_edges turns).rotation (steps_to (three_edges turns) c d) c) d ≡ true)
    → Sound (three_edges turns)
unfolding every
sound_three turns in-range same apart round = record {
  range = record { tail_in = every_below 6 𝓜.tail (λ d. 2) refl; rotation_in = every_below 6 𝓜.rotation (λ d. 6) in-range };
  same_tail = every_equal 6 (λ d. 𝓜.tail (𝓜.rotation d)) 𝓜.tail same;
  injective = λ c d lc ld e. eqb_eq c d (apart c d lc ld (eqb_true (𝓜.rotation c) (𝓜.rotation d) e));
  one_round = λ c d lc ld e. (steps_to 𝓜 c d, eqb_eq (iter 𝓜.rotation (steps_to 𝓜 c d) c) d (round c d lc ld (eqb_true (𝓜.tail c) (𝓜.tail d) e)));
  has_dart = λ v l. (v, omega arith, every_equal 2 𝓜.tail (λ v. v) refl v l);
}
  where
    𝓜 : Map
    𝓜 = three_edges turns

connected_three : (turns : List ℕ) → Connected (three_edges turns)
unfolding rev
connected_three turns v w lv lw = walk_append (from_zero v lv) (walk_back (from_zero w lw))
  where
    from_zero : (v : ℕ) → v < 2 → Walk (three_edges turns) v 0
    from_zero zero l = here
    from_zero (suc zero) l = along 1 (omega arith) refl here
    from_zero (suc (suc v)) l = absurd (omega arith)

-- ── A ──
pub a_sound : Sound A
unfolding every iter find
a_sound =
    sound_three (2 ∷ 5 ∷ 4 ∷ 1 ∷ 0 ∷ 3 ∷ []) refl refl
    (every_two 6 (λ c d. eqb (A.rotation c) (A.rotation d)) eqb refl)
    (every_two 6 (λ c d. eqb (A.tail c) (A.tail d)) (λ c d. eqb (iter A.rotation (steps_to A c d) c) d) refl)

pub a_connected : Connected A
a_connected = connected_three (2 ∷ 5 ∷ 4 ∷ 1 ∷ 0 ∷ 3 ∷ [])

-- "faces {0,5}, {1,2}, {3,4}"
pub a_faces : (faces A ≡ 3) × (left A 0 ≡ 0) × (left A 5 ≡ 0) × (left A 1 ≡ 1) × (left A 2 ≡ 1) × (left A 3 ≡ 2) × (left A 4 ≡ 2)
unfolding faces left orbits orbit_of is_lowest lowest iter sum rev
a_faces = (refl, refl, refl, refl, refl, refl, refl)

pub a_total : A.nodes + faces A ≡ A.edges + 2
a_total = ap (λ f. 2 + f) a_faces.0

pub a_flat : Flat A
a_flat = flat_connected (omega arith) a_connected a_total

-- so the planar theorem speaks of A
pub a_potentials : (φ : ℕ → ℤ) → Circulation A φ → (ρ : ℕ → ℤ) × Potentials A φ ρ
a_potentials = circulation_potentials a_sound (connected_components (omega arith) a_connected) (flat_in_one A a_total)

-- "A with all limits 5: settings 2, 1, −3 have levels 0, −2, −3"
unfoldable pub balanced_flow : ℕ → ℤ
balanced_flow d = get_or (pos 2 ∷ negsuc 1 ∷ pos 1 ∷ negsuc 0 ∷ negsuc 2 ∷ pos 3 ∷ []) d (pos 0)

unfoldable pub levels : ℕ → ℤ
levels f = get_or (pos 0 ∷ negsuc 1 ∷ negsuc 2 ∷ []) f (pos 0)

pub a_levels : Circulation A balanced_flow × Potentials A balanced_flow levels
unfolding balanced_flow levels net faces left orbits orbit_of is_lowest lowest iter sum rev every eq_z
a_levels = (
  record {
    antisymmetric = every_equalℤ 6 (λ d. balanced_flow (rev d)) (λ d. neg_ℤ (balanced_flow d)) refl;
    balanced = every_equalℤ 2 (net A balanced_flow) (λ v. pos 0) refl;
  },
  every_equalℤ 6 balanced_flow (difference A levels) refl,
)

-- "12: 5, 3, 4", and the cut {0} allows no more
unfoldable pub a_capacity : ℕ → ℤ
a_capacity d = get_or (pos 5 ∷ pos 0 ∷ pos 3 ∷ pos 0 ∷ pos 4 ∷ pos 0 ∷ []) d (pos 0)

unfoldable pub a_twelve : ℕ → ℤ
a_twelve d = get_or (pos 5 ∷ negsuc 4 ∷ pos 3 ∷ negsuc 2 ∷ pos 4 ∷ negsuc 3 ∷ []) d (pos 0)

pub a_carries_twelve : Flow A a_capacity 0 1 (pos 12) a_twelve × (cut A a_capacity (λ v. eqb v 0) ≡ pos 12)
unfolding a_capacity a_twelve net cut sum rev every eq_z
a_carries_twelve = (
  record {
    antisymmetric = every_equalℤ 6 (λ d. a_twelve (rev d)) (λ d. neg_ℤ (a_twelve d)) refl;
    within = every_at_most 6 a_twelve a_capacity refl;
    balanced = λ v l p q. absurd (omega (arith, p, q));
    carries = refl;
  },
  refl,
)

-- ── A with its turns at node 1 the other way round: sound and connected, one face, not flat ──
pub twisted_sound : Sound twisted_a
unfolding every iter find
twisted_sound =
    sound_three (2 ∷ 3 ∷ 4 ∷ 5 ∷ 0 ∷ 1 ∷ []) refl refl
    (every_two 6 (λ c d. eqb (twisted_a.rotation c) (twisted_a.rotation d)) eqb refl)
    (every_two 6 (λ c d. eqb (twisted_a.tail c) (twisted_a.tail d)) (λ c d. eqb (iter twisted_a.rotation (steps_to twisted_a c d) c) d) refl)

pub twisted_connected : Connected twisted_a
twisted_connected = connected_three (2 ∷ 3 ∷ 4 ∷ 5 ∷ 0 ∷ 1 ∷ [])

pub twisted_faces : faces twisted_a ≡ 1
unfolding faces left orbits orbit_of is_lowest lowest iter sum rev
twisted_faces = refl

pub twisted_not_flat : NotFlat twisted_a
twisted_not_flat flat = omega (arith, twisted_faces, connected_total (omega arith) twisted_connected twisted_sound flat)

-- one round through the first two edges: balanced, but every dart has the one face on both sides
unfoldable pub round_trip : ℕ → ℤ
round_trip d = get_or (pos 1 ∷ negsuc 0 ∷ negsuc 0 ∷ pos 1 ∷ pos 0 ∷ pos 0 ∷ []) d (pos 0)

pub twisted_no_potentials : Circulation twisted_a round_trip × ((ρ : ℕ → ℤ) → Potentials twisted_a round_trip ρ → ⊥)
unfolding round_trip net left orbits orbit_of is_lowest lowest iter sum rev every eq_z
twisted_no_potentials = (
  record {
    antisymmetric = every_equalℤ 6 (λ d. round_trip (rev d)) (λ d. neg_ℤ (round_trip d)) refl;
    balanced = every_equalℤ 2 (net twisted_a round_trip) (λ v. pos 0) refl;
  },
  λ ρ p. omega (arith, ap nat_abs (p 0 (omega arith) ∙ +ℤ_invr (ρ 0))),
)

-- ── B: "3 nodes: 0 1 2 1 5 0; 0 2 0 3 3 −1": the set {2} has a negative cut, and {0, 1} counts no dart inside ──
abbrev pub B : Map
B = record { nodes = 3; edges = 2; tail = λ d. get_or (0 ∷ 1 ∷ 0 ∷ 2 ∷ []) d 0; rotation = λ d. get_or (2 ∷ 1 ∷ 0 ∷ 3 ∷ []) d 0 }

unfoldable pub b_capacity : ℕ → ℤ
b_capacity d = get_or (pos 5 ∷ pos 0 ∷ pos 3 ∷ negsuc 0 ∷ []) d (pos 0)

pub b_cuts : (cut B b_capacity (λ v. eqb v 2) ≡ negsuc 0) × (cut B b_capacity (λ v. ltb v 2) ≡ pos 3)
unfolding b_capacity cut sum rev
b_cuts = (refl, refl)
