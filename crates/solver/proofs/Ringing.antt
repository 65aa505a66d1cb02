-- From a ring of parents to a set of nodes: its winding is that of a walk over faces of length below zero, so the heights of the nodes are heights of that
-- winding, and some threshold has a cut below zero.
use mathlib.Core.Path.{◌≡◌, sym, ◌∙◌, subst}
use mathlib.Core.Bool.{Bool}
use Prim.Native.Nat.{ℕ, ◌≤◌, ◌<◌}
use native.Mathlib.Omega.{arith}
use lib.IntN.{ℤ, pos}
use lib.Signed.{◌<ℤ◌}
use Rattle.integers.specs.inner.Limited.{Limited}
use Rattle.maps.specs.Map.{Map, darts}
use Rattle.maps.specs.Cut.{cut}
use Rattle.maps.specs.inner.FaceWalk.{FaceWalk, total}
use Rattle.maps.specs.Potential.{Heights}
use Rattle.maps.proofs.Rings.{winding, ring_threshold}
use Rattle.flows.proofs.Exact.{ring_heights_exist}
use Rattle.traversal.specs.inner.Forest.{Forest}
use Rattle.search.specs.Dual.{Dual}
use Rattle.windings.specs.inner.Winding.{Round, Wound}
use Rattle.windings.proofs.WindingOfRing.{round_of, ring_wound}
use Rattle.heights.specs.inner.Heights as heights
use Rattle.heights.proofs.HeightsOfMap.{sound_fillable}
use Rattle.cuts.specs.inner.Cut.{cut_of}
use Rattle.thresholds.specs.inner.Above.{above}
use Rattle.thresholds.specs.inner.Choice.{Choosable, FirstServes}
use Rattle.arrays.specs.inner.Sizes.{most_height}
use Rattle.cuts.proofs.CutOfMap.{cut-of}
use Rattle.solver.specs.inner.Search.{Ringed}
use Rattle.solver.specs.inner.Named.{MadeOfRing}

module _ {𝓜 : Map} {N : Dual} {parent : ℕ → ℕ} {y : ℕ} (q : Ringed 𝓜 N parent y) where
  pub few_darts : darts 𝓜 ≤ 1024
  few_darts = omega (arith, q.few_edges)

  pub ring_round : Round N.right parent N.darts y
  ring_round = round_of q.few_faces q.ring

  module _ {order from : ℕ → ℕ} {first trees : ℕ} (𝓕 : Forest (darts 𝓜) 𝓜.rotation first order from trees)
      {wd : ℕ → ℤ} (wound : Wound N.right parent N.darts y wd) where
    pub heights_fillable : heights.Fillable (darts 𝓜) 𝓜.tail order from wd
    heights_fillable =
        sound_fillable q.plane.sound 𝓕 q.few_nodes few_darts (λ d l. wound.limited d (omega (arith, q.of.darts_are)))

    module _ {height : ℕ → ℤ} (filled : heights.Filled (darts 𝓜) 𝓜.tail wd height) where
      walk : (w : FaceWalk 𝓜 y y) × (total N.length w <ℤ pos 0) × ((d : ℕ) → d < N.darts → wd d ≡ winding w d)
      walk = ring_wound q.of q.few_faces q.ring wound

      -- there are heights of the winding, so those found are such, with the first node of each tree at 0
      known_heights : (H : ℕ → ℤ) × heights.HeightsOf (darts 𝓜) 𝓜.tail wd H
      known_heights =
          let known = ring_heights_exist q.plane walk.0 in
          (known.0, λ d l. walk.2 d (omega (arith, q.of.darts_are)) ∙ known.1 d l)

      pub made_of_ring : N.darts ≡ darts 𝓜 → {S : ℕ → Bool} → heights.Rooted (darts 𝓜) 𝓜.tail order from wd height
          → FirstServes 𝓜.nodes (darts 𝓜) 𝓜.tail N.length height S → MadeOfRing 𝓜 N.right N.length order from parent y S
      made_of_ring e rooted serves = record {
        round = subst (λ n. Round N.right parent n y) e ring_round;
        winding = wd;
        wound = subst (λ n. Wound N.right parent n y wd) e wound;
        height = height;
        heights = filled.right known_heights.0 known_heights.1;
        rooted = rooted.zero known_heights.0 known_heights.1;
        serves = serves;
      }

      -- the winding is the difference of the heights found
      found_heights : Heights 𝓜 (winding walk.0) height
      found_heights d l =
          sym (walk.2 d (omega (arith, q.of.darts_are)))
          ∙ filled.right known.0 (λ d l. walk.2 d (omega (arith, q.of.darts_are)) ∙ known.1 d l) d l
        where
          known : (H : ℕ → ℤ) × Heights 𝓜 (winding walk.0) H
          known = ring_heights_exist q.plane walk.0

      some_threshold : (θ : ℤ) × (cut 𝓜 N.length (above height θ) <ℤ pos 0)
      some_threshold = ring_threshold q.plane.sound N.length q.pairs walk.0 walk.1 height found_heights

      pub choosable : Choosable 𝓜.nodes (darts 𝓜) 𝓜.tail N.length height
      choosable = record {
        few_nodes = q.few_nodes;
        some_node = q.plane.some;
        few_darts = few_darts;
        even = omega arith;
        tail_in = q.plane.sound.range.tail_in;
        short = q.short;
        low = λ v l. let d = q.plane.sound.has_dart v l in subst (λ u. Limited most_height (height u)) d.2 (filled.limited d.0 d.1);
        threshold = some_threshold.0;
        negative = rw (cut-of 𝓜 N.length (above height some_threshold.0)) at some_threshold.1;
      }

  pub chosen : (S : ℕ → _) → cut_of (darts 𝓜) 𝓜.tail N.length S <ℤ pos 0 → cut 𝓜 N.length S <ℤ pos 0
  chosen S h = rw (cut-of 𝓜 N.length S) h
