-- Source and sink in different parts (document 02, Job 8): no dart leaves a part, so its cut is 0, the source's part proves every value above 0 impossible and
-- the sink's every value below 0. Only 0 can be carried.
use mathlib.Core.Path.{◌≡◌, refl, sym, ap}
use mathlib.Core.Logic.{◌≢◌, ◌⊎◌, inl, inr}
use mathlib.Core.Bool.{Bool, true, false, not, ◌&&◌}
use Prim.Native.Nat.{ℕ, ◌<◌}
use lib.Dec.{eqb}
use lib.IntN.{ℤ, pos}
use lib.Signed.{◌≤ℤ◌, ◌<ℤ◌}
use Rattle.integers.specs.Sum.{Integers, when}
use Rattle.integers.proofs.Laws.{lt_or_ge, le_antisym}
use Rattle.integers.proofs.Tests.{eqb_true, eqb_false}
use Rattle.integers.proofs.Sums.{sum_nil}
use Rattle.maps.specs.Map.{Map, darts, head}
use Rattle.maps.specs.Walk.{Walk}
use Rattle.maps.specs.Check.{InRange}
use Rattle.maps.specs.Cut.{leaves, cut}
use Rattle.maps.proofs.Walks.{node_label, label_across, walk_of_label}
use Rattle.flows.specs.Settings.{Carries}
use Rattle.flows.specs.ProvingSet.{Proves}
use Rattle.flows.specs.inner.Sides.{AtSource, AtSink}
use Rattle.flows.proofs.Exact.{proves_excludes}
use Rattle.flows.proofs.Interval.{source_proves, sink_proves}

-- no dart leaves a set that holds both ends of each dart or neither
module _ (𝓜 : Map) (c : ℕ → ℤ) (S : ℕ → Bool) (whole : (d : ℕ) → d < darts 𝓜 → S (𝓜.tail d) ≡ S (head 𝓜 d)) where
  pub nothing_leaves : cut 𝓜 c S ≡ pos 0
  unfolding cut
  nothing_leaves = sum_nil Integers (darts 𝓜) (λ d. when (leaves 𝓜 S d) (c d)) (λ d l. rw (whole d l) (none (S (head 𝓜 d)) (c d)))
    where
      none : (b : Bool) (x : ℤ) → when (b && not b) x ≡ pos 0
      none true x = refl
      none false x = refl

  pub part_of_source : {s t : ℕ} → AtSource s t S → (value : ℤ) → pos 0 <ℤ value → Proves 𝓜 c s t value S
  part_of_source {s} {t} h value l = source_proves 𝓜 c s t S h value (rw nothing_leaves l)

  pub part_of_sink : {s t : ℕ} → AtSink s t S → (value : ℤ) → value <ℤ pos 0 → Proves 𝓜 c s t value S
  part_of_sink {s} {t} h value l = sink_proves 𝓜 c s t S h value (rw nothing_leaves l)

-- the nodes that a walk joins to v
abbrev joined_to : Map → ℕ → ℕ → Bool
joined_to 𝓜 v w = eqb (node_label 𝓜 𝓜.edges v) (node_label 𝓜 𝓜.edges w)

module _ {𝓜 : Map} (range : InRange 𝓜) {s t : ℕ} (s_in : s < 𝓜.nodes) (t_in : t < 𝓜.nodes) (s≢t : s ≢ t) (c : ℕ → ℤ) (apart : Walk 𝓜 s t → ⊥) where
  joined_whole : (v d : ℕ) → d < darts 𝓜 → joined_to 𝓜 v (𝓜.tail d) ≡ joined_to 𝓜 v (head 𝓜 d)
  joined_whole v d l = ap (eqb (node_label 𝓜 𝓜.edges v)) (label_across 𝓜 d l)

  -- only 0
  pub apart_zero : (value : ℤ) (x : ℕ → ℤ) → Carries 𝓜 c s t value x → value ≡ pos 0
  apart_zero value x flow = go (lt_or_ge (pos 0) value) (lt_or_ge value (pos 0))
    where
      go : (pos 0 <ℤ value) ⊎ (value ≤ℤ pos 0) → (value <ℤ pos 0) ⊎ (pos 0 ≤ℤ value) → value ≡ pos 0
      go (inl l) q =
          absurd (proves_excludes range s_in t_in s≢t c value (joined_to 𝓜 s)
          (part_of_source 𝓜 c (joined_to 𝓜 s) (joined_whole s) (
            eqb_true (node_label 𝓜 𝓜.edges s) (node_label 𝓜 𝓜.edges s) refl,
            eqb_false (node_label 𝓜 𝓜.edges s) (node_label 𝓜 𝓜.edges t) (λ e. apart (walk_of_label s t e)),
          ) value l) x flow)
      go (inr h) (inl l) =
          absurd (proves_excludes range s_in t_in s≢t c value (joined_to 𝓜 t)
          (part_of_sink 𝓜 c (joined_to 𝓜 t) (joined_whole t) (
            eqb_false (node_label 𝓜 𝓜.edges t) (node_label 𝓜 𝓜.edges s) (λ e. apart (walk_of_label s t (sym e))),
            eqb_true (node_label 𝓜 𝓜.edges t) (node_label 𝓜 𝓜.edges t) refl,
          ) value l) x flow)
      go (inr h) (inr g) = le_antisym h g
