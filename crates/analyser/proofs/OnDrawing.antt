-- Largest on a plane drawing with two ends that are nodes, whatever its capacities: what is said of an answer follows from `LargestFound` alone. Of a sheet's
-- own capacities it is demand 3 (`Demand3`), of those found from a capture it is Job 10's (`LimitsOfCapture`).
use mathlib.Core.Path.{◌≡◌, refl, sym, subst}
use mathlib.Core.Logic.{◌≢◌, ◌⊎◌, inl, inr}
use mathlib.Core.Bool.{Bool}
use mathlib.Core.List.{List}
use Prim.Native.Nat.{ℕ, ◌<◌}
use native.Mathlib.Omega.{arith}
use lib.IntN.{ℤ, pos, ◌+ℤ◌}
use lib.Signed.{◌≤ℤ◌}
use Rattle.std.specs.Prelude.{Option, Some, None, Result, Ok, Err}
use Rattle.integers.proofs.Omega.{atoms₁, atoms₃, parts, at_most, from_at_most, from_less}
use Rattle.refusals.specs.Order.{Check, NoneOf}
use Rattle.refusals.proofs.Order.{first_none}
use Rattle.refusals.specs.declared.Refusal.{Refusal}
use Rattle.maps.specs.Drawing.{Drawing}
use Rattle.maps.specs.Cut.{cut}
use Rattle.flows.specs.Settings.{Carries}
use Rattle.flows.specs.Highest.{Highest}
use Rattle.flows.specs.ProvingSet.{Proves, member}
use Rattle.flows.specs.inner.Plane.{Plane}
use Rattle.flows.specs.inner.Sides.{AtSource, AtSink, Beside}
use Rattle.flows.proofs.Agreement.{highest_agrees}
use Rattle.flows.proofs.Exact.{proves_excludes}
use Rattle.flows.proofs.Interval.{which, source_limits, source_short, sink_proves_less, beside_proves, beside_proves_all}
use Rattle.arrays.specs.At.{atℤ}
use Rattle.arrays.proofs.FillLoops.{filled_front}
use Rattle.questions.specs.Question.{end_checks}
use Rattle.questions.specs.Largest.{LargestFound}
use Rattle.questions.proofs.Asked.{ends_in, ends_differ}

module _ (𝓓 : Drawing) (plane : Plane 𝓓.map) (source sink : ℕ) (two : NoneOf (end_checks 𝓓.map.nodes source sink)) where
  -- the settings x carry the value
  abbrev Carried : ℤ → (ℕ → ℤ) → Type 0
  Carried value x = Carries 𝓓.map 𝓓.capacity source sink value x

  ends : (source < 𝓓.map.nodes) × (sink < 𝓓.map.nodes)
  ends = ends_in 𝓓.map.nodes source sink two

  apart : source ≢ sink
  apart = ends_differ 𝓓.map.nodes source sink two

  -- a proving set excludes every flow of its value, whoever gives it
  pub excludes : (value : ℤ) (S : ℕ → Bool) → Proves 𝓓.map 𝓓.capacity source sink value S
      → (x : ℕ → ℤ) → Carries 𝓓.map 𝓓.capacity source sink value x → ⊥
  excludes value S = proves_excludes plane.sound.range ends.0 ends.1 apart 𝓓.capacity value S

  module _ (checks : List Check) (flows flows' : List ℤ) (set set' : List ℕ) where
    abbrev Answers : Result (Option ℤ) Refusal → Type 0
    Answers = LargestFound 𝓓 checks source sink flows flows' set set'

    -- ── a value: it is carried by the settings given, the highest answer ──
    module _ (v : ℤ) (h : LargestFound 𝓓 checks source sink flows flows' set set' (Ok (Some v))) where
      pub largest_highest : Highest 𝓓.map 𝓓.outer 𝓓.capacity source sink v (atℤ flows')
      largest_highest =
          let x = h.1.0 in
          highest_agrees 𝓓.map x (atℤ flows') (λ i l. sym (filled_front (pos 0) 𝓓.map.edges x flows flows' h.1.2 i l)) h.1.1

      pub largest_carries : Carries 𝓓.map 𝓓.capacity source sink v (atℤ flows')
      largest_carries = largest_highest.carries

      -- ── nothing greater can be carried: the set holds the source only, since it would exclude v as well if it held the sink only, or both or neither ──
      pub nothing_greater : (w : ℤ) (x : ℕ → ℤ) → Carries 𝓓.map 𝓓.capacity source sink w x → w ≤ℤ v
      nothing_greater w x d = go (which source sink (member h.2.0))
        where
          proves : Proves 𝓓.map 𝓓.capacity source sink (v +ℤ pos 1) (member h.2.0)
          proves = h.2.2

          go : AtSource source sink (member h.2.0) ⊎ (AtSink source sink (member h.2.0) ⊎ Beside source sink (member h.2.0)) → w ≤ℤ v
          go (inl side) =
              let k = atoms₃ w v (cut 𝓓.map 𝓓.capacity (member h.2.0)) in
              at_most (search parts) (omega (
                arith,
                from_at_most (source_limits plane.sound.range ends.0 ends.1 apart 𝓓.capacity (member h.2.0) side w x d) (search parts),
                from_less (source_short 𝓓.map 𝓓.capacity source sink (member h.2.0) side (v +ℤ pos 1) proves) (search parts),
              ))
          go (inr (inl side)) =
              absurd (excludes v (member h.2.0)
              (sink_proves_less 𝓓.map 𝓓.capacity source sink (member h.2.0) side (v +ℤ pos 1) v below proves) (atℤ flows') largest_carries)
            where
              below : v ≤ℤ (v +ℤ pos 1)
              below = let k = atoms₁ v in at_most (search parts) (omega arith)
          go (inr (inr side)) =
              absurd (excludes v (member h.2.0)
              (beside_proves_all 𝓓.map 𝓓.capacity source sink (member h.2.0) side (v +ℤ pos 1) proves v) (atℤ flows') largest_carries)

    -- ── none: the set given proves each value impossible, of every whole number ──
    module _ (h : LargestFound 𝓓 checks source sink flows flows' set set' (Ok None)) where
      pub none_proves : (value : ℤ) → Proves 𝓓.map 𝓓.capacity source sink value (member h.2.0)
      none_proves = beside_proves 𝓓.map 𝓓.capacity source sink (member h.2.0) h.2.2.0 h.2.2.1

      pub none_delivered : (value : ℤ) (x : ℕ → ℤ) → Carries 𝓓.map 𝓓.capacity source sink value x → ⊥
      none_delivered value = excludes value (member h.2.0) (none_proves value)

    -- ── exactly when ──
    module _ (asked : NoneOf checks) (answer : Result (Option ℤ) Refusal) (found : LargestFound 𝓓 checks source sink flows flows' set set' answer) where
      pub none_exactly : (answer ≡ Ok None → (value : ℤ) (x : ℕ → ℤ) → Carries 𝓓.map 𝓓.capacity source sink value x → ⊥)
          × (((value : ℤ) (x : ℕ → ℤ) → Carries 𝓓.map 𝓓.capacity source sink value x → ⊥) → answer ≡ Ok None)
      none_exactly = ((λ q. none_delivered (subst Answers q found)), (λ nothing. by answer found nothing))
        where
          by : (r : Result (Option ℤ) Refusal) → Answers r → ((value : ℤ) (x : ℕ → ℤ) → Carried value x → ⊥) → r ≡ Ok None
          by (Ok (Some v)) h nothing = absurd (nothing v (atℤ flows') (largest_carries v h))
          by (Ok None) h nothing = refl
          by (Err r) h nothing = absurd (first_none checks r.number r.place h.0 asked)

      -- a value is given exactly when something can be carried
      pub value_exactly : ((v : ℤ) → answer ≡ Ok (Some v) → Carries 𝓓.map 𝓓.capacity source sink v (atℤ flows'))
          × ((value : ℤ) (x : ℕ → ℤ) → Carries 𝓓.map 𝓓.capacity source sink value x → (v : ℤ) × (answer ≡ Ok (Some v)))
      value_exactly = ((λ v q. largest_carries v (subst Answers q found)), (λ value x d. by answer found value x d))
        where
          by : (r : Result (Option ℤ) Refusal) → Answers r → (value : ℤ) (x : ℕ → ℤ) → Carried value x → (v : ℤ) × (r ≡ Ok (Some v))
          by (Ok (Some v)) h value x d = (v, refl)
          by (Ok None) h value x d = absurd (none_delivered h value x d)
          by (Err r) h value x d = absurd (first_none checks r.number r.place h.0 asked)
