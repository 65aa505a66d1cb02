-- The ways out as verdicts of the whole list of checks; what an accepted drawing is known of; and checks in front.
use mathlib.Core.Path.{refl}
use mathlib.Core.Logic.{inl, inr}
use mathlib.Core.List.{List, [], ◌∷◌, ◌++◌}
use Prim.Native.Nat.{ℕ, ◌≤◌, ◌<◌}
use native.Mathlib.Omega.{arith}
use lib.ListN.{length}
use Rattle.std.specs.Prelude.{Result, Ok, Err}
use Rattle.refusals.specs.declared.Refusal.{Refusal}
use Rattle.refusals.specs.Order.{Check, ◌when◌, NoneOf, FirstOf}
use Rattle.refusals.proofs.Order.{none_append, append_none, first_left, first_right}
use Rattle.maps.specs.Map.{darts}
use Rattle.maps.specs.Drawing.{Drawing}
use Rattle.questions.specs.Question.{end_checks}
use Rattle.dimacs.specs.Write.{BelowZero, text_of, text_checks, TextWritten}

module _ (𝓓 : Drawing) (source sink : ℕ) (out : List ℕ) where
  abbrev ends : List Check
  ends = end_checks 𝓓.map.nodes source sink

  abbrev Below : Type 0
  Below = BelowZero (darts 𝓓.map) 𝓓.capacity

  abbrev rest : List Check
  rest = (22 when Below) ∷ (16 when length out < length (text_of 𝓓 source sink)) ∷ []

  pub text_ends : (k p : ℕ) → FirstOf ends k p → FirstOf (text_checks 𝓓 source sink out) k p
  unfolding text_checks
  text_ends k p h = first_left ends rest k p h

  module _ (two : NoneOf ends) where
    pub text_negative : Below → FirstOf (text_checks 𝓓 source sink out) 22 0
    unfolding text_checks FirstOf
    text_negative b = first_right ends rest 22 0 two (inl (b, refl, refl))

    module _ (none : Below → ⊥) where
      pub text_short : length out < length (text_of 𝓓 source sink) → FirstOf (text_checks 𝓓 source sink out) 16 0
      unfolding text_checks FirstOf
      text_short l = first_right ends rest 16 0 two (inr (none, inl (l, refl, refl)))

      pub text_none : length (text_of 𝓓 source sink) ≤ length out → NoneOf (text_checks 𝓓 source sink out)
      unfolding text_checks NoneOf
      text_none l = none_append ends rest two (none, ((λ m. omega arith), tt))

  -- what an accepted drawing is known of
  pub text_known : NoneOf (text_checks 𝓓 source sink out) → NoneOf ends × (Below → ⊥)
  unfolding text_checks NoneOf
  text_known h = let a = append_none ends rest h in (a.0, a.1.0)

pub text_after : (before : List Check) → NoneOf before → (𝓓 : Drawing) (checks : List Check) (source sink : ℕ) (out out' : List ℕ) (r : Result ℕ Refusal)
    → TextWritten 𝓓 checks source sink out out' r → TextWritten 𝓓 (before ++ checks) source sink out out' r
text_after before passed 𝓓 checks source sink out out' (Ok n) h = (none_append before checks passed h.0, h.1, h.2)
text_after before passed 𝓓 checks source sink out out' (Err r) h = (first_right before checks r.number r.place passed h.0, h.1)
