-- What a call says, by its checks: a refusal that comes first is the answer; on a fit drawing the checks of a party's question are 29, 30 and those of Solve.
use Prim.Native.Nat.{ℕ, zero, suc, ◌≤◌, ◌<◌}
use mathlib.Core.Path.{◌≡◌, refl, sym, ◌∙◌, ap, ap₂, subst}
use mathlib.Core.Logic.{◌≢◌, ◌↔◌, inl, inr}
use mathlib.Core.Bool.{cond}
use mathlib.Core.List.{List, ◌∷◌}
use native.Mathlib.Omega.{arith}
use lib.Dec.{eqb}
use lib.IntN.{ℤ}
use Rattle.std.specs.Prelude.{Result, Ok, Err}
use Rattle.refusals.specs.Order.{Check, ◌when◌, NoneOf, FirstOf, Judged}
use Rattle.refusals.proofs.Order.{first_none, first_one, judged_one}
use Rattle.refusals.proofs.Same.{Same}
use Rattle.refusals.specs.declared.Refusal.{Refusal}
use Rattle.refusals.specs.Refused.{refused}
use Rattle.maps.specs.Drawing.{Drawing}
use Rattle.questions.specs.Question.{value_checks, room_checks}
use Rattle.questions.specs.Solve.{question_checks, Solved}
use Rattle.questions.specs.declared.Solution.{Solution}
use Rattle.questions.specs.declared.Solution.TheVariants.{Can, Cannot}
use Rattle.arrays.specs.At.{atℤ}
use Rattle.sessions.specs.Fit.{Fit, Lowerable}
use Rattle.sessions.specs.Ask as ask
use Rattle.sessions.proofs.Asking.{fit_same}
use Rattle.parties.specs.Shared.{idle, offered, stale, committed, Shared, shared_drawing}
use Rattle.parties.specs.Calls.{ask_checks, commit_checks, Asks, Commits}
use Rattle.parties.proofs.Taking.{no_party, has_committed, no_offer, stale_offer, lets_in}

-- ── Ask ──
module _ (S : Shared) (p source sink : ℕ) (value : ℤ) (flows : List ℤ) (set : List ℕ) where
  abbrev checks : List Check
  checks = ask_checks (shared_drawing S) (S.standing p) p source sink value flows set

  -- the first refusal is the answer
  pub told : (flows' : List ℤ) (set' : List ℕ) (S' : Shared) (answer : Result Solution Refusal) (k q : ℕ)
      → FirstOf (ask_checks (shared_drawing S) (S.standing p) p source sink value flows set) k q
      → Asks S p source sink value flows flows' set set' S' answer → answer ≡ refused k q
  told flows' set' S' (Ok Can) k q first a = absurd (first_none _ k q first a.solved.0)
  told flows' set' S' (Ok (Cannot n)) k q first a = absurd (first_none _ k q first a.solved.0)
  told flows' set' S' (Err r) k q first a = let e = first_one _ r.number r.place k q a.solved.0 first in ap₂ refused e.0 e.1

  pub ask_no_party : 2 ≤ p → FirstOf (ask_checks (shared_drawing S) (S.standing p) p source sink value flows set) 29 0
  unfolding FirstOf ask_checks
  ask_no_party h = inl (h, refl, refl)

  pub ask_committed : p < 2 → S.standing p ≡ committed → FirstOf (ask_checks (shared_drawing S) (S.standing p) p source sink value flows set) 30 0
  unfolding FirstOf ask_checks
  ask_committed l h = inr ((λ m. absurd (omega (arith, l, m))), inl (h, refl, refl))

  -- 13 to a party that may ask
  module _ (l : p < 2) (may : S.standing p ≢ committed) where
    pub ask_unfit : (Fit (shared_drawing S) → ⊥) → FirstOf (ask_checks (shared_drawing S) (S.standing p) p source sink value flows set) 13 0
    unfolding FirstOf ask_checks ask.ask_checks
    ask_unfit h = inr ((λ m. absurd (omega (arith, l, m))), inr (may, inl (inr (inr h), refl, refl)))

    pub ask_empty : S.nodes ≡ 0 → FirstOf (ask_checks (shared_drawing S) (S.standing p) p source sink value flows set) 13 0
    unfolding FirstOf ask_checks ask.ask_checks
    ask_empty e = inr ((λ m. absurd (omega (arith, l, m))), inr (may, inl (inl (omega (arith, e)), refl, refl)))

  -- 29 is said of nothing else
  first_29 : (q : ℕ) → FirstOf (ask_checks (shared_drawing S) (S.standing p) p source sink value flows set) 29 q → 2 ≤ p
  unfolding FirstOf ask_checks ask.ask_checks value_checks room_checks
  first_29 q (inl h) = h.0
  first_29 q (inr (a, inl h)) = absurd (omega (arith, h.1))
  first_29 q (inr (a, inr (b, inl h))) = absurd (omega (arith, h.1))
  first_29 q (inr (a, inr (b, inr (c, inl h)))) = absurd (omega (arith, h.1))
  first_29 q (inr (a, inr (b, inr (c, inr (d, inl h))))) = absurd (omega (arith, h.1))
  first_29 q (inr (a, inr (b, inr (c, inr (d, inr (e, inl h)))))) = absurd (omega (arith, h.1))
  first_29 q (inr (a, inr (b, inr (c, inr (d, inr (e, inr h)))))) = absurd h.1

  pub ask_29 : (flows' : List ℤ) (set' : List ℕ) (S' : Shared) (answer : Result Solution Refusal) → Asks S p source sink value flows flows' set set' S' answer
      → (answer ≡ refused 29 0) ↔ (2 ≤ p)
  ask_29 flows' set' S' answer a = (
    (λ e. first_29 0 (subst (Asks S p source sink value flows flows' set set' S') e a).solved.0),
    (λ h. told flows' set' S' answer 29 0 (ask_no_party h) a),
  )

-- ── on a fit drawing ──
module _ (𝓓 : Drawing) (standing p source sink : ℕ) (value : ℤ) (flows : List ℤ) (set : List ℕ) where
  pub party_same : Fit 𝓓 → Same (ask_checks 𝓓 standing p source sink value flows set)
      ((29 when 2 ≤ p) ∷ (30 when standing ≡ committed) ∷ question_checks 𝓓.map.nodes 𝓓.map.edges source sink value flows set)
  unfolding Same ask_checks
  party_same fit = (refl, refl, (λ h. h), (λ h. h), (refl, refl, (λ h. h), (λ h. h), fit_same 𝓓 source sink value flows set fit))

-- 29 and 30 taken off, and put in front
module _ (standing p : ℕ) (cs : List Check) where
  pub behind : NoneOf ((29 when 2 ≤ p) ∷ (30 when standing ≡ committed) ∷ cs) → NoneOf cs
  unfolding NoneOf
  behind h = h.1.1

  module _ (l : p < 2) (may : standing ≢ committed) where
    pub none_in_front : NoneOf cs → NoneOf ((29 when 2 ≤ p) ∷ (30 when standing ≡ committed) ∷ cs)
    unfolding NoneOf
    none_in_front h = ((λ m. absurd (omega (arith, l, m))), (may, h))

    first_behind : (k q : ℕ) → FirstOf ((29 when 2 ≤ p) ∷ (30 when standing ≡ committed) ∷ cs) k q → FirstOf cs k q
    unfolding FirstOf
    first_behind k q (inl h) = absurd (omega (arith, l, h.0))
    first_behind k q (inr (a, inl h)) = absurd (may h.0)
    first_behind k q (inr (a, inr (b, h))) = h

    pub solved_behind : (𝓓 : Drawing) (source sink : ℕ) (value : ℤ) (flows flows' : List ℤ) (set set' : List ℕ) (r : Result Solution Refusal)
        → Solved 𝓓 ((29 when 2 ≤ p) ∷ (30 when standing ≡ committed) ∷ cs) source sink value flows flows' set set' r
        → Solved 𝓓 cs source sink value flows flows' set set' r
    solved_behind 𝓓 source sink value flows flows' set set' (Ok Can) h = (behind h.0, h.1, h.2)
    solved_behind 𝓓 source sink value flows flows' set set' (Ok (Cannot n)) h = (behind h.0, h.1, h.2)
    solved_behind 𝓓 source sink value flows flows' set set' (Err r) h = (first_behind r.number r.place h.0, h.1, h.2)

-- ── Commit ──
pub judged : (S : Shared) (p : ℕ) (S' : Shared) (v : Result Unit Refusal) → Commits S p S' v → Judged (commit_checks S p) v
judged S p S' (Ok done) c = c.0
judged S p S' (Err r) c = c.0

pub verdict_is : (S : Shared) (p : ℕ) (S' : Shared) (v w : Result Unit Refusal) → Judged (commit_checks S p) w → Commits S p S' v → v ≡ w
verdict_is S p S' v w h c = judged_one (commit_checks S p) v w (judged S p S' v c) h

first_commit_29 : (S : Shared) (p q : ℕ) → FirstOf (commit_checks S p) 29 q → 2 ≤ p
unfolding FirstOf commit_checks
first_commit_29 S p q (inl h) = h.0
first_commit_29 S p q (inr (a, inl h)) = absurd (omega (arith, h.1))
first_commit_29 S p q (inr (a, inr (b, inl h))) = absurd (omega (arith, h.1))
first_commit_29 S p q (inr (a, inr (b, inr (c, inl h)))) = absurd (omega (arith, h.1))
first_commit_29 S p q (inr (a, inr (b, inr (c, inr h)))) = absurd h.1

pub commit_29 : (S : Shared) (p : ℕ) (S' : Shared) (v : Result Unit Refusal) → Commits S p S' v → (v ≡ refused 29 0) ↔ (2 ≤ p)
commit_29 S p S' v c = (
  (λ e. first_commit_29 S p 0 (subst (Commits S p S') e c).0),
  (λ h. verdict_is S p S' v (refused 29 0) (no_party S p h) c),
)

-- what is said to a party that stands there
abbrev spoken : ℕ → Result Unit Refusal
spoken zero = refused 28 0
spoken (suc zero) = Ok tt
spoken (suc (suc zero)) = refused 31 0
spoken (suc (suc (suc a))) = refused 30 0

place : Result Unit Refusal → ℕ
place (Ok done) = offered
place (Err r) = cond (eqb r.number 28) idle (cond (eqb r.number 31) stale committed)

place_spoken : (a : ℕ) → a ≤ committed → place (spoken a) ≡ a
unfolding place
place_spoken zero l = refl
place_spoken (suc zero) l = refl
place_spoken (suc (suc zero)) l = refl
place_spoken (suc (suc (suc zero))) l = refl
place_spoken (suc (suc (suc (suc a)))) l = absurd (omega (arith, l))

-- of a party that there is, whose offer can be let in if it is not stale
module _ (S : Shared) (p : ℕ) (known : p < 2) (fits : S.standing p ≡ offered → Lowerable S.edges (atℤ S.left) (atℤ (S.offer p)))
    (stood : S.standing p ≤ committed) where
  there_is : 2 ≤ p → ⊥
  there_is l = absurd (omega (arith, known, l))

  expected : (a : ℕ) → a ≤ committed → S.standing p ≡ a → Judged (commit_checks S p) (spoken a)
  expected zero l e =
      no_offer S p there_is (λ h. absurd (omega (arith, e, h))) (λ h. absurd (omega (arith, e, h))) (λ h. absurd (omega (arith, e, h)))
  expected (suc zero) l e = lets_in S p there_is e (fits e)
  expected (suc (suc zero)) l e = stale_offer S p there_is (λ h. absurd (omega (arith, e, h))) e
  expected (suc (suc (suc zero))) l e = has_committed S p there_is e
  expected (suc (suc (suc (suc a)))) l e = absurd (omega (arith, l))

  pub exactly : (S' : Shared) (v : Result Unit Refusal) → Commits S p S' v → (a : ℕ) → a ≤ committed → (v ≡ spoken a) ↔ (S.standing p ≡ a)
  exactly S' v c a l = (
    (λ e. sym (place_spoken (S.standing p) stood) ∙ ap place (sym said ∙ e) ∙ place_spoken a l),
    (λ e. verdict_is S p S' v (spoken a) (expected a l e) c),
  )
    where
      said : v ≡ spoken (S.standing p)
      said = verdict_is S p S' v (spoken (S.standing p)) (expected (S.standing p) stood refl) c
