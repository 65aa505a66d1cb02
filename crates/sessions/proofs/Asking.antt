-- Ask: what is not fit is refused 13; on what is fit the refusals are those of a question.
use mathlib.Core.Path.{◌≡◌, refl, sym, ◌∙◌, ap, subst}
use mathlib.Core.Logic.{◌⊎◌, inl, inr}
use mathlib.Core.List.{List, ◌++◌}
use Prim.Native.Nat.{ℕ, ◌≤◌, ◌<◌}
use native.Mathlib.Omega.{arith}
use native.Mathlib.Decide.{dec_lt}
use lib.ListN.{length}
use lib.IntN.{ℤ}
use Rattle.std.specs.Prelude.{Result, Ok, Err}
use Rattle.refusals.specs.Order.{Check, NoneOf, FirstOf}
use Rattle.refusals.specs.declared.Refusal.{Refusal}
use Rattle.refusals.proofs.Same.{Same, same_refl, same_sym, none_same, first_same}
use Rattle.refusals.specs.Refused.{refused}
use Rattle.maps.specs.Face.{left}
use Rattle.maps.specs.Drawing.{Drawing}
use Rattle.arrays.specs.Maps.{drawing_of}
use Rattle.questions.specs.Question.{end_checks, value_checks, room_checks}
use Rattle.questions.specs.Solve.{question_checks, Solved}
use Rattle.questions.specs.inner.Named.{SetNamed}
use Rattle.questions.specs.declared.Solution.{Solution}
use Rattle.questions.specs.declared.Solution.TheVariants.{Can, Cannot}
use Rattle.sessions.specs.Fit.{Fit, OnFit}
use Rattle.sessions.specs.Ask.{ask_checks}

module _ (𝓓 : Drawing) (source sink : ℕ) (value : ℤ) (flows : List ℤ) (set : List ℕ) where
  abbrev asked : List Check
  asked = ask_checks 𝓓 source sink value flows set

  abbrev question : List Check
  question = question_checks 𝓓.map.nodes 𝓓.map.edges source sink value flows set

  pub unfit_refused : (Fit 𝓓 → ⊥) → FirstOf (ask_checks 𝓓 source sink value flows set) 13 0
  unfolding FirstOf ask_checks
  unfit_refused h = inl (inr (inr h), refl, refl)

  -- on a fit drawing the list is that of a question
  pub fit_same : Fit 𝓓 → Same (ask_checks 𝓓 source sink value flows set) (question_checks 𝓓.map.nodes 𝓓.map.edges source sink value flows set)
  unfolding Same ask_checks question_checks end_checks
  fit_same fit = (
    refl,
    refl,
    there,
    back,
    (
      refl,
      refl,
      (λ h. h),
      (λ h. h),
      same_refl
          (value_checks value ++ room_checks 𝓓.map.nodes 𝓓.map.edges (length flows) (length set)),
    ),
  )
    where
      there : (𝓓.map.nodes ≤ source) ⊎ ((𝓓.map.nodes ≤ sink) ⊎ (Fit 𝓓 → ⊥)) → (𝓓.map.nodes ≤ source) ⊎ (𝓓.map.nodes ≤ sink)
      there (inl h) = inl h
      there (inr (inl h)) = inr h
      there (inr (inr h)) = absurd (h fit)

      back : (𝓓.map.nodes ≤ source) ⊎ (𝓓.map.nodes ≤ sink) → (𝓓.map.nodes ≤ source) ⊎ ((𝓓.map.nodes ≤ sink) ⊎ (Fit 𝓓 → ⊥))
      back (inl h) = inl h
      back (inr h) = inr (inl h)

-- an answer stands under a list with the same verdict
pub solved_same : (𝓓 : Drawing) (cs ds : List Check) → Same cs ds → (source sink : ℕ) (value : ℤ) (flows flows' : List ℤ) (set set' : List ℕ)
    (r : Result Solution Refusal)
    → Solved 𝓓 cs source sink value flows flows' set set' r → Solved 𝓓 ds source sink value flows flows' set set' r
solved_same 𝓓 cs ds s source sink value flows flows' set set' (Ok Can) h = (none_same cs ds s h.0, h.1, h.2)
solved_same 𝓓 cs ds s source sink value flows flows' set set' (Ok (Cannot n)) h = (none_same cs ds s h.0, h.1, h.2)
solved_same 𝓓 cs ds s source sink value flows flows' set set' (Err r) h = (first_same cs ds r.number r.place s h.0, h.1, h.2)

-- the counts at the width of an index
pub drawings_same : {n m o nodes edges outer : ℕ} → n ≡ nodes → m ≡ edges → o ≡ outer → (tails rotations : List ℕ) (left : List ℤ)
    → drawing_of n m o tails rotations left ≡ drawing_of nodes edges outer tails rotations left
drawings_same {m = m} {o = o} {nodes = nodes} {edges = edges} p q r tails rotations left =
    ap (λ k. drawing_of k m o tails rotations left) p
    ∙ ap (λ k. drawing_of nodes k o tails rotations left) q
    ∙ ap (λ k. drawing_of nodes edges k tails rotations left) r

-- what was answered on a fit drawing, said of the session's
pub answered : (𝓓 𝓔 : Drawing) → 𝓓 ≡ 𝓔 → Fit 𝓓 → {s source t sink : ℕ} {v value : ℤ} → s ≡ source → t ≡ sink → v ≡ value
    → (flows flows' : List ℤ) (set set' : List ℕ) (r : Result Solution Refusal)
    → Solved 𝓓 (question_checks 𝓓.map.nodes 𝓓.map.edges s t v flows set) s t v flows flows' set set' r
    → Solved 𝓔 (ask_checks 𝓔 source sink value flows set) source sink value flows flows' set set' r
answered 𝓓 𝓔 e fit {source = source} {sink = sink} {value = value} from to q flows flows' set set' r h =
    subst (λ 𝓕. Solved 𝓕 (ask_checks 𝓕 source sink value flows set) source sink value flows flows' set set' r) e
    (solved_same 𝓓 _ _ (same_sym _ _ (fit_same 𝓓 source sink value flows set fit)) source sink value flows flows' set set' r (rw (from, to, q) at h))

-- the set that the search names, said of the session's drawing; and that this is fit
pub named_answered : (𝓓 𝓔 : Drawing) → 𝓓 ≡ 𝓔 → {s source t sink : ℕ} {v value : ℤ} → s ≡ source → t ≡ sink → v ≡ value
    → (set' : List ℕ) (r : Result Solution Refusal)
    → SetNamed 𝓓 s t v set' r → SetNamed 𝓔 source sink value set' r
named_answered 𝓓 𝓔 e {source = source} {sink = sink} {value = value} from to q set' r h =
    subst (λ 𝓕. SetNamed 𝓕 source sink value set' r) e (rw (from, to, q) at h)

pub fit_answered : (𝓓 𝓔 : Drawing) → 𝓓 ≡ 𝓔 → Fit 𝓓 → (r : Result Solution Refusal) → OnFit 𝓔 r
fit_answered 𝓓 𝓔 e fit (Ok Can) = subst Fit e fit
fit_answered 𝓓 𝓔 e fit (Ok (Cannot n)) = subst Fit e fit
fit_answered 𝓓 𝓔 e fit (Err r) = tt

pub unfit_answered : (𝓓 𝓔 : Drawing) → 𝓓 ≡ 𝓔 → (Fit 𝓓 → ⊥) → (source sink : ℕ) (value : ℤ) (flows : List ℤ) (set : List ℕ)
    → Solved 𝓔 (ask_checks 𝓔 source sink value flows set) source sink value flows flows set set (refused 13 0)
unfit_answered 𝓓 𝓔 e unfit source sink value flows set =
    (unfit_refused 𝓔 source sink value flows set (λ f. unfit (subst Fit (sym e) f)), refl, refl)

-- ── where it can: there is room for the settings, and the edges are few ──
module _ (𝓓 : Drawing) (source sink : ℕ) (value : ℤ) (flows : List ℤ) (set : List ℕ) (asked : NoneOf (ask_checks 𝓓 source sink value flows set)) where
  pub asked_few : 𝓓.map.edges ≤ 512
  unfolding NoneOf ask_checks
  asked_few = go (dec_lt 512 𝓓.map.edges)
    where
      go : Dec (512 < 𝓓.map.edges) → 𝓓.map.edges ≤ 512
      go (yes l) = absurd (asked.0 (inr (inr (λ f. omega (arith, f.bounds.few_edges, l)))))
      go (no l) = omega (arith, l)

  pub asked_room : 𝓓.map.edges ≤ length flows
  unfolding NoneOf ask_checks value_checks room_checks
  asked_room = let h : length flows < 𝓓.map.edges → ⊥ = λ l. asked.1.1.1.0 (inl l) in omega (arith, h)
