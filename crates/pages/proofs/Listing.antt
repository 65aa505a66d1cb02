-- Numbers of a list, the ways out of it, and questions gathered from a slice: they are those of the slice.
use mathlib.Core.Path.{◌≡◌, refl, sym, ap, ◌∙◌}
use mathlib.Core.Logic.{inl, inr}
use mathlib.Core.List.{List, [], ◌∷◌, ◌++◌, append_assoc}
use Prim.Native.Nat.{ℕ, zero, suc, ◌≤◌, ◌<◌, ◌+◌, ◌*◌, min}
use native.Mathlib.Numerals.{add-one}
use native.Mathlib.Omega.{arith}
use native.Mathlib.Decide.{ℕ_discrete}
use lib.ListN.{length, get_or, set, take, drop, length-set}
use lib.Seq.{length-take-le, take-suc, drop-cons, set_at, get_or-set_same, get_or-set_other}
use lib.IntN.{ℤ}
use Rattle.refusals.specs.Order.{NoneOf}
use Rattle.flows.specs.ProvingSet.{words_for}
use Rattle.pages.specs.Question.{blank, question_at}
use Rattle.pages.specs.Page.{list_checks}
use Rattle.pages.specs.inner.Listed.{emptyList, listed_at, gathered, list_of}
use Rattle.pages.specs.declared.Question.{Question}
use Rattle.pages.specs.declared.Listed.{Listed}

-- ── not refused ──
pub list_accepted : (nodes edges n : ℕ) (flows : List ℤ) (sets : List ℕ) → NoneOf (list_checks nodes edges n flows sets)
    → (n ≤ 64) × (n * edges ≤ length flows) × (n * words_for nodes ≤ length sets)
unfolding list_checks NoneOf
list_accepted nodes edges n flows sets h =
    let few : 64 < n → ⊥ = h.0 in
    let f : length flows < n * edges → ⊥ = λ l. h.1.0 (inl l) in
    let g : length sets < n * words_for nodes → ⊥ = λ l. h.1.0 (inr l) in
    (omega arith, omega arith, omega arith)

-- ── gathered ──
module _ (question : ℕ → Question) (list : Listed) where
  gathered_length : (n : ℕ) → length (gathered question n list).questions ≡ length list.questions
  unfolding gathered
  gathered_length zero = refl
  gathered_length (suc n) = length-set (gathered question n list).questions n (question n) ∙ gathered_length n

  gathered_count : (n : ℕ) → (gathered question n list).count ≡ list.count
  unfolding gathered
  gathered_count zero = refl
  gathered_count (suc n) = gathered_count n

  gathered_are : (n i : ℕ) → n ≤ length list.questions → i < n → question_at (gathered question n list).questions i ≡ question i
  unfolding gathered
  gathered_are zero i room l = absurd (omega arith)
  gathered_are (suc n) i room l = go (ℕ_discrete i n) (λ below. gathered_are n i (omega arith) below)
    where
      go : Dec (i ≡ n) → (i < n → question_at (gathered question n list).questions i ≡ question i)
          → question_at (set (gathered question n list).questions n (question n)) i ≡ question i
      go (yes e) before = rw e (get_or-set_same (gathered question n list).questions n (question n) _ (omega (arith, gathered_length n)))
      go (no e) before = get_or-set_other (gathered question n list).questions n i (question n) _ e ∙ before (omega (arith, e))

pub list_count : (n : ℕ) (question : ℕ → Question) → (list_of n question).count ≡ n
list_count n question = gathered_count question (emptyList n) (min n 64)

-- where there are at most 64, each is in the list
pub list_questions : (n : ℕ) (question : ℕ → Question) → n ≤ 64 → (i : ℕ) → i < n → question_at (list_of n question).questions i ≡ question i
list_questions n question few i l = gathered_are question (emptyList n) (min n 64) i (omega arith) (omega arith)

-- the questions of a slice, copied into the front of the list
pub gathered_front : (questions : List Question) (list : Listed) (n : ℕ) → n ≤ length questions → n ≤ length list.questions
    → gathered (question_at questions) n list ≡ record { count = list.count; questions = take n questions ++ drop n list.questions }
unfolding gathered
gathered_front questions list zero here there = refl
gathered_front questions list (suc n) here there =
    let q = question_at questions n in
    let holding : List Question → Listed = λ l. record { count = list.count; questions = l } in
    let step =
    ap (λ l. set (take n questions ++ l) n q) (drop-cons list.questions n q (omega arith))
    ∙ set_at (take n questions) (get_or list.questions n q) (drop (suc n) list.questions) q n (length-take-le n questions (omega arith))
    ∙ sym (append_assoc (take n questions) (q ∷ []) (drop (suc n) list.questions))
    ∙ ap (λ l. l ++ drop (suc n) list.questions) (sym (take-suc questions n blank (omega arith))) in
    ap (λ (l : Listed). listed_at l n q) (gathered_front questions list n (omega arith) (omega arith))
    ∙ ap holding step

-- no question yet, and one more
pub gathered_start : (question : ℕ → Question) (list : Listed) → list ≡ gathered question 0 list
unfolding gathered
gathered_start question list = refl

pub gathered_next : (question : ℕ → Question) (list before next : Listed) (i : ℕ) (q : Question) → before ≡ gathered question i list → q ≡ question i
    → next ≡ listed_at before i q → next ≡ gathered question (i + 1) list
unfolding gathered
gathered_next question list before next i q e f g =
    g ∙ ap (λ (b : Listed). listed_at b i q) e ∙ ap (listed_at (gathered question i list) i) f ∙ ap (λ k. gathered question k list) (sym (add-one i))
