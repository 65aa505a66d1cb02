-- The loop that answers a list: after i questions the stretches below i are answered, and all behind them is as it was.
use mathlib.Core.Path.{◌≡◌, refl, sym, ap, subst, ◌∙◌}
use mathlib.Core.List.{List, ◌++◌}
use Prim.Native.Nat.{ℕ, ◌+◌, ◌*◌, ◌≤◌, ◌<◌}
use native.Mathlib.Omega.{arith}
use native.Mathlib.Decide.{ℕ_discrete}
use lib.ListN.{length, get_or, set, take, drop, replicate, length-set}
use lib.Seq.{get_or-set_same, get_or-set_other}
use lib.IntN.{ℤ}
use Rattle.std.specs.Prelude.{Result, Ok}
use Rattle.refusals.specs.Order.{NoneOf}
use Rattle.refusals.specs.Refused.{refused}
use Rattle.refusals.specs.declared.Refusal.{Refusal}
use Rattle.refusals.proofs.Order.{neither}
use Rattle.flows.specs.ProvingSet.{words_for}
use Rattle.arrays.proofs.FillLoops.{same_everywhere}
use Rattle.questions.specs.declared.Solution.{Solution}
use Rattle.pages.specs.Stretch.{stretch, SameFrom}
use Rattle.pages.specs.Page.{list_checks, Alone, Paged}
use Rattle.pages.proofs.Stretches.{part_length, stretch_new, stretch_kept, same_behind, same_from_next, same_then}

abbrev pub none : Result Solution Refusal
none = refused 0 0

abbrev pub answer_in : List (Result Solution Refusal) → ℕ → Result Solution Refusal
answer_in answers i = get_or answers i none

pub record Halfway (edges words : ℕ) (alone : ℕ → Alone) (flows₀ : List ℤ) (sets₀ : List ℕ)
    (i : ℕ) (flows : List ℤ) (sets : List ℕ) (answers : List (Result Solution Refusal)) : Type 0 where
  pub answered : (j : ℕ) → j < i
      → alone j (stretch edges j flows₀) (stretch edges j flows) (stretch words j sets₀) (stretch words j sets) (answer_in answers j)
  pub flows_behind : SameFrom (i * edges) flows₀ flows
  pub sets_behind : SameFrom (i * words) sets₀ sets
  pub no_more : (j : ℕ) → i ≤ j → answer_in answers j ≡ refused 0 0
  pub places : length answers ≡ 64

module _ (edges words : ℕ) (alone : ℕ → Alone) (flows₀ : List ℤ) (sets₀ : List ℕ) where
  pub halfway_start : {a : Result Solution Refusal} → a ≡ none → Halfway edges words alone flows₀ sets₀ 0 flows₀ sets₀ (replicate 64 a)
  halfway_start e =
      rw e (record {
        answered = λ j l. absurd (omega arith);
        flows_behind = (refl, refl);
        sets_behind = (refl, refl);
        no_more = λ j l. same_everywhere 64 none j;
        places = refl;
      })

  -- question i, which got a part of each buffer, ys and zs in their places now
  module _ (i : ℕ) (flows : List ℤ) (sets : List ℕ) (answers : List (Result Solution Refusal))
      (so_far : Halfway edges words alone flows₀ sets₀ i flows sets answers)
      (flows_room : i * edges + edges ≤ length flows) (sets_room : i * words + words ≤ length sets) (few : i < 64)
      (ys : List ℤ) (zs : List ℕ) (answer : Result Solution Refusal) (ys-long : length ys ≡ edges) (zs-long : length zs ≡ words)
      (line : alone i (stretch edges i flows) ys (stretch words i sets) zs answer) where
    abbrev flows' : List ℤ
    flows' = take (i * edges) flows ++ (ys ++ drop edges (drop (i * edges) flows))

    abbrev sets' : List ℕ
    sets' = take (i * words) sets ++ (zs ++ drop words (drop (i * words) sets))

    abbrev answers' : List (Result Solution Refusal)
    answers' = set answers i answer

    placed : answer_in answers' i ≡ answer
    placed = get_or-set_same answers i answer none (omega (arith, so_far.places))

    others : (j : ℕ) → (j ≡ i → ⊥) → answer_in answers' j ≡ answer_in answers j
    others j apart = get_or-set_other answers i j answer none apart

    new_line : alone i (stretch edges i flows₀) (stretch edges i flows') (stretch words i sets₀) (stretch words i sets') (answer_in answers' i)
    new_line =
        subst (λ a. alone i (stretch edges i flows₀) (stretch edges i flows') (stretch words i sets₀) (stretch words i sets') a) (sym placed)
        (subst (λ x. alone i (stretch edges i flows₀) x (stretch words i sets₀) (stretch words i sets') answer)
        (sym (stretch_new edges i flows ys flows_room ys-long))
        (subst (λ x. alone i (stretch edges i flows₀) ys (stretch words i sets₀) x answer) (sym (stretch_new words i sets zs sets_room zs-long))
        (subst (λ x. alone i x ys (stretch words i sets₀) zs answer) (ap (take edges) so_far.flows_behind.1)
        (subst (λ x. alone i (stretch edges i flows) ys x zs answer) (ap (take words) so_far.sets_behind.1) line))))

    old_line : (j : ℕ) → j < i
        → alone j (stretch edges j flows₀) (stretch edges j flows') (stretch words j sets₀) (stretch words j sets') (answer_in answers' j)
    old_line j below =
        subst (λ a. alone j (stretch edges j flows₀) (stretch edges j flows') (stretch words j sets₀) (stretch words j sets') a)
        (sym (others j (λ e. omega arith)))
        (subst (λ x. alone j (stretch edges j flows₀) x (stretch words j sets₀) (stretch words j sets') (answer_in answers j))
        (sym (stretch_kept edges i flows ys flows_room ys-long j below))
        (subst (λ x. alone j (stretch edges j flows₀) (stretch edges j flows) (stretch words j sets₀) x (answer_in answers j))
        (sym (stretch_kept words i sets zs sets_room zs-long j below)) (so_far.answered j below)))

    pub halfway_next : Halfway edges words alone flows₀ sets₀ (i + 1) flows' sets' answers'
    halfway_next = record {
      answered = λ j l. lines j l (ℕ_discrete j i);
      flows_behind = same_then ((i + 1) * edges) flows₀ flows flows' (same_from_next edges i flows₀ flows so_far.flows_behind)
          (same_behind edges i flows ys flows_room ys-long);
      sets_behind = same_then ((i + 1) * words) sets₀ sets sets' (same_from_next words i sets₀ sets so_far.sets_behind)
          (same_behind words i sets zs sets_room zs-long);
      no_more = λ j l. others j (λ e. omega arith) ∙ so_far.no_more j (omega arith);
      places = length-set answers i answer ∙ so_far.places;
    }
      where
        lines : (j : ℕ) → j < i + 1 → Dec (j ≡ i)
            → alone j (stretch edges j flows₀) (stretch edges j flows') (stretch words j sets₀) (stretch words j sets') (answer_in answers' j)
        lines j l (yes e) = rw e new_line
        lines j l (no e) = old_line j (omega (arith, e))

  -- the same as the code has it: the parts are told by their ends, and are as long as they were
  pub halfway_turn : (i : ℕ) (flows : List ℤ) (sets : List ℕ) (answers : List (Result Solution Refusal))
      → Halfway edges words alone flows₀ sets₀ i flows sets answers
      → i * edges + edges ≤ length flows → i * words + words ≤ length sets → i < 64
      → (k m : ℕ) → edges ≡ k → words ≡ m → (ys : List ℤ) (zs : List ℕ) (answer : Result Solution Refusal)
      → length ys ≡ length (take k (drop (i * edges) flows)) → length zs ≡ length (take m (drop (i * words) sets))
      → alone i (take k (drop (i * edges) flows)) ys (take m (drop (i * words) sets)) zs answer
      → Halfway edges words alone flows₀ sets₀ (i + 1)
      (take (i * edges) flows ++ (ys ++ drop k (drop (i * edges) flows))) (take (i * words) sets ++ (zs ++ drop m (drop (i * words) sets)))
      (set answers i answer)
  halfway_turn i flows sets answers so_far flows_room sets_room few k m ke me ys zs answer ys-long zs-long line =
      subst (λ k. Halfway edges words alone flows₀ sets₀ (i + 1)
      (take (i * edges) flows ++ (ys ++ drop k (drop (i * edges) flows))) (take (i * words) sets ++ (zs ++ drop m (drop (i * words) sets)))
      (set answers i answer)) ke
      (subst (λ m. Halfway edges words alone flows₀ sets₀ (i + 1)
      (take (i * edges) flows ++ (ys ++ drop edges (drop (i * edges) flows))) (take (i * words) sets ++ (zs ++ drop m (drop (i * words) sets)))
      (set answers i answer)) me
      (halfway_next i flows sets answers so_far flows_room sets_room few ys zs answer
      (ys-long ∙ ap (λ k. length (take k (drop (i * edges) flows))) (sym ke) ∙ part_length edges i flows flows_room)
      (zs-long ∙ ap (λ m. length (take m (drop (i * words) sets))) (sym me) ∙ part_length words i sets sets_room)
      (subst (λ k. alone i (take k (drop (i * edges) flows)) ys (stretch words i sets) zs answer) (sym ke)
      (subst (λ m. alone i (take k (drop (i * edges) flows)) ys (take m (drop (i * words) sets)) zs answer) (sym me) line))))

-- ── after the last question ──
list_passed : (nodes edges n : ℕ) (flows : List ℤ) (sets : List ℕ) → n ≤ 64 → n * edges ≤ length flows → n * words_for nodes ≤ length sets
    → NoneOf (list_checks nodes edges n flows sets)
unfolding list_checks NoneOf
list_passed nodes edges n flows sets few flows_room sets_room = ((λ l. omega arith), (neither (λ l. omega arith) (λ l. omega arith), tt))

pub all_answered : (nodes edges n words i : ℕ) (alone : ℕ → Alone) (flows flows' : List ℤ) (sets sets' : List ℕ) (answers : List (Result Solution Refusal))
    → words ≡ words_for nodes → Halfway edges words alone flows sets i flows' sets' answers → i ≡ n → n ≤ 64
    → n * edges ≤ length flows → n * words_for nodes ≤ length sets
    → Paged (list_checks nodes edges n flows sets) edges (words_for nodes) n alone flows flows' sets sets'
    (Ok (record { count = n; answers = answers }))
all_answered nodes edges n words i alone flows flows' sets sets' answers we h ie few flows_room sets_room =
    let g = subst (λ w. Halfway edges w alone flows sets i flows' sets' answers) we h in
    let k = subst (λ i. Halfway edges (words_for nodes) alone flows sets i flows' sets' answers) ie g in
    (list_passed nodes edges n flows sets few flows_room sets_room, refl, k.answered, k.flows_behind, k.sets_behind, k.no_more)
