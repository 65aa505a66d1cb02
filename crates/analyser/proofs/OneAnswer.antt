-- One question, one answer: of Solve by what the search names, of a page's line by Solve's.
use mathlib.Core.Path.{◌≡◌, sym, ◌∙◌, ap}
use mathlib.Core.Logic.{◌≢◌}
use mathlib.Core.List.{List}
use Prim.Native.Nat.{ℕ, ◌<◌}
use lib.IntN.{ℤ}
use Rattle.std.specs.Prelude.{Result, Ok, Err}
use Rattle.refusals.specs.Order.{NoneOf}
use Rattle.refusals.proofs.Order.{append_none, first_none, first_one}
use Rattle.refusals.specs.declared.Refusal.{Refusal}
use Rattle.refusals.specs.Refused.{refused}
use Rattle.flows.specs.ProvingSet.{words_for, size}
use Rattle.records.specs.Sheet.{nodes_of, edges_of, sheet_drawing}
use Rattle.sheets.specs.Open.{sheet_checks}
use Rattle.questions.specs.Question.{end_checks}
use Rattle.questions.specs.Solve.{question_checks}
use Rattle.questions.specs.inner.Named.{SetNamed}
use Rattle.questions.specs.declared.Solution.{Solution}
use Rattle.questions.specs.declared.Solution.TheVariants.{Can, Cannot}
use Rattle.questions.proofs.Asked.{ends_in, ends_differ}
use Rattle.questions.proofs.OneAnswer.{in-front, written_one, solved_one}
use Rattle.pages.specs.Stretch.{stretch}
use Rattle.pages.specs.Page.{answer_at}
use Rattle.analyser.specs.Solve.{solve_checks, Solves}
use Rattle.analyser.specs.OneAnswer.{OneAnswer}
use Rattle.analyser.proofs.SheetPlane.{plane, outer_in}

module _ (s : List ℕ) (source sink : ℕ) (value : ℤ) (flows : List ℤ) (set : List ℕ) where
  accepted : NoneOf (solve_checks s source sink value flows set)
      → NoneOf (sheet_checks s) × ((source < nodes_of s) × (sink < nodes_of s) × (source ≢ sink))
  unfolding solve_checks question_checks
  accepted h =
      let a = append_none (sheet_checks s) _ h in
      let two = (append_none (end_checks (nodes_of s) source sink) _ a.1).0 in
      let e = ends_in (nodes_of s) source sink two in
      (a.0, (e.0, e.1, ends_differ (nodes_of s) source sink two))

  abbrev Run : (flows' : List ℤ) (set' : List ℕ) (r : Result Solution Refusal) → Type 0
  Run flows' set' r = Solves s source sink value flows flows' set set' r × SetNamed (sheet_drawing s) source sink value set' r

  abbrev One : (flows' flows'' : List ℤ) (set' set'' : List ℕ) (r q : Result Solution Refusal) → Type 0
  One flows' flows'' set' set'' r q = (r ≡ q) × (flows' ≡ flows'') × (set' ≡ set'')

  on_accepted : NoneOf (sheet_checks s) → (flows' flows'' : List ℤ) (set' set'' : List ℕ) (r q : Result Solution Refusal)
      → Run flows' set' r → Run flows'' set'' q → One flows' flows'' set' set'' r q
  on_accepted sheet flows' flows'' set' set'' r q a b =
      solved_one (sheet_drawing s) (plane s sheet) (outer_in s sheet) (solve_checks s source sink value flows set) source sink value (λ h. (accepted h).1)
      flows set flows' flows'' set' set'' r q a.0 a.1 b.0 b.1

  answer_one : (flows' flows'' : List ℤ) (set' set'' : List ℕ) (r q : Result Solution Refusal)
      → Run flows' set' r → Run flows'' set'' q → One flows' flows'' set' set'' r q
  answer_one flows' flows'' set' set'' (Ok Can) q a b = on_accepted (accepted a.0.0).0 flows' flows'' set' set'' (Ok Can) q a b
  answer_one flows' flows'' set' set'' (Ok (Cannot n)) q a b = on_accepted (accepted a.0.0).0 flows' flows'' set' set'' (Ok (Cannot n)) q a b
  answer_one flows' flows'' set' set'' (Err r) (Ok Can) a b =
      absurd (first_none (solve_checks s source sink value flows set) r.number r.place a.0.0 b.0.0)
  answer_one flows' flows'' set' set'' (Err r) (Ok (Cannot m)) a b =
      absurd (first_none (solve_checks s source sink value flows set) r.number r.place a.0.0 b.0.0)
  answer_one flows' flows'' set' set'' (Err r) (Err q) a b =
      let e = first_one (solve_checks s source sink value flows set) r.number r.place q.number q.place a.0.0 b.0.0 in
      (ap (λ x. refused x r.place) e.0 ∙ ap (λ x. refused q.number x) e.1, a.0.1 ∙ sym b.0.1, a.0.2 ∙ sym b.0.2)

pub one_answer : OneAnswer
one_answer = record {
  same_answer = λ s source sink value flows flows' flows'' set set' set'' r q h a k b.
      answer_one s source sink value flows set flows' flows'' set' set'' r q (h, a) (k, b);
  same_set = λ s source sink value flows flows' set set' n own own' words words' m h a k b.
      let w = written_one h.1.1 k.1.1 a b in
      (h.1.3 ∙ ap size w ∙ sym k.1.3, in-front h.1.1 ∙ w ∙ sym (in-front k.1.1));
  same_line = λ s n question flows flows' sets sets' page answers named i l own' set' answer h a.
      answer_one s (question i).source (question i).sink (question i).value (stretch (edges_of s) i flows) (stretch (words_for (nodes_of s)) i sets)
      (stretch (edges_of s) i flows') own' (stretch (words_for (nodes_of s)) i sets') set' (answer_at page i) answer (answers.2 i l, named i l) (h, a);
}
