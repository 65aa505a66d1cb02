-- What is told of a page that passed.
use mathlib.Core.Path.{◌≡◌, refl, ◌∙◌, ap}
use mathlib.Core.List.{List}
use Prim.Native.Nat.{ℕ, ◌≤◌}
use native.Mathlib.Omega.{arith}
use lib.IntN.{ℤ}
use Rattle.std.specs.Prelude.{Ok}
use Rattle.refusals.proofs.Order.{append_none}
use Rattle.arrays.specs.Filled.{filled}
use Rattle.records.specs.Sheet.{nodes_of, edges_of}
use Rattle.sheets.specs.Open.{sheet_checks}
use Rattle.pages.specs.Page.{answer_at}
use Rattle.pages.specs.declared.Question.{Question}
use Rattle.pages.specs.declared.Page.{Page}
use Rattle.pages.proofs.Listing.{list_accepted}
use Rattle.answer_arrays.specs.Told.{number_told, size_told}
use Rattle.analyser.specs.Page.{page_checks, AnswersPage}
use Rattle.abi.specs.Page.{PageTold}

module _ (s : List ℕ) (n : ℕ) (question : ℕ → Question) (flows flows' : List ℤ) (sets sets' : List ℕ) (page : Page)
    (h : AnswersPage s n question flows flows' sets sets' (Ok page)) where
  pub page_few : page.count ≤ 64
  unfolding page_checks
  page_few = omega (arith, h.1, (list_accepted (nodes_of s) (edges_of s) n flows sets (append_none (sheet_checks s) _ h.0).1).0)

  pub told_passed : (answers answers' sizes sizes' : List ℕ) (place : ℕ)
      → answers' ≡ filled page.count (λ i. number_told (answer_at page i)) answers → sizes' ≡ filled page.count (λ i. size_told (answer_at page i)) sizes
      → PageTold (Ok page) n answers answers' sizes sizes' place place 0
  told_passed answers answers' sizes sizes' place a z = (
    refl,
    a ∙ ap (λ k. filled k (λ i. number_told (answer_at page i)) answers) h.1,
    z ∙ ap (λ k. filled k (λ i. size_told (answer_at page i)) sizes) h.1,
    refl,
  )
