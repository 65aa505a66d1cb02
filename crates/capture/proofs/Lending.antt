-- Largest on the parts of two slices that it needs: what it answered of them is its answer of the slices.
use mathlib.Core.Path.{◌≡◌, sym, ◌∙◌, ap}
use mathlib.Core.List.{List, ◌++◌}
use Prim.Native.Nat.{ℕ, ◌-◌, ◌≤◌}
use native.Mathlib.Omega.{arith}
use lib.ListN.{length, take, drop}
use lib.IntN.{ℤ}
use Rattle.refusals.specs.Order.{NoneOf}
use Rattle.refusals.proofs.Order.{neither, first_none}
use Rattle.maps.specs.Drawing.{Drawing}
use Rattle.flows.specs.ProvingSet.{words_for}
use Rattle.balance.proofs.Parts.{part_length, part_kept, part_written, part_filled}
use Rattle.questions.specs.Question.{room_checks, SetWritten}
use Rattle.questions.specs.Largest.{search_checks, LargestFound}
use Rattle.std.specs.Prelude.{Option, Some, None, Result, Ok, Err}
use Rattle.refusals.specs.declared.Refusal.{Refusal}
use Rattle.questions.proofs.Asked.{room_flows, sought}
use Rattle.questions.proofs.Finding.{largest_none}

-- the words of a set, laid into the part that has as many
pub set_back : (nodes w : ℕ) (words set y : List ℕ) → w ≡ words_for nodes → SetWritten nodes words (take (w - 0) set) y
    → SetWritten nodes words set (y ++ drop (w - 0) set)
set_back nodes w words set y many h = record {
  is_set = h.is_set;
  placed =
      part_written w set words y (h.placed ∙ ap (λ k. words ++ drop k (take (w - 0) set)) (sym many)) ∙ ap (λ k. words ++ drop k set) many;
}

module _ (𝓓 : Drawing) (source sink : ℕ) (flows : List ℤ) (set : List ℕ)
    (passed : NoneOf (search_checks 𝓓.map.nodes 𝓓.map.edges source sink flows set)) where
  pub flows_in : 𝓓.map.edges ≤ length flows
  flows_in = (room_flows _ _ _ _ (sought 𝓓.map.nodes 𝓓.map.edges source sink flows set passed).has_room).0

  pub words_in : words_for 𝓓.map.nodes ≤ length set
  words_in = (room_flows _ _ _ _ (sought 𝓓.map.nodes 𝓓.map.edges source sink flows set passed).has_room).1

  module _ (w : ℕ) (many : w ≡ words_for 𝓓.map.nodes) where
    -- the parts are long enough, so they are not refused
    part_passed : NoneOf (search_checks 𝓓.map.nodes 𝓓.map.edges source sink (take (𝓓.map.edges - 0) flows) (take (w - 0) set))
    unfolding NoneOf room_checks
    part_passed =
        let ends = (sought 𝓓.map.nodes 𝓓.map.edges source sink flows set passed).ends_two in
        let a = part_length 𝓓.map.edges flows flows_in in
        let b = part_length w set (omega (arith, words_in, many)) in
        largest_none 𝓓.map.nodes 𝓓.map.edges source sink (take (𝓓.map.edges - 0) flows) (take (w - 0) set) ends
        (neither (λ l. omega (arith, a, l)) (λ l. omega (arith, b, many, l)), tt)

    pub largest_back : (y : List ℤ) (z : List ℕ) (r : Result (Option ℤ) Refusal)
        → LargestFound 𝓓 (search_checks 𝓓.map.nodes 𝓓.map.edges source sink (take (𝓓.map.edges - 0) flows) (take (w - 0) set))
        source sink (take (𝓓.map.edges - 0) flows) y (take (w - 0) set) z r
        → LargestFound 𝓓 (search_checks 𝓓.map.nodes 𝓓.map.edges source sink flows set)
        source sink flows (y ++ drop (𝓓.map.edges - 0) flows) set (z ++ drop (w - 0) set) r
    largest_back y z (Ok (Some v)) h = (
      passed,
      (h.1.0, h.1.1, part_filled 𝓓.map.edges flows h.1.0 y h.1.2),
      (h.2.0, set_back 𝓓.map.nodes w h.2.0 set z many h.2.1, h.2.2),
    )
    largest_back y z (Ok None) h = (
      passed,
      part_kept 𝓓.map.edges flows y h.1,
      (h.2.0, set_back 𝓓.map.nodes w h.2.0 set z many h.2.1, h.2.2),
    )
    largest_back y z (Err r) h = absurd (first_none _ r.number r.place h.0 part_passed)
