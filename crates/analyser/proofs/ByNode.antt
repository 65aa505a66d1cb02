-- Totals by node (document 02, Job 9): the total is document 01's sum; what stands where in the slice; what the set says past the last node is passed over.
use mathlib.Core.Path.{◌≡◌, sym, ◌∙◌, ap, ap₂, subst}
use mathlib.Core.Logic.{◌↔◌}
use mathlib.Core.Bool.{Bool, true, false}
use mathlib.Core.List.{List, ◌++◌}
use Prim.Native.Nat.{ℕ, ◌+◌, ◌*◌, ◌<◌}
use lib.ListN.{drop}
use lib.IntN.{ℤ, pos, ◌+ℤ◌}
use lib.Signed.{◌<ℤ◌}
use Rattle.std.specs.Prelude.{Result, Ok, Err}
use Rattle.integers.specs.Sum.{Integers, Naturals, sumℤ, when, bit, count}
use Rattle.integers.proofs.Sums.{sum_ext, sum_nil}
use Rattle.refusals.specs.Order.{NoneOf}
use Rattle.refusals.proofs.Order.{append_none, first_none}
use Rattle.refusals.specs.declared.Refusal.{Refusal}
use Rattle.maps.specs.Map.{Map}
use Rattle.maps.specs.Check.{InRange}
use Rattle.maps.specs.Cut.{leaves, cut}
use Rattle.flows.specs.ProvingSet.{bound, member}
use Rattle.flows.proofs.Agreement.{cut_agrees}
use Rattle.arrays.specs.At.{atℤ}
use Rattle.records.specs.Sheet.{nodes_of, edges_of, capacity_of, sheet_map}
use Rattle.sheets.specs.Open.{sheet_checks}
use Rattle.totals.specs.Subtotal.{subtotal, total}
use Rattle.totals.specs.Totals.{total_checks}
use Rattle.totals.proofs.Cutting.{total_cut, cut_by_edges, subtotal_agrees}
use Rattle.totals.proofs.Listing.{listed_ext, listed_none, listed_front}
use Rattle.analyser.specs.Totals.{totals_checks, GivesTotals}
use Rattle.analyser.specs.Statements.{ProvesOf, TotalsByNode}
use Rattle.analyser.proofs.SheetPlane.{plane}

-- an answer is of an accepted sheet
range : (s set : List ℕ) (out : List ℤ) → NoneOf (totals_checks s set out) → InRange (sheet_map s)
unfolding totals_checks
range s set out none = (plane s (append_none (sheet_checks s) (total_checks (nodes_of s) set out) none).0).sound.range

module _ (s set : List ℕ) (out out' : List ℤ) (t : ℤ) (h : GivesTotals s set out out' (Ok t)) where
  abbrev 𝓜 : Map
  𝓜 = sheet_map s

  abbrev S : ℕ → Bool
  S = member set

  in-range : InRange (sheet_map s)
  in-range = range s set out h.0

  totals_cut : t ≡ cut (sheet_map s) (capacity_of s) (member set)
  totals_cut = h.2 ∙ total_cut 𝓜 (capacity_of s) S in-range

  totals_by_channel : t ≡ sumℤ (edges_of s)
      (λ e. when (leaves 𝓜 S (2 * e)) (capacity_of s (2 * e)) +ℤ when (leaves 𝓜 S (2 * e + 1)) (capacity_of s (2 * e + 1)))
  totals_by_channel = totals_cut ∙ cut_by_edges 𝓜 (capacity_of s) S

  totals_any_set : (T : ℕ → Bool) → ((v : ℕ) → v < nodes_of s → S v ≡ T v) → t ≡ cut (sheet_map s) (capacity_of s) T
  totals_any_set T same = totals_cut ∙ cut_agrees in-range S T same (capacity_of s)

  totals_prove : (source sink : ℕ) (value : ℤ) → (t <ℤ bound S source sink value) ↔ ProvesOf s source sink value S
  totals_prove source sink value =
      (subst (λ x. x <ℤ bound S source sink value) totals_cut, subst (λ x. x <ℤ bound S source sink value) (sym totals_cut))

  subtotal_placed : (v : ℕ) → v < nodes_of s → S v ≡ true → atℤ out' (count v S) ≡ subtotal 𝓜 (capacity_of s) S v
  subtotal_placed v l m = listed_front S (subtotal 𝓜 (capacity_of s) S) out (nodes_of s) out' h.1 (pos 0) v l m

  empty_set : ((v : ℕ) → v < nodes_of s → S v ≡ false) → (t ≡ pos 0) × (out' ≡ out)
  unfolding total
  empty_set none = (
    h.2 ∙ sum_nil Integers (nodes_of s) (λ v. when (S v) (subtotal 𝓜 (capacity_of s) S v))
        (λ v l. ap (λ b. when b (subtotal 𝓜 (capacity_of s) S v)) (none v l)),
    h.1 ∙ listed_none (nodes_of s) S (subtotal 𝓜 (capacity_of s) S) out none,
  )

past_last_node : (s set other : List ℕ) (out out' out'' : List ℤ) (t u : ℤ) → ((v : ℕ) → v < nodes_of s → member set v ≡ member other v)
    → GivesTotals s set out out' (Ok t) → GivesTotals s other out out'' (Ok u) → (t ≡ u) × (out' ≡ out'')
past_last_node s set other out out' out'' t u same h g =
    let c = capacity_of s in
    let n = nodes_of s in (
      totals_any_set s set out out' t h (member other) same ∙ sym (totals_cut s other out out'' u g),
      h.1
          ∙ ap₂ (λ xs k. xs ++ drop k out)
          (listed_ext n (member set) (member other) (subtotal (sheet_map s) c (member set)) (subtotal (sheet_map s) c (member other)) same
          (λ v l. subtotal_agrees (in-range s set out out' t h) c (member set) (member other) same v))
          (sum_ext Naturals n (λ v. bit (member set v)) (λ v. bit (member other v)) (λ v l. ap bit (same v l)))
          ∙ sym g.1,
    )

totals_given : (s set : List ℕ) (out out' : List ℤ) (answer : Result ℤ Refusal)
    → NoneOf (totals_checks s set out) → GivesTotals s set out out' answer → answer ≡ Ok (cut (sheet_map s) (capacity_of s) (member set))
totals_given s set out out' (Ok t) none h = ap Ok (totals_cut s set out out' t h)
totals_given s set out out' (Err r) none h = absurd (first_none (totals_checks s set out) r.number r.place h.0 none)

pub totals_by_node : TotalsByNode
totals_by_node = record {
  totals_cut = totals_cut;
  totals_by_channel = totals_by_channel;
  totals_any_set = λ s set out out' t T same h. totals_any_set s set out out' t h T same;
  totals_prove = λ s set out out' t source sink value h. totals_prove s set out out' t h source sink value;
  totals_given = totals_given;
  subtotal_placed = subtotal_placed;
  past_last_node = past_last_node;
  empty_set = λ s set out out' t none h. empty_set s set out out' t h none;
}
