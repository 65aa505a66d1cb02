-- The ways out as verdicts of check 16, and checks in front of it: where none of them holds, the answer stands after them.
use mathlib.Core.Path.{◌≡◌, refl, sym, ◌∙◌, ap, ap₂}
use mathlib.Core.Logic.{inl, inr}
use mathlib.Core.Bool.{Bool}
use mathlib.Core.List.{List, ◌++◌}
use Prim.Native.Nat.{ℕ, ◌-◌, ◌/◌, ◌%◌, ◌^◌, ◌≤◌, ◌<◌}
use native.Mathlib.Omega.{arith}
use lib.Dec.{eqb}
use lib.ListN.{length, take, drop}
use lib.IntN.{ℤ}
use Rattle.std.specs.Prelude.{Result, Ok, Err}
use Rattle.integers.specs.Sum.{Naturals, bit, count}
use Rattle.integers.proofs.Sums.{sum_ext}
use Rattle.refusals.specs.Order.{Check, NoneOf, FirstOf}
use Rattle.refusals.specs.declared.Refusal.{Refusal}
use Rattle.refusals.proofs.Order.{neither, none_append, first_right}
use Rattle.maps.specs.Map.{Map}
use Rattle.maps.specs.Check.{InRange}
use Rattle.flows.specs.ProvingSet.{words_for, member}
use Rattle.flows.proofs.Agreement.{cut_agrees}
use Rattle.balance.proofs.Parts.{part_at, part_written}
use Rattle.totals.specs.Subtotal.{subtotal, total, listed}
use Rattle.totals.specs.Totals.{total_checks, subtotaled, TotalGiven}
use Rattle.totals.proofs.Cutting.{total_cut, subtotal_agrees}
use Rattle.totals.proofs.Listing.{listed_ext}

module _ (nodes : ℕ) (set : List ℕ) (out : List ℤ) where
  pub set_short : length set < words_for nodes → FirstOf (total_checks nodes set out) 16 0
  unfolding total_checks FirstOf
  set_short h = inl (inl h, refl, refl)

  pub out_short : length out < count nodes (member set) → FirstOf (total_checks nodes set out) 16 0
  unfolding total_checks FirstOf
  out_short h = inl (inr h, refl, refl)

  pub both_long : words_for nodes ≤ length set → count nodes (member set) ≤ length out → NoneOf (total_checks nodes set out)
  unfolding total_checks NoneOf
  both_long h g = (neither (λ a. omega arith) (λ b. omega arith), tt)

pub total_after : (before : List Check) → NoneOf before → (𝓜 : Map) (c : ℕ → ℤ) (checks : List Check) (set : List ℕ) (out out' : List ℤ) (r : Result ℤ Refusal)
    → TotalGiven 𝓜 c checks set out out' r → TotalGiven 𝓜 c (before ++ checks) set out out' r
total_after before passed 𝓜 c checks set out out' (Ok t) h = (none_append before checks passed h.0, h.1, h.2)
total_after before passed 𝓜 c checks set out out' (Err r) h = (first_right before checks r.number r.place passed h.0, h.1)

-- ── the parts lent ──
-- the words that the nodes need say of every node what the whole slice says of it
pub part_member : (nodes w : ℕ) (set : List ℕ) → w ≡ words_for nodes → (v : ℕ) → v < nodes → member (take (w - 0) set) v ≡ member set v
part_member nodes w set many v l = ap (λ x. eqb (x / 2 ^ (v % 64) % 2) 1) (part_at w set 0 (v / 64) (omega (arith, many, l)))

pub count_agrees : (n : ℕ) (S T : ℕ → Bool) → ((v : ℕ) → v < n → S v ≡ T v) → count n S ≡ count n T
count_agrees n S T same = sum_ext Naturals n (λ v. bit (S v)) (λ v. bit (T v)) (λ v l. ap bit (same v l))

module _ {𝓜 : Map} (range : InRange 𝓜) (c : ℕ → ℤ) (S T : ℕ → Bool) (same : (v : ℕ) → v < 𝓜.nodes → S v ≡ T v) where
  pub total_agrees : total 𝓜 c S ≡ total 𝓜 c T
  total_agrees = total_cut 𝓜 c S range ∙ cut_agrees range S T same c ∙ sym (total_cut 𝓜 c T range)

  -- the subtotals laid into the part that has a place for each node in the set, which is then given back
  pub subtotaled_back : (m : ℕ) (out y : List ℤ) → m ≡ count 𝓜.nodes S → y ≡ subtotaled 𝓜 c S (take (m - 0) out)
      → y ++ drop (m - 0) out ≡ subtotaled 𝓜 c T out
  subtotaled_back m out y e h =
      part_written m out (listed 𝓜.nodes S (subtotal 𝓜 c S)) y (h ∙ ap (λ k. listed 𝓜.nodes S (subtotal 𝓜 c S) ++ drop k (take (m - 0) out)) (sym e))
      ∙ ap₂ (λ l k. l ++ drop k out)
      (listed_ext 𝓜.nodes S T (subtotal 𝓜 c S) (subtotal 𝓜 c T) same (λ v l. subtotal_agrees range c S T same v))
      (e ∙ count_agrees 𝓜.nodes S T same)
