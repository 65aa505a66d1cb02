-- The subtotals of the nodes below n, listed and added up: the loop over the nodes of the set.
use mathlib.Core.Path.{◌≡◌, refl, sym, ◌∙◌, ap, ap₂}
use mathlib.Core.Bool.{Bool, true, false}
use mathlib.Core.List.{List, ◌++◌}
use Prim.Native.Nat.{ℕ, ◌+◌, ◌*◌, ◌≤◌, ◌<◌}
use native.Mathlib.Omega.{arith}
use lib.ListN.{length, set, drop}
use lib.IntN.{ℤ, pos, ◌+ℤ◌, +ℤ_idr}
use mir.Syntax.{w32, w64}
use mir.Val.{SFits}
use Rattle.integers.specs.Sum.{Integers, sum, sumℤ, when, bit, count}
use Rattle.integers.specs.inner.Limited.{Limited}
use Rattle.integers.proofs.Sums.{sum_more}
use Rattle.integers.proofs.Limits.{limited_more, limited_when, limited_sum}
use Rattle.integers.proofs.Counting.{bit_le, sum_le_size, count_le, count_lt}
use Rattle.signed.proofs.Limits.{limited_fits, limited_fits64}
use Rattle.maps.specs.Map.{Map, darts}
use Rattle.maps.specs.Check.{InRange}
use Rattle.arrays.specs.inner.Sizes.{most_on_sheet}
use Rattle.totals.specs.Subtotal.{subtotal, total, listed}
use Rattle.totals.specs.inner.Given.{Subtotaled}
use Rattle.totals.proofs.Cutting.{subtotal_limited, total_limited}
use Rattle.totals.proofs.Listing.{count_in, count_out, Listed, list_start, list_put, list_pass, listed_length}

module _ (𝓜 : Map) (c : ℕ → ℤ) (S : ℕ → Bool) (old : List ℤ) where
  abbrev share : ℕ → ℤ
  share v = when (S v) (subtotal 𝓜 c S v)

  -- the nodes below n are done
  pub record Filling (now : List ℤ) (sum : ℤ) (place n : ℕ) : Type 0 where
    pub placed : place ≡ count n S
    pub added : sum ≡ sumℤ n share
    pub written : Listed S (subtotal 𝓜 c S) old n now

  pub fill_start : Filling old (pos 0) 0 0
  unfolding sum
  fill_start = record { placed = refl; added = refl; written = list_start S (subtotal 𝓜 c S) old }

  module _ {now : List ℤ} {sum : ℤ} {place n : ℕ} (φ : Filling now sum place n) where
    pub fill_put : {now' : List ℤ} {sum' x : ℤ} → S n ≡ true → n < 𝓜.nodes → count 𝓜.nodes S ≤ length old → x ≡ subtotal 𝓜 c S n → sum' ≡ sum +ℤ x
        → now' ≡ set now place x → Filling now' sum' (place + 1) (n + 1)
    fill_put {x = x} h l room e s p = record {
      placed = ap (λ (k : ℕ). k + 1) φ.placed ∙ sym (count_in n S h);
      added = s ∙ ap₂ ◌+ℤ◌ φ.added (e ∙ ap (λ b. when b (subtotal 𝓜 c S n)) (sym h)) ∙ sym (sum_more Integers n share);
      written = p ∙ list_put S (subtotal 𝓜 c S) old n now place x φ.written h φ.placed (omega (arith, room, count_lt n 𝓜.nodes S l h)) e;
    }

    pub fill_pass : S n ≡ false → Filling now sum place (n + 1)
    fill_pass h = record {
      placed = φ.placed ∙ sym (count_out n S h);
      added =
          φ.added ∙ sym (+ℤ_idr (sumℤ n share)) ∙ ap (λ z. sumℤ n share +ℤ z) (ap (λ b. when b (subtotal 𝓜 c S n)) (sym h)) ∙ sym (sum_more Integers n share);
      written = list_pass S (subtotal 𝓜 c S) old n now φ.written h;
    }

    pub place_few : place ≤ n
    place_few = omega (arith, φ.placed, sum_le_size n (λ v. bit (S v)) (λ v l. bit_le (S v)))

    -- there is room for the next
    pub place_in : S n ≡ true → n < 𝓜.nodes → count 𝓜.nodes S ≤ length old → place < length old
    place_in h l room = omega (arith, φ.placed, room, count_lt n 𝓜.nodes S l h)

    pub same_long : n ≤ 𝓜.nodes → count 𝓜.nodes S ≤ length old → length now ≡ length old
    same_long l room = listed_length S (subtotal 𝓜 c S) old n now φ.written (omega (arith, room, count_le n 𝓜.nodes S l))

    pub fill_end : n ≡ 𝓜.nodes → Subtotaled 𝓜 c S old now sum
    unfolding total
    fill_end e = (
      φ.written ∙ ap (λ k. listed k S (subtotal 𝓜 c S) ++ drop (count k S) old) e,
      φ.added ∙ ap (λ k. sumℤ k share) e,
    )

    -- ── 1,024 subtotals, each of 1,024 darts of at most 1,000,000, fit 64 bits ──
    module _ (few : 𝓜.edges ≤ 512) (small : (d : ℕ) → d < darts 𝓜 → Limited most_on_sheet (c d)) where
      pub sum_fits : n < 𝓜.nodes → 𝓜.nodes ≤ 1024 → {x : ℤ} → S n ≡ true → x ≡ subtotal 𝓜 c S n → SFits w64 (sum +ℤ x)
      sum_fits l few_nodes {x} h e =
          rw (ap₂ ◌+ℤ◌ φ.added (e ∙ ap (λ b. when b (subtotal 𝓜 c S n)) (sym h)) ∙ sym (sum_more Integers n share))
          (limited_fits64 ((n + 1) * 1024000000) _ (omega arith)
          (limited_sum (n + 1) 1024000000 share
          (λ v m. limited_when (S v) (limited_more (omega (arith, few)) (subtotal_limited 𝓜 c S most_on_sheet small v)))))

-- the total fits 32
pub total_fits : {𝓜 : Map} → InRange 𝓜 → (c : ℕ → ℤ) (S : ℕ → Bool) → 𝓜.edges ≤ 512 → ((d : ℕ) → d < darts 𝓜 → Limited most_on_sheet (c d))
    → SFits w32 (total 𝓜 c S)
total_fits {𝓜} range c S few small = limited_fits (darts 𝓜 * most_on_sheet) _ (omega (arith, few)) (total_limited 𝓜 c S most_on_sheet small range)
