-- The least value by the largest with the ends exchanged: its highest flow, the set that proves the next lower value impossible,
-- and that there is one where there is a largest.
use mathlib.Core.Path.{◌≡◌, sym, ◌∙◌, ap, subst}
use mathlib.Core.Logic.{◌⊎◌, inl, inr}
use mathlib.Core.Bool.{Bool}
use mathlib.Core.List.{List, ◌++◌}
use Prim.Native.Nat.{ℕ, ◌-◌, ◌≤◌, ◌<◌}
use native.Mathlib.Omega.{arith}
use native.Mathlib.Nat.{sub-zero}
use lib.ListN.{length, take, drop}
use lib.Seq.{take_at}
use lib.IntN.{ℤ, pos, neg_ℤ, ◌+ℤ◌, ◌-ℤ◌}
use lib.Signed.{◌<ℤ◌}
use mir.Syntax.{w32}
use mir.Val.{to_z, of_z}
use Rattle.integers.specs.inner.Limited.{Limited}
use Rattle.integers.proofs.Omega.{atoms₁, parts, equal}
use Rattle.integers.proofs.Limits.{limited_more, limited_neg}
use Rattle.signed.proofs.Limits.{same_bits}
use Rattle.refusals.specs.Order.{NoneOf}
use Rattle.maps.specs.Map.{Map, darts}
use Rattle.maps.specs.Check.{InRange}
use Rattle.maps.specs.Cut.{cut}
use Rattle.flows.specs.Settings.{Carries}
use Rattle.flows.specs.Highest.{Highest}
use Rattle.flows.specs.ProvingSet.{Proves, words_for}
use Rattle.flows.specs.inner.Sides.{Beside}
use Rattle.flows.proofs.Exact.{proves_excludes}
use Rattle.flows.proofs.Interval.{beside_proves}
use Rattle.flows.proofs.ValueBound.{cut_small}
use Rattle.flows.proofs.Swapped.{highest_back, proves_back}
use Rattle.arrays.specs.Filled.{filled}
use Rattle.arrays.specs.inner.Flags.{flagged}
use Rattle.arrays.specs.inner.Sizes.{most_on_sheet}
use Rattle.arrays.proofs.FillLoops.{filled_length}
use Rattle.balance.proofs.Parts.{part_length}
use Rattle.node_sets.specs.inner.Words.{Written}
use Rattle.node_sets.proofs.Writing.{written_same}
use Rattle.questions.specs.Question.{end_checks, SetWritten}
use Rattle.questions.proofs.Asked.{ends_in, ends_differ}
use Rattle.questions.proofs.Sets.{set_written}

pub ends_exchanged : (nodes source sink : ℕ) → NoneOf (end_checks nodes source sink) → NoneOf (end_checks nodes sink source)
unfolding NoneOf end_checks
ends_exchanged nodes source sink h = ((λ p. h.0 (turned p)), ((λ e. h.1.0 (sym e)), tt))
  where
    turned : {A B : Type 0} → A ⊎ B → B ⊎ A
    turned (inl a) = inr a
    turned (inr b) = inl b

-- the value before the negative is the negative of the value after
pub before_negative : (v : ℤ) → neg_ℤ (v +ℤ pos 1) ≡ neg_ℤ v -ℤ pos 1
before_negative v = let a = atoms₁ v in equal (search parts) (omega arith)

-- ── the least value, as the number of its bits ──
module _ (𝓜 : Map) (c : ℕ → ℤ) (few : 𝓜.edges ≤ 512) (small : (d : ℕ) → d < darts 𝓜 → Limited most_on_sheet (c d)) {v : ℤ} (inside : List ℕ)
    (is_cut : v ≡ cut 𝓜 c (flagged inside)) where
  limited : Limited 512000000 v
  limited = subst (Limited 512000000) (sym is_cut) (cut_small 𝓜 c few small (flagged inside))

  pub negatable : Limited 2048000000 (to_z w32 (of_z w32 v))
  negatable = subst (Limited 2048000000) (sym (same_bits (omega arith) limited)) (limited_more (omega arith) limited)

  pub told_least : (r : ℤ) → r ≡ neg_ℤ (to_z w32 (of_z w32 v)) → to_z w32 (of_z w32 r) ≡ neg_ℤ v
  told_least r e =
      let q : r ≡ neg_ℤ v = e ∙ ap neg_ℤ (same_bits (omega arith) limited) in
      same_bits (omega arith) (subst (Limited 512000000) (sym q) (limited_neg limited)) ∙ q

-- ── there and back ──
module _ {𝓜 : Map} (range : InRange 𝓜) (c : ℕ → ℤ) (source sink : ℕ) (two : NoneOf (end_checks 𝓜.nodes source sink)) where
  -- the highest flow of the greatest value back is that of the least value there
  pub least_highest : (outer : ℕ) {v least : ℤ} {x : ℕ → ℤ} → least ≡ neg_ℤ v → Highest 𝓜 outer c sink source v x → Highest 𝓜 outer c source sink least x
  least_highest outer {v} {x = x} e h =
      let n = ends_in 𝓜.nodes source sink two in
      subst (λ w. Highest 𝓜 outer c source sink w x) (sym e) (highest_back range n.1 n.0 (λ q. ends_differ 𝓜.nodes source sink two (sym q)) h)

  -- and what carries the largest value there is known to carry its negative back
  pub known_back : (outer : ℕ) {v known : ℤ} {x : ℕ → ℤ} → known ≡ neg_ℤ v → Highest 𝓜 outer c source sink v x → Highest 𝓜 outer c sink source known x
  known_back outer {v} {x = x} e h =
      let n = ends_in 𝓜.nodes source sink two in
      subst (λ w. Highest 𝓜 outer c sink source w x) (sym e) (highest_back range n.0 n.1 (ends_differ 𝓜.nodes source sink two) h)

  -- and a set that proves the next greater value back impossible proves the next lower one there so
  pub next_lower : (v : ℤ) {least : ℤ} (S : ℕ → Bool) → least ≡ neg_ℤ v → Proves 𝓜 c sink source (v +ℤ pos 1) S → Proves 𝓜 c source sink (least -ℤ pos 1) S
  next_lower v S e p =
      subst (λ w. Proves 𝓜 c source sink (w -ℤ pos 1) S) (sym e)
      (subst (λ w. Proves 𝓜 c source sink w S) (before_negative v) (proves_back 𝓜 c source sink (v +ℤ pos 1) S p))

  -- where something is carried there, something is carried back
  pub never_nothing : (S : ℕ → Bool) → Beside sink source S → cut 𝓜 c S <ℤ pos 0 → (value : ℤ) (x : ℕ → ℤ) → Carries 𝓜 c source sink value x → ⊥
  never_nothing S side low value x flow =
      let n = ends_in 𝓜.nodes source sink two in
      proves_excludes range n.0 n.1 (ends_differ 𝓜.nodes source sink two) c value S (beside_proves 𝓜 c source sink S (sym side) low value) x flow

-- one set written into two slices has the same words in both
pub also_written : {inside : List ℕ} {nodes : ℕ} {before after before' after' : List ℕ}
    → Written inside nodes before after → Written inside nodes before' after'
    → SetWritten nodes (take (words_for nodes) after') before after
also_written {inside} {nodes} {before} {after} {before'} {after'} w w' =
    subst (λ words. SetWritten nodes words before after) (written_same inside nodes before after before' after' w w') (set_written w)

-- the part of the slice that the way there has filled, lent again for the way back
pub filled_again : (n : ℕ) (x : ℕ → ℤ) (l y : List ℤ) → n ≤ length l → y ≡ filled n x (take (n - 0) l)
    → take (n - 0) (y ++ drop (n - 0) l) ≡ filled n x (take (n - 0) l)
filled_again n x l y room e =
    let long : length y ≡ n = filled_length n x (take (n - 0) l) y e (omega (arith, part_length n l room)) ∙ part_length n l room in
    take_at y (drop (n - 0) l) (n - 0) (long ∙ sym (sub-zero n)) ∙ e
