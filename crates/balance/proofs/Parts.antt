-- A part lent from the front of a slice: how long it is, what it holds, and the slice after the part was written and given back. The code names the part of n
-- elements by its bounds, 0 and n, and so it is n - 0 elements long. What is judged of flows is judged of the part that holds those of the edges.
use mathlib.Core.Path.{◌≡◌, refl, sym, ◌∙◌, ap, subst}
use mathlib.Core.Logic.{◌⊎◌}
use mathlib.Core.List.{List, [], ◌∷◌, ◌++◌, append-nil}
use Prim.Native.Nat.{ℕ, ◌+◌, ◌*◌, ◌-◌, ◌≤◌, ◌<◌}
use native.Mathlib.Nat.{sub-zero}
use native.Mathlib.Omega.{arith}
use lib.ListN.{length, get_or, take, drop, length-take, take-append-drop, drop_of_length-le}
use lib.Seq.{length-take-le, get_or-take}
use lib.IntN.{ℤ, neg_ℤ}
use lib.Signed.{◌<ℤ◌}
use Rattle.refusals.specs.Order.{◌at◌when◌, Judged}
use Rattle.std.specs.Prelude.{Result}
use Rattle.refusals.specs.declared.Refusal.{Refusal}
use Rattle.refusals.proofs.Same.{Same, same_in_turn, judged_same}
use Rattle.maps.specs.Map.{Map}
use Rattle.maps.specs.Flow.{net}
use Rattle.flows.specs.Settings.{on_darts}
use Rattle.flows.specs.Check.{Exceeds, within_checks, balance_checks}
use Rattle.flows.proofs.Nets.{net_ext}
use Rattle.flows.proofs.Agreement.{on_darts_agrees}
use Rattle.arrays.specs.At.{atℤ}
use Rattle.arrays.specs.Filled.{tabulate, filled}

module _ {A : Type 0} (n : ℕ) (l : List A) where
  pub part_short : length (take (n - 0) l) ≤ n
  part_short = omega (arith, length-take (n - 0) l)

  pub part_length : n ≤ length l → length (take (n - 0) l) ≡ n
  part_length h = rw (sub-zero n) (length-take-le n l h)

  pub part_at : (z : A) (i : ℕ) → i < n → get_or (take (n - 0) l) i z ≡ get_or l i z
  part_at z i h = get_or-take (n - 0) l i z (omega arith)

  -- the part given back as it was
  pub part_kept : (y : List A) → y ≡ take (n - 0) l → y ++ drop (n - 0) l ≡ l
  part_kept y e = ap (λ x. x ++ drop (n - 0) l) e ∙ take-append-drop (n - 0) l

  -- the part written whole: what was laid in front of nothing is laid in front of the rest
  pub part_written : (t y : List A) → y ≡ t ++ drop n (take (n - 0) l) → y ++ drop (n - 0) l ≡ t ++ drop n l
  part_written t y e =
      let nothing : drop n (take (n - 0) l) ≡ [] = drop_of_length-le (take (n - 0) l) part_short in
      ap (λ x. x ++ drop (n - 0) l) (e ∙ ap (λ x. t ++ x) nothing ∙ append-nil t) ∙ ap (λ k. t ++ drop k l) (sub-zero n)

  pub part_filled : (x : ℕ → A) (y : List A) → y ≡ filled n x (take (n - 0) l) → y ++ drop (n - 0) l ≡ filled n x l
  part_filled x y e = part_written (tabulate n x) y e

-- ── what is judged of flows ──
module _ (𝓜 : Map) (x y : ℕ → ℤ) (same : (e : ℕ) → e < 𝓜.edges → x e ≡ y e) where
  within_same : (c : ℕ → ℤ) → Same (within_checks 𝓜.edges c x) (within_checks 𝓜.edges c y)
  unfolding within_checks Same
  within_same c =
      same_in_turn 𝓜.edges (λ e. (17 at e when Exceeds c x e) ∷ []) (λ e. (17 at e when Exceeds c y e) ∷ [])
      (λ e l. (
        refl,
        refl,
        subst (λ v. (c (2 * e) <ℤ v) ⊎ (c (2 * e + 1) <ℤ neg_ℤ v)) (same e l),
        subst (λ v. (c (2 * e) <ℤ v) ⊎ (c (2 * e + 1) <ℤ neg_ℤ v)) (sym (same e l)),
        tt,
      ))

  nets : (v : ℕ) → net 𝓜 (on_darts x) v ≡ net 𝓜 (on_darts y) v
  nets v = net_ext 𝓜 v (on_darts x) (on_darts y) (on_darts_agrees 𝓜 x y same)

  balance_same : (Excused : ℕ → Type 0) → Same (balance_checks 𝓜 Excused x) (balance_checks 𝓜 Excused y)
  unfolding balance_checks Same
  balance_same Excused =
      same_in_turn 𝓜.nodes _ _
      (λ v l. (refl, refl, (λ h. (h.0, (λ e. h.1 (nets v ∙ e)))), (λ h. (h.0, (λ e. h.1 (sym (nets v) ∙ e)))), tt))

-- ── of the part that holds the flows of the edges ──
module _ (𝓜 : Map) (flows : List ℤ) where
  pub part_flows : (e : ℕ) → e < 𝓜.edges → atℤ (take (𝓜.edges - 0) flows) e ≡ atℤ flows e
  part_flows e l = get_or-take (𝓜.edges - 0) flows e _ (omega arith)

  pub part_net : (v : ℕ) → net 𝓜 (on_darts (atℤ (take (𝓜.edges - 0) flows))) v ≡ net 𝓜 (on_darts (atℤ flows)) v
  part_net = nets 𝓜 (atℤ (take (𝓜.edges - 0) flows)) (atℤ flows) part_flows

  pub part_within : (c : ℕ → ℤ) (v : Result Unit Refusal) → Judged (within_checks 𝓜.edges c (atℤ (take (𝓜.edges - 0) flows))) v
      → Judged (within_checks 𝓜.edges c (atℤ flows)) v
  part_within c v j = judged_same _ _ v (within_same 𝓜 (atℤ (take (𝓜.edges - 0) flows)) (atℤ flows) part_flows c) j

  pub part_balance : (Excused : ℕ → Type 0) (v : Result Unit Refusal) → Judged (balance_checks 𝓜 Excused (atℤ (take (𝓜.edges - 0) flows))) v
      → Judged (balance_checks 𝓜 Excused (atℤ flows)) v
  part_balance Excused v j = judged_same _ _ v (balance_same 𝓜 (atℤ (take (𝓜.edges - 0) flows)) (atℤ flows) part_flows Excused) j
