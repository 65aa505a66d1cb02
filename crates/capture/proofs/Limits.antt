-- Limits taken from a capture: the checks of its phases in order, and what is in the capacities after them.
use mathlib.Core.Path.{◌≡◌, ◌∙◌, ap, subst, fun_ext}
use mathlib.Core.Logic.{inl, inr}
use mathlib.Core.List.{List}
use Prim.Native.Nat.{ℕ, ◌+◌, ◌-◌, ◌*◌, ◌/◌, ◌≤◌, ◌<◌}
use native.Mathlib.Omega.{arith}
use lib.ListN.{length}
use lib.IntN.{ℤ}
use Rattle.refusals.specs.Order.{NoneOf, FirstOf, Judged}
use Rattle.std.specs.Prelude.{Result, Ok, Err}
use Rattle.refusals.specs.declared.Refusal.{Refusal}
use Rattle.refusals.proofs.Order.{first_left, first_right, none_append, append_none, in-turn-none}
use Rattle.records.specs.Check.{capacity_checks}
use Rattle.capture.specs.Entry.{entry_checks, begun}
use Rattle.capture.specs.Window.{first_of, count_of, laid, found}
use Rattle.capture.specs.Capture.{window_checks, records_checks, limits_checks, taking_checks}
use Rattle.capture.specs.inner.Taken.{LimitsTaken}
use Rattle.capture.proofs.Checking.{begins}

-- ── the window ──
pub window_inside : (b : List ℕ) (w n : ℕ) → NoneOf (window_checks b w n) → (1 ≤ w) × (w ≤ 256) × (11 * (n + 1) ≤ length b)
unfolding NoneOf window_checks
window_inside b w n h =
    let below : w < 1 → ⊥ = λ l. h.0 (inl (inl l)) in
    let above : 256 < w → ⊥ = λ l. h.0 (inl (inr l)) in
    let beyond : length b / 11 ≤ n → ⊥ = λ l. h.0 (inr l) in
    (omega (arith, below), omega (arith, above), omega (arith, beyond))

-- its records have passed
pub window_passed : (edges : ℕ) (b : List ℕ) (n : ℕ) → NoneOf (records_checks edges b) → 11 * (n + 1) ≤ length b
    → (i : ℕ) → i < n + 1 → NoneOf (entry_checks edges b i)
unfolding records_checks
window_passed edges b n h l i m = in-turn-none (begun b) (entry_checks edges b) h i (begins (length b) i (omega (arith, l, m)))

module _ (edges : ℕ) (c c' : ℕ → ℤ) (b : List ℕ) (w n : ℕ) where
  pub window_refused : (r : Refusal) → FirstOf (window_checks b w n) r.number r.place → LimitsTaken edges c c' b w n (Err r)
  unfolding taking_checks
  window_refused r h = first_left (window_checks b w n) _ r.number r.place h

  module _ (ranged : NoneOf (window_checks b w n)) where
    pub records_refused : (r : Refusal) → FirstOf (records_checks edges b) r.number r.place → LimitsTaken edges c c' b w n (Err r)
    unfolding taking_checks
    records_refused r h = first_right (window_checks b w n) _ r.number r.place ranged (first_left (records_checks edges b) _ r.number r.place h)

    -- the capacities hold what the window's records leave, and are judged
    pub limits_judged : NoneOf (records_checks edges b) → (first count : ℕ) → first ≡ first_of w n → count ≡ (n + 1) - first
        → ((d : ℕ) → c' d ≡ laid c b first count d) → (v : Result Unit Refusal) → Judged (limits_checks edges c') v → LimitsTaken edges c c' b w n v
    unfolding taking_checks
    limits_judged passed first count begin many are v h = by v (subst (λ f. Judged (limits_checks edges f) v) (fun_ext same) h)
      where
        same : (d : ℕ) → c' d ≡ found c b w n d
        same d = are d ∙ ap (λ k. laid c b first k d) (many ∙ ap (λ f. (n + 1) - f) begin) ∙ ap (λ f. laid c b f (count_of w n) d) begin

        by : (v : Result Unit Refusal) → Judged (limits_checks edges (found c b w n)) v → LimitsTaken edges c c' b w n v
        by (Ok done) g = (none_append (window_checks b w n) _ ranged (none_append (records_checks edges b) _ passed g), same)
        by (Err r) g =
            first_right (window_checks b w n) _ r.number r.place ranged (first_right (records_checks edges b) _ r.number r.place passed g)

-- the capacities found have passed 6 and 7
pub taking_limits : (edges : ℕ) (c : ℕ → ℤ) (b : List ℕ) (w n : ℕ) → NoneOf (taking_checks edges c b w n)
    → (e : ℕ) → e < edges → NoneOf (capacity_checks (found c b w n (2 * e)) (found c b w n (2 * e + 1)))
unfolding taking_checks limits_checks
taking_limits edges c b w n h = in-turn-none edges _ (append_none (records_checks edges b) _ (append_none (window_checks b w n) _ h).1).1
