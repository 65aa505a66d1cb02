-- The records of a window taken one by one: each store keeps what the marks and the capacities say of the records taken.
use mathlib.Core.Path.{◌≡◌, refl, sym, ◌∙◌, ap}
use mathlib.Core.Logic.{◌≢◌}
use mathlib.Core.Bool.{cond}
use mathlib.Core.List.{List}
use Prim.Native.Nat.{ℕ, ◌+◌, ◌*◌, ◌/◌, ◌%◌, ◌<◌}
use native.Mathlib.Omega.{arith}
use native.Mathlib.Decide.{ℕ_discrete}
use native.Mathlib.Numerals.{add-one}
use lib.Dec.{eqb}
use lib.ListN.{length, set, replicate, length-set, length-replicate}
use lib.Seq.{get_or-set_same, get_or-set_other}
use lib.IntN.{ℤ, pos}
use Rattle.integers.proofs.Tests.{eqb_true, eqb_false}
use Rattle.arrays.specs.At.{at, atℤ}
use Rattle.arrays.proofs.FillLoops.{same_everywhere}
use Rattle.capture.specs.Entry.{channel_of, limit_of}
use Rattle.capture.specs.Window.{Seen, unseen, least, with_limit, seen_in, or_else, laid}
use Rattle.capture.specs.inner.Taken.{mark, lowered, Taken}

-- ── one record more ──
module _ (b : List ℕ) (e first k : ℕ) where
  pub seen_same : channel_of b (first + k) ≡ e → seen_in b e first (k + 1) ≡ with_limit (seen_in b e first k) (limit_of b (first + k))
  unfolding seen_in
  seen_same h = ap (seen_in b e first) (add-one k) ∙ (rw (eqb_true (channel_of b (first + k)) e h))

  pub seen_other : channel_of b (first + k) ≢ e → seen_in b e first (k + 1) ≡ seen_in b e first k
  unfolding seen_in
  seen_other h = ap (seen_in b e first) (add-one k) ∙ (rw (eqb_false (channel_of b (first + k)) e h))

mark_with : (s : Seen) (x : ℤ) → mark (with_limit s x) ≡ 1
mark_with unseen x = refl
mark_with (least y) x = refl

-- what is stored is the least with this record
lowered_with : (s : Seen) (c x : ℤ) → lowered (mark s) (or_else s c) x ≡ or_else (with_limit s x) c
lowered_with unseen c x = refl
lowered_with (least y) c x = refl

-- ── capacities laid over others ──
module _ (c : ℕ → ℤ) (b : List ℕ) (first : ℕ) where
  pub laid_forward : (k e : ℕ) → laid c b first k (2 * e) ≡ or_else (seen_in b e first k) (c (2 * e))
  laid_forward k e =
      let half : (2 * e) / 2 ≡ e = omega arith in
      (rw (eqb_true ((2 * e) % 2) 0 (omega arith))) ∙ ap (λ i. or_else (seen_in b i first k) (c (2 * e))) half

  pub laid_backward : (k e : ℕ) → laid c b first k (2 * e + 1) ≡ c (2 * e + 1)
  laid_backward k e = rw (eqb_false ((2 * e + 1) % 2) 0 (λ h. omega arith))

  laid_none : (d : ℕ) → laid c b first 0 d ≡ c d
  unfolding seen_in
  laid_none d = go (ℕ_discrete (d % 2) 0)
    where
      go : Dec (d % 2 ≡ 0) → laid c b first 0 d ≡ c d
      go (yes p) = rw (eqb_true (d % 2) 0 p)
      go (no p) = rw (eqb_false (d % 2) 0 p)

  laid_other : (k d : ℕ) → d ≢ 2 * channel_of b (first + k) → laid c b first k d ≡ laid c b first (k + 1) d
  laid_other k d apart = go (ℕ_discrete (d % 2) 0)
    where
      go : Dec (d % 2 ≡ 0) → laid c b first k d ≡ laid c b first (k + 1) d
      go (yes p) =
          ap (λ s. cond (eqb (d % 2) 0) (or_else s (c d)) (c d))
          (sym (seen_other b (d / 2) first k (λ e. apart (omega (arith, p, e)))))
      go (no p) = rw (eqb_false (d % 2) 0 p) refl

  -- ── the loop ──
  pub taken_start : (capacities : List ℤ) → length capacities ≡ 1024 → ((d : ℕ) → atℤ capacities d ≡ c d) → Taken c b first 0 (replicate 512 0) capacities
  unfolding seen_in
  taken_start capacities long are = record {
    marks_long = length-replicate {A = ℕ} 512 0;
    long = long;
    marked = λ e l. same_everywhere 512 0 e;
    capacities_are = λ d. are d ∙ sym (laid_none d);
  }

  module _ {k : ℕ} {marks : List ℕ} {capacities : List ℤ} (τ : Taken c b first k marks capacities) (e : ℕ) (x : ℤ)
      (channel : e ≡ channel_of b (first + k)) (few : e < 512) (limit : x ≡ limit_of b (first + k)) where
    stored : lowered (at marks e) (atℤ capacities (2 * e)) x ≡ laid c b first (k + 1) (2 * e)
    stored =
        ap (λ m. lowered m (atℤ capacities (2 * e)) x) (τ.marked e few)
        ∙ ap (λ p. lowered (mark (seen_in b e first k)) p x) (τ.capacities_are (2 * e) ∙ laid_forward k e)
        ∙ lowered_with (seen_in b e first k) (c (2 * e)) x
        ∙ ap (λ y. or_else (with_limit (seen_in b e first k) y) (c (2 * e))) limit
        ∙ ap (λ s. or_else s (c (2 * e))) (sym (seen_same b e first k (sym channel)))
        ∙ sym (laid_forward (k + 1) e)

    pub taken_step : {marks' : List ℕ} {capacities' : List ℤ} → marks' ≡ set marks e 1
        → capacities' ≡ set capacities (2 * e) (lowered (at marks e) (atℤ capacities (2 * e)) x) → Taken c b first (k + 1) marks' capacities'
    taken_step p q = record {
      marks_long = ap length p ∙ length-set marks e 1 ∙ τ.marks_long;
      long = ap length q ∙ length-set capacities (2 * e) _ ∙ τ.long;
      marked = λ i l. ap (λ m. at m i) p ∙ by_mark i l (ℕ_discrete i e);
      capacities_are = λ d. ap (λ m. atℤ m d) q ∙ by_dart d (ℕ_discrete d (2 * e));
    }
      where
        by_mark : (i : ℕ) → i < 512 → Dec (i ≡ e) → at (set marks e 1) i ≡ mark (seen_in b i first (k + 1))
        by_mark i l (yes same) =
            ap (λ j. at (set marks e 1) j) same ∙ get_or-set_same marks e 1 0 (omega (arith, τ.marks_long))
            ∙ sym (mark_with (seen_in b e first k) (limit_of b (first + k)))
            ∙ ap mark (sym (seen_same b e first k (sym channel)))
            ∙ ap (λ j. mark (seen_in b j first (k + 1))) (sym same)
        by_mark i l (no other) =
            get_or-set_other marks e i 1 0 other ∙ τ.marked i l
            ∙ ap mark (sym (seen_other b i first k (λ h. other (sym h ∙ sym channel))))

        by_dart : (d : ℕ) → Dec (d ≡ 2 * e) → atℤ (set capacities (2 * e) (lowered (at marks e) (atℤ capacities (2 * e)) x)) d ≡ laid c b first (k + 1) d
        by_dart d (yes same) =
            ap (λ j. atℤ (set capacities (2 * e) (lowered (at marks e) (atℤ capacities (2 * e)) x)) j) same
            ∙ get_or-set_same capacities (2 * e) _ (pos 0) (omega (arith, τ.long))
            ∙ stored
            ∙ ap (laid c b first (k + 1)) (sym same)
        by_dart d (no other) =
            get_or-set_other capacities (2 * e) d _ (pos 0) other ∙ τ.capacities_are d
            ∙ laid_other k d (λ h. other (h ∙ ap (λ i. 2 * i) (sym channel)))
