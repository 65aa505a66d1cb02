-- Sums of a dart function by a label of the darts (their tail, or their left face), and out of a set of labels: what runs inside a set cancels.
use mathlib.Core.Path.{◌≡◌, refl, sym, ◌∙◌, ap}
use mathlib.Core.Bool.{Bool, true, false, cond, not, ◌&&◌}
use Prim.Native.Nat.{ℕ, ◌+◌, ◌*◌, ◌<◌}
use native.Mathlib.Omega.{arith}
use lib.Dec.{eqb}
use lib.IntN.{ℤ, pos, neg_ℤ, ◌+ℤ◌, +ℤ_invr}
use Rattle.integers.specs.Sum.{Integers, sumℤ, when}
use Rattle.integers.proofs.Tests.{eqb_eq}
use Rattle.integers.proofs.Sums.{sum_ext, sum_nil, sum_pairs, sum_by_label}
use Rattle.integers.proofs.IntegerSums.{when_zero}
use Rattle.maps.specs.Dart.{rev}
use Rattle.maps.proofs.Darts.{rev_even, rev_odd}
use Rattle.maps.proofs.Forest.{carried}

module _ (n : ℕ) (label : ℕ → ℕ) where
  -- the sum over the darts with label v, and over those whose label is in S
  abbrev pub sum_at : (ℕ → ℤ) → ℕ → ℤ
  sum_at φ v = sumℤ (2 * n) (λ d. when (eqb v (label d)) (φ d))

  abbrev pub sum_over : (ℕ → ℤ) → (ℕ → Bool) → ℤ
  sum_over φ S = sumℤ (2 * n) (λ d. when (S (label d)) (φ d))

  abbrev pub exits : (ℕ → Bool) → ℕ → Bool
  exits S d = S (label d) && not (S (label (rev d)))

  -- by edges
  pub over_edges : (φ : ℕ → ℤ) (S : ℕ → Bool) → ((d : ℕ) → d < 2 * n → φ (rev d) ≡ neg_ℤ (φ d))
      → sumℤ n (λ e. carried (S (label (2 * e))) (S (label (2 * e + 1))) (φ (2 * e))) ≡ sum_over φ S
  over_edges φ S anti =
      sum_ext Integers n
      (λ e. carried (S (label (2 * e))) (S (label (2 * e + 1))) (φ (2 * e)))
      (λ e. when (S (label (2 * e))) (φ (2 * e)) +ℤ when (S (label (2 * e + 1))) (φ (2 * e + 1)))
      (λ e l. ap (λ x. when (S (label (2 * e))) (φ (2 * e)) +ℤ when (S (label (2 * e + 1))) x) (sym (anti (2 * e) (omega arith)) ∙ ap φ (rev_even e)))
      ∙ sym (sum_pairs Integers n (λ d. when (S (label d)) (φ d)))

  -- by labels: the sum over a set is the sum of the sums at its members
  pub over_labels : (N : ℕ) (φ : ℕ → ℤ) → ((d : ℕ) → d < 2 * n → label d < N) → (S : ℕ → Bool) → sum_over φ S ≡ sumℤ N (λ v. when (S v) (sum_at φ v))
  over_labels N φ b S =
      sum_by_label Integers (2 * n) N label (λ d. when (S (label d)) (φ d)) b
      ∙ sum_ext Integers N (λ v. sumℤ (2 * n) (λ d. cond (eqb v (label d)) (when (S (label d)) (φ d)) (pos 0)))
      (λ v. when (S v) (sum_at φ v)) (λ v l. go v (S v) refl)
    where
      point : (v d : ℕ) (t u : Bool) → eqb v (label d) ≡ t → S v ≡ u → cond t (when (S (label d)) (φ d)) (pos 0) ≡ when u (when t (φ d))
      point v d true u p q = ap (λ x. when (S x) (φ d)) (sym (eqb_eq v (label d) p)) ∙ (rw q)
      point v d false true p q = refl
      point v d false false p q = refl

      go : (v : ℕ) (u : Bool) → S v ≡ u → sumℤ (2 * n) (λ d. cond (eqb v (label d)) (when (S (label d)) (φ d)) (pos 0)) ≡ when u (sum_at φ v)
      go v true q =
          sum_ext Integers (2 * n) (λ d. cond (eqb v (label d)) (when (S (label d)) (φ d)) (pos 0))
          (λ d. when (eqb v (label d)) (φ d)) (λ d m. point v d (eqb v (label d)) true refl q)
      go v false q = sum_nil Integers (2 * n) (λ d. cond (eqb v (label d)) (when (S (label d)) (φ d)) (pos 0)) (λ d m. point v d (eqb v (label d)) false refl q)

  pub over_none : (N : ℕ) (φ : ℕ → ℤ) → ((d : ℕ) → d < 2 * n → label d < N) → ((v : ℕ) → v < N → sum_at φ v ≡ pos 0) → (S : ℕ → Bool) → sum_over φ S ≡ pos 0
  over_none N φ b h S = over_labels N φ b S ∙ sum_nil Integers N (λ v. when (S v) (sum_at φ v)) (λ v l. rw (h v l) (when_zero (S v)))

  -- what runs inside the set cancels: only the darts that exit count
  pub over_exits : (φ : ℕ → ℤ) → ((d : ℕ) → d < 2 * n → φ (rev d) ≡ neg_ℤ (φ d)) → (S : ℕ → Bool)
      → sum_over φ S ≡ sumℤ (2 * n) (λ d. when (exits S d) (φ d))
  over_exits φ anti S =
      sym (over_edges φ S anti)
      ∙ sum_ext Integers n
      (λ e. carried (S (label (2 * e))) (S (label (2 * e + 1))) (φ (2 * e)))
      (λ e. when (exits S (2 * e)) (φ (2 * e)) +ℤ when (exits S (2 * e + 1)) (φ (2 * e + 1)))
      point
      ∙ sym (sum_pairs Integers n (λ d. when (exits S d) (φ d)))
    where
      split : (p q : Bool) (x : ℤ) → carried p q x ≡ when (p && not q) x +ℤ when (q && not p) (neg_ℤ x)
      split true true x = +ℤ_invr x
      split true false x = refl
      split false true x = refl
      split false false x = refl

      point : (e : ℕ) → e < n
          → carried (S (label (2 * e))) (S (label (2 * e + 1))) (φ (2 * e)) ≡ when (exits S (2 * e)) (φ (2 * e)) +ℤ when (exits S (2 * e + 1)) (φ (2 * e + 1))
      point e l =
          rw (rev_even e, rev_odd e, (ap φ (sym (rev_even e)) ∙ anti (2 * e) (omega arith))) (split (S (label (2 * e))) (S (label (2 * e + 1))) (φ (2 * e)))
