-- What the window's least is: the limit of some record of that channel, and none there has less; or no record is of the channel.
use mathlib.Core.Path.{◌≡◌, refl, sym, ◌∙◌, ap, subst}
use mathlib.Core.Logic.{◌⊎◌, inl, inr, ◌≢◌}
use mathlib.Core.Bool.{true, false}
use mathlib.Core.List.{List}
use Prim.Native.Nat.{ℕ, zero, suc, ◌+◌, ◌≤◌, ◌<◌}
use native.Mathlib.Omega.{arith}
use native.Mathlib.Decide.{ℕ_discrete}
use native.Mathlib.Numerals.{add-one}
use lib.IntN.{ℤ}
use lib.Signed.{◌≤ℤ◌, lt_z, ≤ℤ_refl}
use Rattle.integers.proofs.Laws.{le_trans, le_of_lt, lt_of_test, ge_of_test}
use Rattle.integers.proofs.Tests.{either}
use Rattle.capture.specs.Entry.{channel_of, limit_of}
use Rattle.capture.specs.Window.{Seen, unseen, least, lesser, with_limit, seen_in}
use Rattle.capture.proofs.Taking.{seen_same, seen_other}

-- of channel e, among the records first, .., first + k - 1
abbrev pub LeastOf : List ℕ → (e first k : ℕ) → Seen → Type 0
LeastOf b e first k unseen = (j : ℕ) → first ≤ j → j < first + k → channel_of b j ≡ e → ⊥
LeastOf b e first k (least x) =
    (i : ℕ) × (first ≤ i) × (i < first + k) × (channel_of b i ≡ e) × (x ≡ limit_of b i)
    × ((j : ℕ) → first ≤ j → j < first + k → channel_of b j ≡ e → x ≤ℤ limit_of b j)

-- the lesser of two is one of them, and at most each
lesser_left : (x y : ℤ) → lesser x y ≤ℤ x
lesser_left x y = go (either (lt_z x y))
  where
    go : (lt_z x y ≡ true) ⊎ (lt_z x y ≡ false) → lesser x y ≤ℤ x
    go (inl t) = rw t (≤ℤ_refl x)
    go (inr t) = rw t (ge_of_test x y t)

lesser_right : (x y : ℤ) → lesser x y ≤ℤ y
lesser_right x y = go (either (lt_z x y))
  where
    go : (lt_z x y ≡ true) ⊎ (lt_z x y ≡ false) → lesser x y ≤ℤ y
    go (inl t) = rw t (le_of_lt (lt_of_test x y t))
    go (inr t) = rw t (≤ℤ_refl y)

lesser_one : (x y : ℤ) → (lesser x y ≡ x) ⊎ (lesser x y ≡ y)
lesser_one x y = go (either (lt_z x y))
  where
    go : (lt_z x y ≡ true) ⊎ (lt_z x y ≡ false) → (lesser x y ≡ x) ⊎ (lesser x y ≡ y)
    go (inl t) = inl (rw t refl)
    go (inr t) = inr (rw t refl)

module _ (b : List ℕ) (e first : ℕ) where
  -- one record more, of another channel
  other : (k : ℕ) (s : Seen) → channel_of b (first + k) ≢ e → LeastOf b e first k s → LeastOf b e first (k + 1) s
  other k unseen apart h = λ j l m c. by j l m c (ℕ_discrete j (first + k))
    where
      by : (j : ℕ) → first ≤ j → j < first + (k + 1) → channel_of b j ≡ e → Dec (j ≡ first + k) → ⊥
      by j l m c (yes q) = apart (ap (channel_of b) (sym q) ∙ c)
      by j l m c (no q) = h j l (omega (arith, q, m)) c
  other k (least x) apart h = (h.0, h.1, omega (arith, h.2), h.3, h.4, λ j l m c. by j l m c (ℕ_discrete j (first + k)))
    where
      by : (j : ℕ) → first ≤ j → j < first + (k + 1) → channel_of b j ≡ e → Dec (j ≡ first + k) → x ≤ℤ limit_of b j
      by j l m c (yes q) = absurd (apart (ap (channel_of b) (sym q) ∙ c))
      by j l m c (no q) = h.5 j l (omega (arith, q, m)) c

  -- one more of this channel
  same : (k : ℕ) (s : Seen) → channel_of b (first + k) ≡ e → LeastOf b e first k s → LeastOf b e first (k + 1) (with_limit s (limit_of b (first + k)))
  same k unseen is h = (first + k, omega arith, omega arith, is, refl, λ j l m c. by j l m c (ℕ_discrete j (first + k)))
    where
      by : (j : ℕ) → first ≤ j → j < first + (k + 1) → channel_of b j ≡ e → Dec (j ≡ first + k) → limit_of b (first + k) ≤ℤ limit_of b j
      by j l m c (yes q) = rw q (≤ℤ_refl (limit_of b (first + k)))
      by j l m c (no q) = absurd (h j l (omega (arith, q, m)) c)
  same k (least y) is h = which (lesser_one (limit_of b (first + k)) y)
    where
      none_less : (j : ℕ) → first ≤ j → j < first + (k + 1) → channel_of b j ≡ e → Dec (j ≡ first + k) → lesser (limit_of b (first + k)) y ≤ℤ limit_of b j
      none_less j l m c (yes q) = rw q (lesser_left (limit_of b (first + k)) y)
      none_less j l m c (no q) = le_trans (lesser_right (limit_of b (first + k)) y) (h.5 j l (omega (arith, q, m)) c)

      which : (lesser (limit_of b (first + k)) y ≡ limit_of b (first + k)) ⊎ (lesser (limit_of b (first + k)) y ≡ y)
          → LeastOf b e first (k + 1) (least (lesser (limit_of b (first + k)) y))
      which (inl t) = (first + k, omega arith, omega arith, is, t, λ j l m c. none_less j l m c (ℕ_discrete j (first + k)))
      which (inr t) = (h.0, h.1, omega (arith, h.2), h.3, t ∙ h.4, λ j l m c. none_less j l m c (ℕ_discrete j (first + k)))

  pub least_of : (k : ℕ) → LeastOf b e first k (seen_in b e first k)
  unfolding seen_in
  least_of zero = λ j l m c. omega arith
  least_of (suc k) = subst (λ n. LeastOf b e first n (seen_in b e first n)) (add-one k) (by (ℕ_discrete (channel_of b (first + k)) e) (least_of k))
    where
      by : Dec (channel_of b (first + k) ≡ e) → LeastOf b e first k (seen_in b e first k) → LeastOf b e first (k + 1) (seen_in b e first (k + 1))
      by (yes q) h = subst (LeastOf b e first (k + 1)) (sym (seen_same b e first k q)) (same k (seen_in b e first k) q h)
      by (no q) h = subst (LeastOf b e first (k + 1)) (sym (seen_other b e first k q)) (other k (seen_in b e first k) q h)
