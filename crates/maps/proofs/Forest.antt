-- A spanning forest by Kruskal's rule, as functions of the edge number: edge e joins a e and b e, and `allowed e` says whether it may be taken.
-- `label k v` is the class of v after the first k edges; a taken edge gives the class of a e the label of the class of b e.
-- Two facts: what runs on taken edges only and sends nothing out of any set is zero; and heights can be laid along the taken edges.
use mathlib.Core.Path.{◌≡◌, refl, sym, ◌∙◌, ap}
use mathlib.Core.Logic.{◌≢◌, ◌⊎◌, inl, inr}
use mathlib.Core.Bool.{Bool, true, false, cond, not, ◌&&◌, true≢false, false≢true}
use Prim.Native.Nat.{ℕ, zero, suc, ◌+◌, ◌-◌, ◌≤◌, ◌<◌}
use native.Mathlib.Omega.{arith}
use native.Mathlib.Decide.{ℕ_discrete, dec_lt}
use native.Mathlib.Nat.{zero-add, suc-add}
use lib.Dec.{eqb}
use lib.IntN.{ℤ, pos, ◌+ℤ◌, neg_ℤ, ◌-ℤ◌, +ℤ_idr, +ℤ_invr}
use Rattle.integers.specs.Sum.{Integers, sumℤ, when}
use Rattle.integers.proofs.Omega.{atoms₃, parts, equal}
use Rattle.integers.proofs.Tests.{either, eqb_true, eqb_eq, eqb_false}
use Rattle.integers.proofs.Sums.{sum_one}

-- what x, running from a place to another, carries out of a set that holds the first (p) or the second (q)
abbrev pub carried : Bool → Bool → ℤ → ℤ
carried p q x = when p x +ℤ when q (neg_ℤ x)

pub carried_zero : (p q : Bool) (x : ℤ) → x ≡ pos 0 → carried p q x ≡ pos 0
carried_zero true true x e = +ℤ_invr x
carried_zero true false x e = rw e
carried_zero false true x e = rw e
carried_zero false false x e = refl

pub carried_inside : (p q : Bool) (x : ℤ) → p ≡ q → carried p q x ≡ pos 0
carried_inside true true x e = +ℤ_invr x
carried_inside true false x e = absurd (true≢false e)
carried_inside false true x e = absurd (false≢true e)
carried_inside false false x e = refl

pub carried_out : (p q : Bool) (x : ℤ) → p ≡ true → q ≡ false → carried p q x ≡ x
carried_out p q x h g = rw (h, g) (+ℤ_idr x)

abbrev joining : Bool → ℕ → ℕ → Bool
joining u x y = u && not (eqb x y)

module _ (allowed : ℕ → Bool) (a b : ℕ → ℕ) where
  pub label : ℕ → ℕ → ℕ
  label zero v = v
  label (suc k) v = cond (joining (allowed k) (label k (a k)) (label k (b k))) (cond (eqb (label k v) (label k (a k))) (label k (b k)) (label k v)) (label k v)

  -- edge k is taken: it is allowed, and joins two classes
  pub taken : ℕ → Bool
  taken k = joining (allowed k) (label k (a k)) (label k (b k))

  pub label_zero : (v : ℕ) → label 0 v ≡ v
  unfolding label
  label_zero v = refl

  label_suc : (k v : ℕ) → label (suc k) v ≡ cond (taken k) (cond (eqb (label k v) (label k (a k))) (label k (b k)) (label k v)) (label k v)
  unfolding label taken
  label_suc k v = refl

  pub label_kept : (k v : ℕ) → taken k ≡ false → label (suc k) v ≡ label k v
  label_kept k v e = label_suc k v ∙ rw e

  pub label_joined : (k v : ℕ) → taken k ≡ true → label (suc k) v ≡ cond (eqb (label k v) (label k (a k))) (label k (b k)) (label k v)
  label_joined k v e = label_suc k v ∙ rw e

  pub taken_allowed : (k : ℕ) → taken k ≡ true → allowed k ≡ true
  unfolding taken
  taken_allowed k e = go (allowed k) e
    where
      go : (u : Bool) → joining u (label k (a k)) (label k (b k)) ≡ true → u ≡ true
      go true e = refl
      go false e = absurd (false≢true e)

  pub taken_joins : (k : ℕ) → taken k ≡ true → label k (a k) ≢ label k (b k)
  unfolding taken
  taken_joins k e p = go (allowed k) (rw (eqb_true (label k (a k)) (label k (b k)) p) at e)
    where
      go : (u : Bool) → u && false ≡ true → ⊥
      go true e = false≢true e
      go false e = false≢true e

  left_out : (k : ℕ) → allowed k ≡ true → taken k ≡ false → label k (a k) ≡ label k (b k)
  unfolding taken
  left_out k m e = eqb_eq (label k (a k)) (label k (b k)) (go (eqb (label k (a k)) (label k (b k))) (rw m at e))
    where
      go : (u : Bool) → true && not u ≡ false → u ≡ true
      go true e = refl
      go false e = absurd (true≢false e)

  label_next : (k v w : ℕ) → label k v ≡ label k w → label (suc k) v ≡ label (suc k) w
  label_next k v w e = label_suc k v ∙ (rw e) ∙ sym (label_suc k w)

  label_later : (j k v w : ℕ) → label k v ≡ label k w → label (j + k) v ≡ label (j + k) w
  label_later zero k v w e = rw (zero-add k) e
  label_later (suc j) k v w e = rw (suc-add j k) (label_next (j + k) v w (label_later j k v w e))

  label_ends : (k : ℕ) → allowed k ≡ true → label (suc k) (a k) ≡ label (suc k) (b k)
  label_ends k m = go (either (taken k))
    where
      go : (taken k ≡ true) ⊎ (taken k ≡ false) → label (suc k) (a k) ≡ label (suc k) (b k)
      go (inl e) =
          rw (
            label_joined k (a k) e,
            label_joined k (b k) e,
            eqb_true (label k (a k)) (label k (a k)) refl,
            eqb_false (label k (b k)) (label k (a k)) (λ p. taken_joins k e (sym p)),
          )
      go (inr e) = label_next k (a k) (b k) (left_out k m e)

  -- the ends of every allowed edge have one label from then on
  pub label_closed : (e m : ℕ) → e < m → allowed e ≡ true → label m (a e) ≡ label m (b e)
  label_closed e m l u = rw eq at (label_later (m - suc e) (suc e) (a e) (b e) (label_ends e u))
    where
      eq : (m - suc e) + suc e ≡ m
      eq = omega arith

  -- ── what runs on taken edges only, and sends nothing out of any set of places, is zero: from the last edge down, cut at the edge's class ──
  module _ (n : ℕ) (φ : ℕ → ℤ)
      (off : (e : ℕ) → e < n → taken e ≡ false → φ e ≡ pos 0)
      (closed : (S : ℕ → Bool) → sumℤ n (λ e. carried (S (a e)) (S (b e)) (φ e)) ≡ pos 0) where
    last_zero : (k : ℕ) → k < n → ((e : ℕ) → e < n → k < e → φ e ≡ pos 0) → φ k ≡ pos 0
    last_zero k l above = go (either (taken k))
      where
        S : ℕ → Bool
        S v = eqb (label k v) (label k (a k))

        rest : (i : ℕ) → i < n → i ≢ k → carried (S (a i)) (S (b i)) (φ i) ≡ pos 0
        rest i m c = side (dec_lt k i) (either (taken i))
          where
            side : Dec (k < i) → (taken i ≡ true) ⊎ (taken i ≡ false) → carried (S (a i)) (S (b i)) (φ i) ≡ pos 0
            side (yes h) t = carried_zero (S (a i)) (S (b i)) (φ i) (above i m h)
            side (no h) (inl t) =
                carried_inside (S (a i)) (S (b i)) (φ i) (ap (λ x. eqb x (label k (a k))) (label_closed i k (omega arith) (taken_allowed i t)))
            side (no h) (inr t) = carried_zero (S (a i)) (S (b i)) (φ i) (off i m t)

        go : (taken k ≡ true) ⊎ (taken k ≡ false) → φ k ≡ pos 0
        go (inr t) = off k l t
        go (inl t) =
            sym (carried_out (S (a k)) (S (b k)) (φ k) (eqb_true (label k (a k)) (label k (a k)) refl)
            (eqb_false (label k (b k)) (label k (a k)) (λ p. taken_joins k t (sym p))))
            ∙ sym (sum_one Integers n k (λ e. carried (S (a e)) (S (b e)) (φ e)) l rest)
            ∙ closed S

    down : (j e : ℕ) → e < n → n ≤ e + j → φ e ≡ pos 0
    down zero e l h = absurd (omega arith)
    down (suc j) e l h = last_zero e l (λ i m g. down j i m (omega arith))

    pub forest_zero : (e : ℕ) → e < n → φ e ≡ pos 0
    forest_zero e l = down n e l (omega arith)

  -- ── heights along the forest: a taken edge moves the class of a e so that the difference over e is φ e ──
  module _ (φ : ℕ → ℤ) where
    abbrev shift : ℕ → ℤ → ℤ → ℤ
    shift k x y = φ k +ℤ neg_ℤ (x -ℤ y)

    pub height : ℕ → ℕ → ℤ
    height zero v = pos 0
    height (suc k) v =
        cond (taken k) (cond (eqb (label k v) (label k (a k))) (height k v +ℤ shift k (height k (a k)) (height k (b k))) (height k v)) (height k v)

    height_suc : (k v : ℕ)
        → height (suc k) v
        ≡ cond (taken k) (cond (eqb (label k v) (label k (a k))) (height k v +ℤ shift k (height k (a k)) (height k (b k))) (height k v)) (height k v)
    unfolding height
    height_suc k v = refl

    -- within a class the differences stay
    height_keeps : (k v w : ℕ) → label k v ≡ label k w → height (suc k) v -ℤ height (suc k) w ≡ height k v -ℤ height k w
    height_keeps k v w e = rw (height_suc k v, height_suc k w, e) (go (taken k) (eqb (label k w) (label k (a k))))
      where
        c : ℤ
        c = shift k (height k (a k)) (height k (b k))

        go : (t u : Bool)
            → cond t (cond u (height k v +ℤ c) (height k v)) (height k v) -ℤ cond t (cond u (height k w +ℤ c) (height k w)) (height k w)
            ≡ height k v -ℤ height k w
        go true true = let x = atoms₃ (height k v) (height k w) c in equal (search parts) (omega arith)
        go true false = refl
        go false u = refl

    height_new : (k : ℕ) → taken k ≡ true → height (suc k) (a k) -ℤ height (suc k) (b k) ≡ φ k
    height_new k t =
        rw (
          height_suc k (a k),
          height_suc k (b k),
          t,
          eqb_true (label k (a k)) (label k (a k)) refl,
          eqb_false (label k (b k)) (label k (a k)) (λ p. taken_joins k t (sym p)),
        )
        (let x = atoms₃ (height k (a k)) (height k (b k)) (φ k) in equal (search parts) (omega arith))

    pub height_taken : (m e : ℕ) → e < m → taken e ≡ true → height m (a e) -ℤ height m (b e) ≡ φ e
    height_taken zero e l t = absurd (omega arith)
    height_taken (suc m) e l t = go (ℕ_discrete e m) (height_taken m e)
      where
        go : Dec (e ≡ m) → (e < m → taken e ≡ true → height m (a e) -ℤ height m (b e) ≡ φ e) → height (suc m) (a e) -ℤ height (suc m) (b e) ≡ φ e
        go (yes p) r = rw p (height_new m (rw p at t))
        go (no c) r = height_keeps m (a e) (b e) (label_closed e m (omega arith) (taken_allowed e t)) ∙ r (omega arith) t
