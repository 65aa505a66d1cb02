-- Counting a forest: its classes and its taken edges are together as many as its places; and it has no more classes than there are components.
-- Places count by a weight that edges keep: 1 everywhere counts them all, and 1 in a component and 0 elsewhere those of the component.
use mathlib.Core.Path.{◌≡◌, refl, sym, ◌∙◌, ap}
use mathlib.Core.Logic.{◌⊎◌, inl, inr}
use mathlib.Core.Bool.{Bool, true, false, cond}
use Prim.Native.Nat.{ℕ, zero, suc, ◌+◌, ◌≤◌, ◌<◌}
use native.Mathlib.Omega.{arith}
use native.Mathlib.Decide.{ℕ_discrete}
use native.Mathlib.Nat.{zero-add, add-zero}
use lib.Dec.{eqb}
use Rattle.integers.specs.Sum.{Naturals, sum, sumℕ, bit}
use Rattle.integers.proofs.Tests.{either, eqb_true, eqb_eq, eqb_false}
use Rattle.integers.proofs.Sums.{sum_ext, sum_add, sum_pick, sum_by_label}
use Rattle.integers.proofs.Counting.{bit_le, sum_le_size, sum_unique}
use Rattle.maps.proofs.Forest.{label, taken, label_zero, label_joined, label_kept, taken_joins}

module _ (allowed : ℕ → Bool) (a b : ℕ → ℕ) where
  abbrev L : ℕ → ℕ → ℕ
  L = label allowed a b

  pub label_idempotent : (k v : ℕ) → L k (L k v) ≡ L k v
  label_idempotent zero v = label_zero allowed a b (L 0 v)
  label_idempotent (suc k) v = go (either (taken allowed a b k)) (label_idempotent k)
    where
      A : ℕ
      A = L k (a k)

      B : ℕ
      B = L k (b k)

      go : (taken allowed a b k ≡ true) ⊎ (taken allowed a b k ≡ false) → ((v : ℕ) → L k (L k v) ≡ L k v) → L (suc k) (L (suc k) v) ≡ L (suc k) v
      go (inr t) ih = rw (label_kept allowed a b k v t, label_kept allowed a b k (L k v) t) (ih v)
      go (inl t) ih = rw (label_joined allowed a b k v t) (cs (either (eqb (L k v) A)))
        where
          cs : (eqb (L k v) A ≡ true) ⊎ (eqb (L k v) A ≡ false) → L (suc k) (cond (eqb (L k v) A) B (L k v)) ≡ cond (eqb (L k v) A) B (L k v)
          cs (inl e) = rw (e, label_joined allowed a b k B t, ih (b k), eqb_false B A (λ p. taken_joins allowed a b k t (sym p)))
          cs (inr e) = rw (e, label_joined allowed a b k (L k v) t, ih v, e)

  -- a label has the weight of its place
  label_keeps : (w : ℕ → ℕ) (k : ℕ) → ((e : ℕ) → e < k → w (a e) ≡ w (b e)) → (v : ℕ) → w (L k v) ≡ w v
  label_keeps w zero h v = ap w (label_zero allowed a b v)
  label_keeps w (suc k) h v = go (either (taken allowed a b k)) (label_keeps w k (λ e l. h e (omega arith)))
    where
      go : (taken allowed a b k ≡ true) ⊎ (taken allowed a b k ≡ false) → ((v : ℕ) → w (L k v) ≡ w v) → w (L (suc k) v) ≡ w v
      go (inr t) ih = rw (label_kept allowed a b k v t) (ih v)
      go (inl t) ih = rw (label_joined allowed a b k v t) (cs (either (eqb (L k v) (L k (a k)))))
        where
          cs : (eqb (L k v) (L k (a k)) ≡ true) ⊎ (eqb (L k v) (L k (a k)) ≡ false) → w (cond (eqb (L k v) (L k (a k))) (L k (b k)) (L k v)) ≡ w v
          cs (inl e) = rw e (ih (b k) ∙ sym (h k (omega arith)) ∙ sym (ih (a k)) ∙ ap w (sym (eqb_eq (L k v) (L k (a k)) e)) ∙ ih v)
          cs (inr e) = rw e (ih v)

  module _ (N : ℕ) where
    pub label_in : (k : ℕ) → ((e : ℕ) → e < k → b e < N) → (v : ℕ) → v < N → L k v < N
    label_in zero h v l = rw (label_zero allowed a b v) l
    label_in (suc k) h v l = go (either (taken allowed a b k)) (label_in k (λ e m. h e (omega arith)))
      where
        go : (taken allowed a b k ≡ true) ⊎ (taken allowed a b k ≡ false) → ((v : ℕ) → v < N → L k v < N) → L (suc k) v < N
        go (inr t) ih = rw (label_kept allowed a b k v t) (ih v l)
        go (inl t) ih = rw (label_joined allowed a b k v t) (cs (eqb (L k v) (L k (a k))))
          where
            cs : (u : Bool) → cond u (L k (b k)) (L k v) < N
            cs true = ih (b k) (h k (omega arith))
            cs false = ih v l

    module _ (w : ℕ → ℕ) where
      -- the classes after k edges, counted by the places that are their own label
      pub classes : ℕ → ℕ
      classes k = sumℕ N (λ v. cond (eqb (L k v) v) (w v) 0)

      classes_zero : classes 0 ≡ sumℕ N w
      unfolding classes
      classes_zero = sum_ext Naturals N (λ v. cond (eqb (L 0 v) v) (w v) 0) w (λ v l. rw (eqb_true (L 0 v) v (label_zero allowed a b v)))

      -- a taken edge: one class less
      classes_joined : (k : ℕ) → taken allowed a b k ≡ true → L k (a k) < N → classes (suc k) + w (L k (a k)) ≡ classes k
      unfolding classes
      classes_joined k t l =
          ap (λ x. after + x) (sym (sum_pick Naturals N A w l))
          ∙ sym (sum_add Naturals N (λ v. cond (eqb (L (suc k) v) v) (w v) 0) (λ v. cond (eqb v A) (w v) 0))
          ∙ sum_ext Naturals N (λ v. cond (eqb (L (suc k) v) v) (w v) 0 + cond (eqb v A) (w v) 0) (λ v. cond (eqb (L k v) v) (w v) 0) point
        where
          A : ℕ
          A = L k (a k)

          B : ℕ
          B = L k (b k)

          after : ℕ
          after = sumℕ N (λ v. cond (eqb (L (suc k) v) v) (w v) 0)

          point : (v : ℕ) → v < N → cond (eqb (L (suc k) v) v) (w v) 0 + cond (eqb v A) (w v) 0 ≡ cond (eqb (L k v) v) (w v) 0
          point v m = rw (label_joined allowed a b k v t) (cs (ℕ_discrete v A) (ℕ_discrete (L k v) A))
            where
              cs : Dec (v ≡ A) → Dec (L k v ≡ A) → cond (eqb (cond (eqb (L k v) A) B (L k v)) v) (w v) 0 + cond (eqb v A) (w v) 0 ≡ cond (eqb (L k v) v) (w v) 0
              cs (yes p) q =
                  let lv : L k v ≡ A = ap (L k) p ∙ label_idempotent k (a k) in
                  rw (
                    eqb_true (L k v) A lv,
                    eqb_true v A p,
                    eqb_false B v (λ h. taken_joins allowed a b k t (sym p ∙ sym h)),
                    eqb_true (L k v) v
                        (lv ∙ sym p),
                  ) (zero-add (w v))
              cs (no p) (yes q) =
                  rw (
                    eqb_true (L k v) A q,
                    eqb_false v A p,
                    eqb_false B v (λ h. taken_joins allowed a b k t (sym q ∙ ap (L k) (sym h) ∙ label_idempotent k (b k))),
                    eqb_false (L k v) v (λ h. p (sym h ∙ q)),
                  )
                  refl
              cs (no p) (no q) = rw (eqb_false (L k v) A q, eqb_false v A p) (add-zero (cond (eqb (L k v) v) (w v) 0))

      classes_kept : (k : ℕ) → taken allowed a b k ≡ false → classes (suc k) ≡ classes k
      unfolding classes
      classes_kept k t = sum_ext Naturals N (λ v. cond (eqb (L (suc k) v) v) (w v) 0) (λ v. cond (eqb (L k v) v) (w v) 0)
          (λ v m. rw (label_kept allowed a b k v t))

      pub forest_count : (k : ℕ) → ((e : ℕ) → e < k → w (a e) ≡ w (b e)) → ((e : ℕ) → e < k → a e < N) → ((e : ℕ) → e < k → b e < N)
          → classes k + sumℕ k (λ e. cond (taken allowed a b e) (w (a e)) 0) ≡ sumℕ N w
      unfolding sum
      forest_count zero hw ha hb = omega (arith, classes_zero)
      forest_count (suc k) hw ha hb = go (either (taken allowed a b k))
          (forest_count k (λ e l. hw e (omega arith)) (λ e l. ha e (omega arith)) (λ e l. hb e (omega arith)))
        where
          before : ℕ
          before = sumℕ k (λ e. cond (taken allowed a b e) (w (a e)) 0)

          go : (taken allowed a b k ≡ true) ⊎ (taken allowed a b k ≡ false) → classes k + before ≡ sumℕ N w → classes (suc k) +
              (before + cond (taken allowed a b k) (w (a k)) 0) ≡ sumℕ N w
          go (inl t) ih =
              rw t (omega (
                arith,
                label_keeps w k (λ e l. hw e (omega arith)) (a k),
                classes_joined k t
                    (label_in k (λ e l. hb e (omega arith)) (a k) (ha k (omega arith))),
              ))
          go (inr t) ih = rw t (omega (arith, classes_kept k t))

    -- places of one component have one label: a component has one class at most
    module _ (k : ℕ) (part : ℕ → ℕ) (j : (v w : ℕ) → v < N → w < N → part v ≡ part w → L k v ≡ L k w) where
      pub class_one : (x : ℕ) → classes (λ v. bit (eqb x (part v))) k ≤ 1
      unfolding classes
      class_one x = sum_unique N (λ v. cond (eqb (L k v) v) (bit (eqb x (part v))) 0) (λ v m. small (eqb (L k v) v) (eqb x (part v))) unique
        where
          small : (p q : Bool) → cond p (bit q) 0 ≤ 1
          small true q = bit_le q
          small false q = omega arith

          both : (p q : Bool) → 1 ≤ cond p (bit q) 0 → (p ≡ true) × (q ≡ true)
          both true true g = (refl, refl)
          both true false g = absurd (omega arith)
          both false q g = absurd (omega arith)

          unique : (v w : ℕ) → v < N → w < N → 1 ≤ cond (eqb (L k v) v) (bit (eqb x (part v))) 0 → 1 ≤ cond (eqb (L k w) w) (bit (eqb x (part w))) 0 → v ≡ w
          unique v w lv lw gv gw =
              let bv = both (eqb (L k v) v) (eqb x (part v)) gv in
              let bw = both (eqb (L k w) w) (eqb x (part w)) gw in
              sym (eqb_eq (L k v) v bv.0)
              ∙ j v w lv lw (sym (eqb_eq x (part v) bv.1) ∙ eqb_eq x (part w) bw.1)
              ∙ eqb_eq (L k w) w bw.0

      -- no more classes than components
      pub classes_le : (c : ℕ) → ((v : ℕ) → v < N → part v < c) → classes (λ v. 1) k ≤ c
      unfolding classes
      classes_le c h =
          rw (sum_by_label Naturals N c part (λ v. bit (eqb (L k v) v)) h)
          (sum_le_size c (λ x. sumℕ N (λ v. cond (eqb x (part v)) (bit (eqb (L k v) v)) 0)) inner)
        where
          swap : (p q : Bool) → cond p (bit q) 0 ≡ cond q (bit p) 0
          swap true true = refl
          swap true false = refl
          swap false true = refl
          swap false false = refl

          inner : (x : ℕ) → x < c → sumℕ N (λ v. cond (eqb x (part v)) (bit (eqb (L k v) v)) 0) ≤ 1
          inner x l =
              rw (sum_ext Naturals N (λ v. cond (eqb x (part v)) (bit (eqb (L k v) v)) 0) (λ v. cond (eqb (L k v) v) (bit (eqb x (part v))) 0)
              (λ v m. swap (eqb x (part v)) (eqb (L k v) v)))
              (class_one x)
