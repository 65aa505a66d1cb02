-- Layer cake: the sum of the drops of heights over the darts, each times a length, is the sum over the thresholds θ of the cuts out of {v : θ < height of v}.
-- So where that sum is below zero, so is the cut of some threshold set.
use mathlib.Core.Path.{◌≡◌, sym, ◌∙◌, ap, ap₂}
use mathlib.Core.Logic.{◌⊎◌, inl, inr}
use mathlib.Core.Bool.{Bool, true, false, not, ◌&&◌}
use Prim.Native.Nat.{ℕ, zero, suc, ◌+◌, ◌-◌, ◌≤◌, ◌<◌}
use native.Mathlib.Omega.{arith}
use native.Mathlib.Decide.{dec_lt}
use lib.Dec.{ltb}
use lib.IntN.{ℤ, pos, ◌+ℤ◌, ◌-ℤ◌, ◌*ℤ◌}
use lib.Signed.{◌<ℤ◌, lt_z}
use Rattle.integers.specs.Sum.{Integers, sum, sumℤ, sumℕ, when, bit, count}
use Rattle.integers.proofs.Omega.{atom, literal, added, negated, atoms₁, parts, positive, negative, positive_is, equal, from_less, from_at_most}
use Rattle.integers.proofs.Laws.{lt_of_test, ge_of_test}
use Rattle.integers.proofs.Tests.{either, ltb_true, ltb_false}
use Rattle.integers.proofs.Sums.{sum_ext, sum_swap}
use Rattle.integers.proofs.IntegerSums.{negative_term}
use Rattle.integers.proofs.Counting.{between, count_between, term_le_sum}
use Rattle.maps.specs.Dart.{rev}
use Rattle.maps.specs.Map.{Map, darts, head}
use Rattle.maps.specs.Check.{InRange}
use Rattle.maps.specs.Cut.{leaves, cut}
use Rattle.maps.proofs.Darts.{rev_in}

-- the nodes above a threshold
abbrev pub above : (ℕ → ℤ) → ℤ → ℕ → Bool
above h θ v = lt_z θ (h v)

sum_when : (m : ℕ) (c : ℤ) (b : ℕ → Bool) → sumℤ m (λ θ. when (b θ) c) ≡ pos (count m b) *ℤ c
unfolding sum
sum_when zero c b = let a = atoms₁ c in equal (search parts) (omega arith)
sum_when (suc m) c b = ap₂ ◌+ℤ◌ (sum_when m c b) (once (b m)) ∙ (let a = atoms₁ c in equal (search parts) (omega arith))
  where
    once : (t : Bool) → when t c ≡ pos (bit t) *ℤ c
    once true = let a = atoms₁ c in equal (search parts) (omega arith)
    once false = let a = atoms₁ c in equal (search parts) (omega arith)

-- the drop from x to y, counted by the thresholds between them
drop_layers : (m x y : ℕ) (c : ℤ) → x ≤ m → sumℤ m (λ θ. when (between x y θ) c) ≡ pos (x - y) *ℤ c
drop_layers m x y c l = sum_when m c (between x y) ∙ ap (λ k. pos k *ℤ c) (count_between m x y ∙ omega arith)

module _ (𝓜 : Map) (length : ℕ → ℤ) where
  natural_cake : (m : ℕ) (g : ℕ → ℕ) → ((d : ℕ) → d < darts 𝓜 → g (𝓜.tail d) ≤ m)
      → sumℤ (darts 𝓜) (λ d. pos (g (𝓜.tail d) - g (head 𝓜 d)) *ℤ length d) ≡ sumℤ m (λ θ. cut 𝓜 length (λ v. ltb θ (g v)))
  unfolding cut
  natural_cake m g b =
      sum_ext Integers (darts 𝓜) (λ d. pos (g (𝓜.tail d) - g (head 𝓜 d)) *ℤ length d) (λ d. sumℤ m (λ θ. when (leaves 𝓜 (λ v. ltb θ (g v)) d) (length d)))
      (λ d l. sym (drop_layers m (g (𝓜.tail d)) (g (head 𝓜 d)) (length d) (b d l)))
      ∙ sum_swap Integers (darts 𝓜) m (λ d θ. when (leaves 𝓜 (λ v. ltb θ (g v)) d) (length d))

  -- heights of either sign are moved up to be naturals
  module _ (range : InRange 𝓜) (h : ℕ → ℤ) where
    lift : ℕ
    lift = sumℕ 𝓜.nodes (λ v. negative (h v))

    g : ℕ → ℕ
    g v = positive (h v +ℤ pos lift)

    low : (v : ℕ) → v < 𝓜.nodes → negative (h v) ≤ lift
    unfolding lift
    low v l = term_le_sum 𝓜.nodes v (λ v. negative (h v)) l

    drop_is : (v w : ℕ) → v < 𝓜.nodes → w < 𝓜.nodes → positive (h v -ℤ h w) ≡ g v - g w
    unfolding g
    drop_is v w lv lw =
        let x = atom (h v) in
        let y = atom (h w) in
        omega (arith, positive_is (added x (negated y)), positive_is (added x (literal lift)), positive_is (added y (literal lift)), low v lv, low w lw)

    -- a threshold of the naturals is one of the heights
    above_is : (θ v : ℕ) → v < 𝓜.nodes → ltb θ (g v) ≡ above h (pos θ -ℤ pos lift) v
    unfolding g
    above_is θ v l = go (dec_lt θ (positive (h v +ℤ pos lift))) (either (lt_z (pos θ -ℤ pos lift) (h v)))
      where
        is : positive (h v +ℤ pos lift) + negative (h v) ≡ positive (h v) + lift
        is = let x = atom (h v) in omega (arith, positive_is (added x (literal lift)), low v l)

        go : Dec (θ < positive (h v +ℤ pos lift)) → (lt_z (pos θ -ℤ pos lift) (h v) ≡ true) ⊎ (lt_z (pos θ -ℤ pos lift) (h v) ≡ false)
            → ltb θ (positive (h v +ℤ pos lift)) ≡ lt_z (pos θ -ℤ pos lift) (h v)
        go (yes p) (inl q) = ltb_true θ (positive (h v +ℤ pos lift)) p ∙ sym q
        go (yes p) (inr q) = let x = atom (h v) in absurd (omega (arith, is, from_at_most (ge_of_test (pos θ -ℤ pos lift) (h v) q) (search parts)))
        go (no p) (inl q) = let x = atom (h v) in absurd (omega (arith, is, from_less (lt_of_test (pos θ -ℤ pos lift) (h v) q) (search parts)))
        go (no p) (inr q) = ltb_false θ (positive (h v +ℤ pos lift)) (omega arith) ∙ sym q

    pub threshold : sumℤ (darts 𝓜) (λ d. pos (positive (h (𝓜.tail d) -ℤ h (head 𝓜 d))) *ℤ length d) <ℤ pos 0
        → (θ : ℤ) × (cut 𝓜 length (above h θ) <ℤ pos 0)
    unfolding cut
    threshold short = from (negative_term m (λ θ. cut 𝓜 length (λ v. ltb θ (g v))) (rw (cake) at short))
      where
        m : ℕ
        m = sumℕ 𝓜.nodes g

        cake : sumℤ (darts 𝓜) (λ d. pos (positive (h (𝓜.tail d) -ℤ h (head 𝓜 d))) *ℤ length d) ≡ sumℤ m (λ θ. cut 𝓜 length (λ v. ltb θ (g v)))
        cake =
            sum_ext Integers (darts 𝓜) (λ d. pos (positive (h (𝓜.tail d) -ℤ h (head 𝓜 d))) *ℤ length d) (λ d. pos (g (𝓜.tail d) - g (head 𝓜 d)) *ℤ length d)
            (λ d l. ap (λ x. pos x *ℤ length d) (drop_is (𝓜.tail d) (head 𝓜 d) (range.tail_in d l) (range.tail_in (rev d) (rev_in 𝓜.edges d l))))
            ∙ natural_cake m g (λ d l. term_le_sum 𝓜.nodes (𝓜.tail d) g (range.tail_in d l))

        from : (θ : ℕ) × (θ < m) × (cut 𝓜 length (λ v. ltb θ (g v)) <ℤ pos 0) → (θ : ℤ) × (cut 𝓜 length (above h θ) <ℤ pos 0)
        from r = (pos r.0 -ℤ pos lift, rw same at r.2)
          where
            same : cut 𝓜 length (λ v. ltb r.0 (g v)) ≡ cut 𝓜 length (above h (pos r.0 -ℤ pos lift))
            same =
                sum_ext Integers (darts 𝓜) (λ d. when (leaves 𝓜 (λ v. ltb r.0 (g v)) d) (length d))
                (λ d. when (leaves 𝓜 (above h (pos r.0 -ℤ pos lift)) d) (length d))
                (λ d l.
                ap₂ (λ x y. when (x && not y) (length d))
                (above_is r.0 (𝓜.tail d) (range.tail_in d l))
                (above_is r.0 (head 𝓜 d) (range.tail_in (rev d) (rev_in 𝓜.edges d l))))
