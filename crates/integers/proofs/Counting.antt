-- Counting: sums of numbers that are at most 1, the one place or all the places where they are not 0, and a term against its sum.
use mathlib.Core.Path.{◌≡◌, refl, sym, ◌∙◌, ap}
use mathlib.Core.Logic.{◌⊎◌, inl, inr}
use mathlib.Core.Bool.{Bool, true, false, cond, not, ◌&&◌}
use Prim.Native.Nat.{ℕ, zero, suc, ◌+◌, ◌-◌, ◌≤◌, ◌<◌, min}
use native.Mathlib.Omega.{arith}
use native.Mathlib.Decide.{ℕ_discrete, dec_le, dec_lt}
use native.Mathlib.Nat.{add-zero}
use lib.Dec.{eqb, ltb}
use Rattle.integers.specs.Sum.{Naturals, sum, sumℕ, bit, count}
use Rattle.integers.proofs.Tests.{either, ltb_true, ltb_false}
use Rattle.integers.proofs.Sums.{sum_more, sum_ext, sum_nil, sum_pick, sum_by_label}

pub bit_le : (b : Bool) → bit b ≤ 1
bit_le true = omega arith
bit_le false = omega arith

pub bit_one : (b : Bool) → 1 ≤ bit b → b ≡ true
bit_one true h = refl
bit_one false h = absurd (omega arith)

pub sum_le_sum : (n : ℕ) (f g : ℕ → ℕ) → ((i : ℕ) → i < n → f i ≤ g i) → sumℕ n f ≤ sumℕ n g
unfolding sum
sum_le_sum zero f g h = omega arith
sum_le_sum (suc n) f g h = omega (arith, sum_le_sum n f g (λ i l. h i (omega arith)), h n (omega arith))

-- a term is at most its sum
pub term_le_sum : (n k : ℕ) (f : ℕ → ℕ) → k < n → f k ≤ sumℕ n f
term_le_sum n k f l = rw (← sum_pick Naturals n k f l) (sum_le_sum n (λ i. cond (eqb i k) (f i) 0) f (λ i m. go (eqb i k) (f i)))
  where
    go : (t : Bool) (x : ℕ) → cond t x 0 ≤ x
    go true x = omega arith
    go false x = omega arith

pub sum_ones : (n : ℕ) → sumℕ n (λ i. 1) ≡ n
unfolding sum
sum_ones zero = refl
sum_ones (suc n) = omega (arith, sum_ones n)

-- no term of f is above g's, and the sum of g is not above f's: no term of g is above f's
pub sum_squeezed : (n : ℕ) (f g : ℕ → ℕ) → ((i : ℕ) → i < n → f i ≤ g i) → sumℕ n g ≤ sumℕ n f → (i : ℕ) → i < n → g i ≤ f i
unfolding sum
sum_squeezed zero f g h s i l = absurd (omega arith)
sum_squeezed (suc n) f g h s i l = go (ℕ_discrete i n) (sum_squeezed n f g (λ i l. h i (omega arith)))
  where
    rest : sumℕ n f ≤ sumℕ n g
    rest = sum_le_sum n f g (λ i l. h i (omega arith))

    go : Dec (i ≡ n) → (sumℕ n g ≤ sumℕ n f → (i : ℕ) → i < n → g i ≤ f i) → g i ≤ f i
    go (yes e) r = rw e (omega (arith, rest))
    go (no c) r = r (omega (arith, h n (omega arith))) i (omega arith)

-- ── terms of at most 1 ──
pub sum_le_size : (n : ℕ) (f : ℕ → ℕ) → ((i : ℕ) → i < n → f i ≤ 1) → sumℕ n f ≤ n
sum_le_size n f h = omega (arith, sum_le_sum n f (λ i. 1) h, sum_ones n)

-- as many as there are places: none is 0
pub sum_full : (n : ℕ) (f : ℕ → ℕ) → ((i : ℕ) → i < n → f i ≤ 1) → n ≤ sumℕ n f → (i : ℕ) → i < n → 1 ≤ f i
unfolding sum
sum_full zero f h g i l = absurd (omega arith)
sum_full (suc n) f h g i l = go (ℕ_discrete i n) (sum_full n f (λ i l. h i (omega arith)))
  where
    rest : sumℕ n f ≤ n
    rest = sum_le_size n f (λ i l. h i (omega arith))

    last : f n ≤ 1
    last = h n (omega arith)

    go : Dec (i ≡ n) → (n ≤ sumℕ n f → (i : ℕ) → i < n → 1 ≤ f i) → 1 ≤ f i
    go (yes e) r = rw e (omega (arith, rest))
    go (no c) r = r (omega (arith, last)) i (omega arith)

-- at most one place where f is not 0
pub sum_unique : (n : ℕ) (f : ℕ → ℕ) → ((i : ℕ) → i < n → f i ≤ 1) → ((i j : ℕ) → i < n → j < n → 1 ≤ f i → 1 ≤ f j → i ≡ j) → sumℕ n f ≤ 1
unfolding sum
sum_unique zero f h u = omega arith
sum_unique (suc n) f h u = go (dec_le 1 (f n)) (sum_unique n f (λ i l. h i (omega arith)) (λ i j l m. u i j (omega arith) (omega arith)))
  where
    others : 1 ≤ f n → (i : ℕ) → i < n → f i ≡ 0
    others p i l = get (dec_le 1 (f i))
      where
        get : Dec (1 ≤ f i) → f i ≡ 0
        get (yes q) = absurd (omega (arith, u i n (omega arith) (omega arith) q p))
        get (no q) = omega arith

    go : Dec (1 ≤ f n) → sumℕ n f ≤ 1 → sumℕ n f + f n ≤ 1
    go (yes p) r = omega (arith, sum_nil Naturals n f (others p), h n (omega arith))
    go (no p) r = omega arith

-- a count above 0 has a place
pub count_find : (n : ℕ) (b : ℕ → Bool) → 1 ≤ count n b → (i : ℕ) × (i < n) × (b i ≡ true)
unfolding sum
count_find zero b h = absurd (omega arith)
count_find (suc n) b h = go (either (b n)) (count_find n b)
  where
    go : (b n ≡ true) ⊎ (b n ≡ false) → (1 ≤ count n b → (i : ℕ) × (i < n) × (b i ≡ true)) → (i : ℕ) × (i < suc n) × (b i ≡ true)
    go (inl p) r = (n, omega arith, p)
    go (inr p) r = let q = r (omega (arith, ap bit p)) in (q.0, omega (arith, q.1), q.2)

-- ── counting up to a place ──
pub count_le : (m n : ℕ) (b : ℕ → Bool) → m ≤ n → count m b ≤ count n b
unfolding sum
count_le m zero b l = rw none (omega arith)
  where
    none : m ≡ 0
    none = omega arith
count_le m (suc n) b l = go (ℕ_discrete m (suc n)) (count_le m n b)
  where
    go : Dec (m ≡ suc n) → (m ≤ n → count m b ≤ count n b) → count m b ≤ count n b + bit (b n)
    go (yes e) r = rw e (omega arith)
    go (no c) r = omega (arith, r (omega (arith, c)))

pub count_lt : (i n : ℕ) (b : ℕ → Bool) → i < n → b i ≡ true → count i b < count n b
unfolding sum
count_lt i n b l e = omega (arith, count_le (suc i) n b l, ap bit e)

-- every number below the count is the count up to some place
pub count_reach : (n f : ℕ) (b : ℕ → Bool) → f < count n b → (i : ℕ) × (i < n) × (b i ≡ true) × (count i b ≡ f)
unfolding sum
count_reach zero f b l = absurd (omega arith)
count_reach (suc n) f b l = go (dec_lt f (count n b)) (either (b n)) (count_reach n f b)
  where
    go : Dec (f < count n b) → (b n ≡ true) ⊎ (b n ≡ false) → (f < count n b → (i : ℕ) × (i < n) × (b i ≡ true) × (count i b ≡ f))
        → (i : ℕ) × (i < suc n) × (b i ≡ true) × (count i b ≡ f)
    go (yes h) e r = let q = r h in (q.0, omega (arith, q.1), q.2, q.3)
    go (no h) (inl e) r = (n, omega arith, e, omega (arith, ap bit e))
    go (no h) (inr e) r = absurd (omega (arith, ap bit e))

-- those that pass b are numbered by the count up to them: a test of the numbers
pub count_marked : (n : ℕ) (b g : ℕ → Bool) → count n (λ i. b i && g (count i b)) ≡ count (count n b) g
unfolding sum
count_marked zero b g = refl
count_marked (suc n) b g = go (either (b n)) (count_marked n b g)
  where
    go : (b n ≡ true) ⊎ (b n ≡ false) → count n (λ i. b i && g (count i b)) ≡ count (count n b) g → count n (λ i. b i && g (count i b)) + bit
        (b n && g (count n b)) ≡ count (count n b + bit (b n)) g
    go (inl e) ih = rw e (ap (λ x. x + bit (g (count n b))) ih ∙ sym (sum_more Naturals (count n b) (λ i. bit (g i))))
    go (inr e) ih = rw e (add-zero (count n (λ i. b i && g (count i b))) ∙ ih ∙ ap (λ m. count m g) (sym (add-zero (count n b))))

-- the counts of each label add up to the whole count
pub count_by_label : (n m : ℕ) (label : ℕ → ℕ) (b : ℕ → Bool) → ((i : ℕ) → i < n → label i < m)
    → sumℕ m (λ v. count n (λ i. b i && eqb v (label i))) ≡ count n b
count_by_label n m label b h =
    sum_ext Naturals m (λ v. count n (λ i. b i && eqb v (label i))) (λ v. sumℕ n (λ i. cond (eqb v (label i)) (bit (b i)) 0))
    (λ v l. sum_ext Naturals n (λ i. bit (b i && eqb v (label i))) (λ i. cond (eqb v (label i)) (bit (b i)) 0) (λ i k. both (b i) (eqb v (label i))))
    ∙ sym (sum_by_label Naturals n m label (λ i. bit (b i)) h)
  where
    both : (x y : Bool) → bit (x && y) ≡ cond y (bit x) 0
    both true true = refl
    both true false = refl
    both false true = refl
    both false false = refl

-- ── thresholds: those below m that x passes and y does not ──
abbrev pub between : ℕ → ℕ → ℕ → Bool
between x y θ = ltb θ x && not (ltb θ y)

pub count_between : (m x y : ℕ) → count m (between x y) ≡ min x m - min y m
unfolding sum
count_between zero x y = omega arith
count_between (suc m) x y = go (dec_lt m x) (dec_lt m y) (count_between m x y)
  where
    go : Dec (m < x) → Dec (m < y) → count m (between x y) ≡ min x m - min y m → count m (between x y) + bit (between x y m) ≡ min x (suc m) - min y (suc m)
    go (yes p) (yes q) ih = rw (ltb_true m x p, ltb_true m y q) (omega arith)
    go (yes p) (no q) ih = rw (ltb_true m x p, ltb_false m y (omega arith)) (omega arith)
    go (no p) q ih = rw (ltb_false m x (omega arith)) (omega arith)
