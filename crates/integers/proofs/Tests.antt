-- Boolean tests as facts: equality and order of numbers, splitting on a test, and tests at every number below n, by which a finite instance is computed.
use mathlib.Core.Path.{◌≡◌, refl, sym, ◌∙◌, ap}
use mathlib.Core.Logic.{◌≢◌, ◌⊎◌, inl, inr}
use mathlib.Core.Bool.{Bool, true, false, not, ◌&&◌, ◌||◌, true≢false, false≢true}
use Prim.Native.Nat.{ℕ, zero, suc, ◌≤◌, ◌<◌}
use native.Mathlib.Omega.{arith}
use native.Mathlib.Decide.{ℕ_discrete}
use lib.Dec.{T, eqb, eqb→eq, eqb_refl, ltb, ltb→lt, lt→ltb}
use lib.IntN.{ℤ, pos, negsuc}
use lib.Signed.{◌≤ℤ◌, le_z, le_z_yes}

pub T_of : {b : Bool} → b ≡ true → T b
T_of e = rw e tt

pub of_T : {b : Bool} → T b → b ≡ true
of_T {b} = go b
  where
    go : (b : Bool) → T b → b ≡ true
    go true t = refl
    go false t = absurd t

-- a test holds or it does not
pub either : (b : Bool) → (b ≡ true) ⊎ (b ≡ false)
either true = inl refl
either false = inr refl

-- ── equality and order of numbers ──
pub eqb_true : (a b : ℕ) → a ≡ b → eqb a b ≡ true
eqb_true a b e = rw e (of_T (eqb_refl b))

pub eqb_eq : (a b : ℕ) → eqb a b ≡ true → a ≡ b
eqb_eq a b e = eqb→eq a b (T_of e)

pub eqb_false : (a b : ℕ) → a ≢ b → eqb a b ≡ false
eqb_false a b h = go (either (eqb a b))
  where
    go : (eqb a b ≡ true) ⊎ (eqb a b ≡ false) → eqb a b ≡ false
    go (inl e) = absurd (h (eqb_eq a b e))
    go (inr e) = e

pub eqb_ne : (a b : ℕ) → eqb a b ≡ false → a ≢ b
eqb_ne a b h e = true≢false (sym (eqb_true a b e) ∙ h)

pub ltb_true : (a b : ℕ) → a < b → ltb a b ≡ true
ltb_true a b h = of_T (lt→ltb a b h)

pub ltb_lt : (a b : ℕ) → ltb a b ≡ true → a < b
ltb_lt a b e = ltb→lt a b (T_of e)

pub ltb_false : (a b : ℕ) → b ≤ a → ltb a b ≡ false
ltb_false a b h = go (either (ltb a b))
  where
    go : (ltb a b ≡ true) ⊎ (ltb a b ≡ false) → ltb a b ≡ false
    go (inl e) = absurd (omega (arith, ltb_lt a b e))
    go (inr e) = e

-- ── tests joined ──
pub and_both : (a b : Bool) → a && b ≡ true → (a ≡ true) × (b ≡ true)
and_both true true e = (refl, refl)
and_both true false e = absurd (false≢true e)
and_both false b e = absurd (false≢true e)

pub and_true : {a b : Bool} → a ≡ true → b ≡ true → a && b ≡ true
and_true p q = rw (p, q)

pub not_true : (b : Bool) → not b ≡ true → b ≡ false
not_true true e = absurd (false≢true e)
not_true false e = refl

pub implied : (a : Bool) {b : Bool} → not a || b ≡ true → a ≡ true → b ≡ true
implied true h e = h
implied false h e = absurd (false≢true e)

-- ── a test at every number below n ──
unfoldable pub every : ℕ → (ℕ → Bool) → Bool
every zero b = true
every (suc n) b = every n b && b n

pub every_at : (n : ℕ) (b : ℕ → Bool) → every n b ≡ true → (i : ℕ) → i < n → b i ≡ true
unfolding every
every_at zero b h i l = absurd (omega arith)
every_at (suc n) b h i l = go (and_both (every n b) (b n) h) (ℕ_discrete i n) (every_at n b)
  where
    go : (every n b ≡ true) × (b n ≡ true) → Dec (i ≡ n) → (every n b ≡ true → (i : ℕ) → i < n → b i ≡ true) → b i ≡ true
    go r (yes e) ih = ap b e ∙ r.1
    go r (no e) ih = ih r.0 i (omega (arith, e))

pub every_below : (n : ℕ) (f g : ℕ → ℕ) → every n (λ i. ltb (f i) (g i)) ≡ true → (i : ℕ) → i < n → f i < g i
every_below n f g h i l = ltb_lt (f i) (g i) (every_at n (λ i. ltb (f i) (g i)) h i l)

pub every_equal : (n : ℕ) (f g : ℕ → ℕ) → every n (λ i. eqb (f i) (g i)) ≡ true → (i : ℕ) → i < n → f i ≡ g i
every_equal n f g h i l = eqb_eq (f i) (g i) (every_at n (λ i. eqb (f i) (g i)) h i l)

-- at every two numbers below n: where x holds, y holds
pub every_two : (n : ℕ) (x y : ℕ → ℕ → Bool) → every n (λ i. every n (λ j. not (x i j) || y i j)) ≡ true
    → (i j : ℕ) → i < n → j < n → x i j ≡ true → y i j ≡ true
every_two n x y h i j li lj = implied (x i j) (every_at n (λ j. not (x i j) || y i j) (every_at n (λ i. every n (λ j. not (x i j) || y i j)) h i li) j lj)

-- ── integers ──
unfoldable pub eq_z : ℤ → ℤ → Bool
eq_z (pos a) (pos b) = eqb a b
eq_z (pos a) (negsuc b) = false
eq_z (negsuc a) (pos b) = false
eq_z (negsuc a) (negsuc b) = eqb a b

pub eq_z_eq : (x y : ℤ) → eq_z x y ≡ true → x ≡ y
unfolding eq_z
eq_z_eq (pos a) (pos b) e = ap pos (eqb_eq a b e)
eq_z_eq (pos a) (negsuc b) e = absurd (false≢true e)
eq_z_eq (negsuc a) (pos b) e = absurd (false≢true e)
eq_z_eq (negsuc a) (negsuc b) e = ap negsuc (eqb_eq a b e)

pub every_equalℤ : (n : ℕ) (f g : ℕ → ℤ) → every n (λ i. eq_z (f i) (g i)) ≡ true → (i : ℕ) → i < n → f i ≡ g i
every_equalℤ n f g h i l = eq_z_eq (f i) (g i) (every_at n (λ i. eq_z (f i) (g i)) h i l)

pub every_at_most : (n : ℕ) (f g : ℕ → ℤ) → every n (λ i. le_z (f i) (g i)) ≡ true → (i : ℕ) → i < n → f i ≤ℤ g i
every_at_most n f g h i l = le_z_yes (T_of (every_at n (λ i. le_z (f i) (g i)) h i l))
