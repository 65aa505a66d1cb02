-- The sets of a few nodes: one word, whose bits past the nodes are zero, so a number below a power of 2. There are so few of them that each can be tried.
use mathlib.Core.Path.{◌≡◌, refl, sym, ◌∙◌, subst, ap}
use mathlib.Core.Bool.{Bool, true, false, not, ◌||◌}
use mathlib.Core.List.{List, [], ◌∷◌}
use Prim.Native.Nat.{ℕ, zero, suc, ◌+◌, ◌*◌, ◌/◌, ◌%◌, ◌^◌, ◌≤◌, ◌<◌}
use native.Mathlib.Omega.{arith}
use native.Mathlib.Decide.{ℕ_discrete}
use native.Mathlib.Nat.{mod-lt}
use lib.Dec.{eqb}
use lib.ListN.{get_or}
use lib.Pow.{pow_pos, shr_lt, split}
use Rattle.integers.proofs.Tests.{eqb_eq, eqb_ne, implied, every, every_at}
use Rattle.flows.specs.ProvingSet.{SetOf}

-- a number of n + 1 bits whose bit n is not set has n bits
top_clear : (n w : ℕ) → w < 2 ^ suc n → eqb (w / 2 ^ n % 2) 1 ≡ false → w < 2 ^ n
top_clear n w h clear =
    let q = w / 2 ^ n in
    let small : q < 2 = shr_lt 1 n (subst (λ (x : ℕ). w < 2 ^ x) (omega arith) h) in
    let none : q ≡ 0 = omega (arith, eqb_ne (q % 2) 1 clear) in
    let rest : w % 2 ^ n < 2 ^ n = mod-lt w (pow_pos n) in
    let whole : 0 * 2 ^ n + w % 2 ^ n ≡ w = subst (λ (x : ℕ). x * 2 ^ n + w % 2 ^ n ≡ w) none (split w n) in
    omega (arith, rest, whole)

-- no bit from m to n - 1: m bits
bits_below : (n m w : ℕ) → m ≤ n → w < 2 ^ n → ((k : ℕ) → m ≤ k → k < n → eqb (w / 2 ^ k % 2) 1 ≡ false) → w < 2 ^ m
bits_below zero m w l h clear = let none : 0 ≡ m = omega arith in subst (λ (x : ℕ). w < 2 ^ x) none h
bits_below (suc n) m w l h clear = go (ℕ_discrete m (suc n)) (bits_below n m w)
  where
    go : Dec (m ≡ suc n) → (m ≤ n → w < 2 ^ n → ((k : ℕ) → m ≤ k → k < n → eqb (w / 2 ^ k % 2) 1 ≡ false) → w < 2 ^ m) → w < 2 ^ m
    go (yes e) ih = subst (λ (x : ℕ). w < 2 ^ x) (sym e) h
    go (no e) ih =
        let less : m ≤ n = omega (arith, e) in
        ih less (top_clear n w h (clear n less (omega arith))) (λ k a b. clear k a (omega arith))

-- a set of at most 64 nodes is one word with no more bits than nodes
one_word : (nodes : ℕ) (words : List ℕ) → 1 ≤ nodes → nodes ≤ 64 → SetOf nodes words → (w : ℕ) × (words ≡ w ∷ []) × (w < 2 ^ nodes)
one_word nodes [] some few s = absurd (omega (arith, s.long))
one_word nodes (w ∷ v ∷ words) some few s = absurd (omega (arith, s.long))
one_word nodes (w ∷ []) some few s = (w, refl, bits_below 64 nodes w few (s.fits 0 (omega arith)) bit)
  where
    bit : (k : ℕ) → nodes ≤ k → k < 64 → eqb (w / 2 ^ k % 2) 1 ≡ false
    bit k a b =
        let zero-th : k / 64 ≡ 0 = omega arith in
        let same : k % 64 ≡ k = omega arith in
        subst (λ (x : ℕ). eqb (w / 2 ^ x % 2) 1 ≡ false) same (subst (λ (x : ℕ). eqb (get_or (w ∷ []) x 0 / 2 ^ (k % 64) % 2) 1 ≡ false) zero-th (s.unused k a))

-- ── every set tried ──
-- if of all words only w passes a test, a set with a property that the test sees is the word w
pub only_one : (nodes : ℕ) → 1 ≤ nodes → nodes ≤ 64 → (w : ℕ) (P : List ℕ → Type 0) (test : ℕ → Bool) → ((v : ℕ) → P (v ∷ []) → test v ≡ true)
    → every (2 ^ nodes) (λ v. not (test v) || eqb v w) ≡ true
    → (words : List ℕ) → SetOf nodes words → P words → words ≡ w ∷ []
only_one nodes some few w P test seen tried words s h =
    let r = one_word nodes words some few s in
    let passed : test r.0 ≡ true = seen r.0 (subst P r.1 h) in
    r.1 ∙ ap (λ (v : ℕ). v ∷ []) (eqb_eq r.0 w (implied (test r.0) (every_at (2 ^ nodes) (λ v. not (test v) || eqb v w) tried r.0 r.2) passed))
