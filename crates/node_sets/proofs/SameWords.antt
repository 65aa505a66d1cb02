-- A set of nodes has one way to be written: two lists of words that hold the same nodes are one.
use Prim.Native.Nat.{ℕ, zero, suc, ◌+◌, ◌*◌, ◌/◌, ◌%◌, ◌^◌, ◌<◌}
use mathlib.Core.Path.{◌≡◌, refl, sym, ◌∙◌, ap, subst}
use mathlib.Core.Bool.{true≢false, false≢true}
use mathlib.Core.List.{List}
use native.Mathlib.Omega.{arith}
use native.Mathlib.Nat.{mod-lt}
use native.Mathlib.Decide.{dec_lt}
use lib.Dec.{eqb}
use lib.ListN.{get_or}
use lib.Seq.{ext_get_or}
use lib.Pow.{pow_pos, shr_lt, split}
use Rattle.flows.specs.ProvingSet.{SetOf, member}
use Rattle.node_sets.proofs.Bits.{low_bit}

-- a bit is told by its test
bit_told : (x y : ℕ) → x < 2 → y < 2 → eqb x 1 ≡ eqb y 1 → x ≡ y
bit_told zero zero l m e = refl
bit_told zero (suc zero) l m e = absurd (false≢true e)
bit_told (suc zero) zero l m e = absurd (true≢false e)
bit_told (suc zero) (suc zero) l m e = refl
bit_told zero (suc (suc y)) l m e = absurd (omega (arith, m))
bit_told (suc zero) (suc (suc y)) l m e = absurd (omega (arith, m))
bit_told (suc (suc x)) y l m e = absurd (omega (arith, l))

-- numbers of n bits that have the same bits are equal
by_bits : (n a b : ℕ) → a < 2 ^ n → b < 2 ^ n → ((k : ℕ) → k < n → a / 2 ^ k % 2 ≡ b / 2 ^ k % 2) → a ≡ b
by_bits zero a b la lb h = omega (arith, la, lb)
by_bits (suc n) a b la lb h =
    let qa : a / 2 ^ n < 2 = shr_lt 1 n (subst (λ (x : ℕ). a < 2 ^ x) (omega arith) la) in
    let qb : b / 2 ^ n < 2 = shr_lt 1 n (subst (λ (x : ℕ). b < 2 ^ x) (omega arith) lb) in
    let top : a / 2 ^ n ≡ b / 2 ^ n = last (a / 2 ^ n) (b / 2 ^ n) qa qb (h n (omega arith)) in
    let rest : a % 2 ^ n ≡ b % 2 ^ n =
    by_bits n (a % 2 ^ n) (b % 2 ^ n) (mod-lt a (pow_pos n)) (mod-lt b (pow_pos n))
    (λ k l. low_bit a n k l ∙ h k (omega (arith, l)) ∙ sym (low_bit b n k l)) in
    sym (split a n) ∙ ap (λ (x : ℕ). x * 2 ^ n + a % 2 ^ n) top ∙ ap (λ (x : ℕ). b / 2 ^ n * 2 ^ n + x) rest ∙ split b n
  where
    last : (x y : ℕ) → x < 2 → y < 2 → x % 2 ≡ y % 2 → x ≡ y
    last x y lx ly e = omega (arith, lx, ly, e)

module _ (nodes : ℕ) (words words' : List ℕ) (s : SetOf nodes words) (t : SetOf nodes words')
    (same : (v : ℕ) → v < nodes → member words v ≡ member words' v) where
  everywhere : (v : ℕ) → member words v ≡ member words' v
  everywhere v = by (dec_lt v nodes)
    where
      by : Dec (v < nodes) → member words v ≡ member words' v
      by (yes l) = same v l
      by (no n) = s.unused v (omega (arith, n)) ∙ sym (t.unused v (omega (arith, n)))

  one_bit : (i k : ℕ) → k < 64 → get_or words i 0 / 2 ^ k % 2 ≡ get_or words' i 0 / 2 ^ k % 2
  one_bit i k l =
      bit_told (get_or words i 0 / 2 ^ k % 2) (get_or words' i 0 / 2 ^ k % 2) (omega arith) (omega arith)
      (subst (λ (z : ℕ). eqb (get_or words i 0 / 2 ^ z % 2) 1 ≡ eqb (get_or words' i 0 / 2 ^ z % 2) 1) low
      (subst (λ (z : ℕ). eqb (get_or words z 0 / 2 ^ ((64 * i + k) % 64) % 2) 1 ≡ eqb (get_or words' z 0 / 2 ^ ((64 * i + k) % 64) % 2) 1) high
      (everywhere (64 * i + k))))
    where
      high : (64 * i + k) / 64 ≡ i
      high = omega (arith, l)

      low : (64 * i + k) % 64 ≡ k
      low = omega (arith, l)

  pub same_words : words ≡ words'
  same_words =
      ext_get_or 0 words words' (s.long ∙ sym t.long)
      (λ i l. by_bits 64 (get_or words i 0) (get_or words' i 0) (s.fits i l) (t.fits i (omega (arith, l, s.long, t.long))) (one_bit i))
