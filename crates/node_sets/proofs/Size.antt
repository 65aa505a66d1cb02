-- The size of a set of nodes in words is the number of its members.
use mathlib.Core.Path.{◌≡◌, sym, ap, ap₂, ◌∙◌}
use mathlib.Core.Bool.{Bool}
use mathlib.Core.List.{List, [], ◌∷◌}
use Prim.Native.Nat.{ℕ, zero, suc, ◌+◌, ◌-◌, ◌*◌, ◌/◌, ◌%◌, ◌^◌, ◌<◌}
use native.Mathlib.Omega.{arith}
use native.Mathlib.Nat.{add-suc, add-zero}
use native.Mathlib.Numerals.{add-one}
use lib.Dec.{eqb}
use lib.ListN.{length, get_or, take}
use lib.Count.{ones}
use Rattle.integers.specs.Sum.{sum, Naturals, bit, count}
use Rattle.integers.proofs.Sums.{sum_zero, sum_ext, sum_nil}
use Rattle.flows.specs.ProvingSet.{member, SetOf, size}
use Rattle.node_sets.proofs.Bits.{ones_bits}

size_suc : (ws : List ℕ) (i : ℕ) → i < length ws → size (take (suc i) ws) ≡ size (take i ws) + ones (get_or ws i 0)
unfolding size
size_suc [] i h = absurd (omega arith)
size_suc (w ∷ ws) zero h = omega arith
size_suc (w ∷ ws) (suc i) h = omega (arith, size_suc ws i (omega arith))

-- one word more
pub size_more : (ws : List ℕ) (i : ℕ) → i < length ws → size (take (i + 1) ws) ≡ size (take i ws) + ones (get_or ws i 0)
size_more ws i h = ap (λ (x : ℕ). size (take x ws)) (add-one i) ∙ size_suc ws i h

count_split : (a b : ℕ) (f : ℕ → Bool) → count (a + b) f ≡ count a f + count b (λ i. f (a + i))
unfolding sum
count_split a zero f = ap (λ (x : ℕ). count x f) (add-zero a) ∙ sym (add-zero (count a f))
count_split a (suc b) f =
    let e : count (a + suc b) f ≡ count (a + b) f + bit (f (a + b)) = ap (λ (x : ℕ). count x f) (add-suc a b) in
    omega (arith, e, count_split a b f)

-- every bit of every word counted
size_bits : (ws : List ℕ) → ((i : ℕ) → i < length ws → get_or ws i 0 < 2 ^ 64) → size ws ≡ count (64 * length ws) (member ws)
unfolding size
size_bits [] h = sym (sum_zero Naturals (λ i. bit (member [] i)))
size_bits (w ∷ ws) h =
    let n = length ws in
    let longer : 64 * suc n ≡ 64 + 64 * n = omega arith in
    let whole : count (64 * suc n) (member (w ∷ ws)) ≡ count 64 (member (w ∷ ws)) + count (64 * n) (λ i. member (w ∷ ws) (64 + i)) =
    ap (λ (x : ℕ). count x (member (w ∷ ws))) longer ∙ count_split 64 (64 * n) (member (w ∷ ws)) in
    let first : ones w ≡ count 64 (member (w ∷ ws)) =
    ones_bits 64 w (h 0 (omega arith))
    ∙ sum_ext Naturals 64 (λ k. bit (eqb (w / 2 ^ k % 2) 1)) (λ k. bit (member (w ∷ ws) k)) (λ k l. sym (ap bit (here k l))) in
    let others : size ws ≡ count (64 * n) (λ i. member (w ∷ ws) (64 + i)) =
    size_bits ws (λ i l. h (suc i) (omega arith))
    ∙ sum_ext Naturals (64 * n) (λ i. bit (member ws i)) (λ i. bit (member (w ∷ ws) (64 + i))) (λ i l. sym (ap bit (there i))) in
    ap₂ ◌+◌ first others ∙ sym whole
  where
    here : (k : ℕ) → k < 64 → member (w ∷ ws) k ≡ eqb (w / 2 ^ k % 2) 1
    here k l = let a : k / 64 ≡ 0 = omega arith in let b : k % 64 ≡ k = omega arith in
        ap₂ (λ (x y : ℕ). eqb (get_or (w ∷ ws) x 0 / 2 ^ y % 2) 1) a b

    there : (i : ℕ) → member (w ∷ ws) (64 + i) ≡ member ws i
    there i = let a : (64 + i) / 64 ≡ suc (i / 64) = omega arith in let b : (64 + i) % 64 ≡ i % 64 = omega arith in
        ap₂ (λ (x y : ℕ). eqb (get_or (w ∷ ws) x 0 / 2 ^ y % 2) 1) a b

-- "Its size is the number of ones in its words": and that is the number of the nodes in it.
pub size_members : (nodes : ℕ) (words : List ℕ) → SetOf nodes words → size words ≡ count nodes (member words)
size_members nodes words s =
    let rest = 64 * length words - nodes in
    let long = s.long in
    let e : 64 * length words ≡ nodes + rest = omega (arith, long) in
    let none : count rest (λ i. member words (nodes + i)) ≡ 0 =
    sum_nil Naturals rest (λ i. bit (member words (nodes + i))) (λ i l. ap bit (s.unused (nodes + i) (omega arith))) in
    let all : size words ≡ count nodes (member words) + count rest (λ i. member words (nodes + i)) =
    size_bits words s.fits ∙ ap (λ (x : ℕ). count x (member words)) e ∙ count_split nodes rest (member words) in
    omega (arith, none, all)
