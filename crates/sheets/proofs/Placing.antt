-- Bytes put one after another: what stands at a place so far, and one more field behind it.
use mathlib.Core.Path.{◌≡◌, sym, ◌∙◌, ap, ap₂}
use mathlib.Core.List.{List, ◌++◌, append_assoc}
use Prim.Native.Nat.{ℕ, ◌+◌, ◌≤◌}
use native.Mathlib.Omega.{arith}
use lib.ListN.{length, take, drop, length-append}
use lib.Seq.{length-take-le}
use Rattle.fields.specs.Fields.{put}
use Rattle.fields.proofs.Laws.{put_after, put_length}

-- the bytes bs, n of them, stand at `at` in l, which was old
pub record Placed (old : List ℕ) (at : ℕ) (bs : List ℕ) (n : ℕ) (l : List ℕ) : Type 0 where
  pub bytes : l ≡ put at bs old
  pub size : length bs ≡ n

pub placed_first : {old : List ℕ} {at n : ℕ} {bs l : List ℕ} → l ≡ put at bs old → length bs ≡ n → Placed old at bs n l
placed_first e s = record { bytes = e; size = s }

pub placed_next : {old : List ℕ} {at n : ℕ} {bs l : List ℕ} → Placed old at bs n l → (place m : ℕ) (cs next : List ℕ)
    → next ≡ put place cs l → place ≡ at + n → length cs ≡ m → at + n + m ≤ length old
    → Placed old at (bs ++ cs) (n + m) next
unfolding put
placed_next {old} {at} {n} {bs} {l} p place m cs next e where_to size room = record { bytes = both; size = length-append bs cs ∙ ap₂ ◌+◌ p.size size }
  where
    pre : List ℕ
    pre = take at old ++ bs

    pre_size : length pre ≡ place
    pre_size = length-append (take at old) bs ∙ ap₂ ◌+◌ (length-take-le at old (omega arith)) p.size ∙ sym where_to

    so_far : l ≡ pre ++ drop place old
    so_far =
        p.bytes ∙ sym (append_assoc (take at old) bs (drop (at + length bs) old)) ∙ ap (λ k. pre ++ drop k old) (ap (λ k. at + k) p.size ∙ sym where_to)

    ends : place + length cs ≡ at + length (bs ++ cs)
    ends = omega (arith, length-append bs cs, p.size)

    both : next ≡ take at old ++ ((bs ++ cs) ++ drop (at + length (bs ++ cs)) old)
    both =
        e
        ∙ put_after place pre cs old l so_far pre_size
        ∙ ap (λ x. x ++ drop (place + length cs) old) (append_assoc (take at old) bs cs)
        ∙ append_assoc (take at old) (bs ++ cs) (drop (place + length cs) old)
        ∙ ap (λ k. take at old ++ ((bs ++ cs) ++ drop k old)) ends

pub placed_length : {old : List ℕ} {at n : ℕ} {bs l : List ℕ} → Placed old at bs n l → at + n ≤ length old → length l ≡ length old
placed_length {old} {at} {n} {bs} {l} p room = ap length p.bytes ∙ put_length at bs old (omega (arith, p.size))
