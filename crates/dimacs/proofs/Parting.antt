-- Bytes parted at a byte: pieces that do not hold it come back, and so do the fields of a line. Numbers hold digits only: no space and no line feed.
use mathlib.Core.Path.{◌≡◌, refl, ◌∙◌, ap}
use mathlib.Core.Bool.{Bool, true, not, ◌&&◌}
use mathlib.Core.List.{List, [], ◌∷◌, ◌++◌}
use Prim.Native.Nat.{ℕ, ◌/◌, ◌%◌, ◌≤◌, ◌<◌}
use native.Mathlib.Omega.{arith}
use lib.Dec.{eqb}
use lib.ListN.{length}
use Rattle.integers.proofs.Tests.{eqb_true, eqb_false, and_both, and_true, not_true}
use Rattle.texts.specs.Decimal.{digit, decimal}
use Rattle.texts.proofs.Digits.{decimal_one, decimal_more, by_digits}
use Rattle.texts.proofs.Length.{decimal_positive}
use Rattle.dimacs.specs.Reading.{on_first, pieces, not_empty, fields_of}

-- no byte of the list is b
unfoldable pub free : ℕ → List ℕ → Bool
free b [] = true
free b (x ∷ xs) = not (eqb x b) && free b xs

pub free_append : (b : ℕ) (xs ys : List ℕ) → free b xs ≡ true → free b ys ≡ true → free b (xs ++ ys) ≡ true
unfolding free
free_append b [] ys h g = g
free_append b (x ∷ xs) ys h g = let e = and_both (not (eqb x b)) (free b xs) h in and_true e.0 (free_append b xs ys e.1 g)

-- a piece that the byte ends, and the last one
pub pieces_more : (b : ℕ) (xs ys : List ℕ) → free b xs ≡ true → pieces b (xs ++ (b ∷ ys)) ≡ xs ∷ pieces b ys
unfolding free pieces on_first
pieces_more b [] ys h = rw (eqb_true b b refl)
pieces_more b (x ∷ xs) ys h =
    let e = and_both (not (eqb x b)) (free b xs) h in
    rw (not_true (eqb x b) e.0) (ap (on_first x) (pieces_more b xs ys e.1))

pub pieces_last : (b : ℕ) (xs : List ℕ) → free b xs ≡ true → pieces b xs ≡ xs ∷ []
unfolding free pieces on_first
pieces_last b [] h = refl
pieces_last b (x ∷ xs) h =
    let e = and_both (not (eqb x b)) (free b xs) h in
    rw (not_true (eqb x b) e.0) (ap (on_first x) (pieces_last b xs e.1))

-- ── fields ──
not-empty : (xs : List ℕ) (ps : List (List ℕ)) → 0 < length xs → not_empty (xs ∷ ps) ≡ xs ∷ not_empty ps
unfolding not_empty
not-empty [] ps h = absurd (omega (arith, h))
not-empty (x ∷ xs) ps h = refl

pub field_more : (xs rest : List ℕ) → 0 < length xs → free 32 xs ≡ true → fields_of (xs ++ (32 ∷ rest)) ≡ xs ∷ fields_of rest
field_more xs rest h g = ap not_empty (pieces_more 32 xs rest g) ∙ not-empty xs (pieces 32 rest) h

pub field_last : (xs : List ℕ) → 0 < length xs → free 32 xs ≡ true → fields_of xs ≡ xs ∷ []
unfolding not_empty
field_last xs h g = ap not_empty (pieces_last 32 xs g) ∙ not-empty xs [] h

-- ── numbers ──
pub decimal_free : (b : ℕ) → b < 48 → (n : ℕ) → free b (decimal n) ≡ true
unfolding free
decimal_free b low = by_digits (λ n. free b (decimal n) ≡ true) one more
  where
    last : (k : ℕ) → free b (digit k ∷ []) ≡ true
    last k = rw (eqb_false (digit k) b (λ e. omega (arith, e)))

    one : (n : ℕ) → n < 10 → free b (decimal n) ≡ true
    one n h = ap (free b) (decimal_one n h) ∙ last n

    more : (n : ℕ) → 10 ≤ n → free b (decimal (n / 10)) ≡ true → free b (decimal n) ≡ true
    more n h before = ap (free b) (decimal_more n h) ∙ free_append b (decimal (n / 10)) (digit (n % 10) ∷ []) before (last (n % 10))

pub number_more : (n : ℕ) (rest : List ℕ) → fields_of (decimal n ++ (32 ∷ rest)) ≡ decimal n ∷ fields_of rest
number_more n rest = field_more (decimal n) rest (decimal_positive n) (decimal_free 32 (omega arith) n)

pub number_last : (n : ℕ) → fields_of (decimal n) ≡ decimal n ∷ []
number_last n = field_last (decimal n) (decimal_positive n) (decimal_free 32 (omega arith) n)
