-- Cut capacities are submodular where the two capacities of each edge add to zero or more (what check 7 leaves): the union and the intersection of two sets
-- have together no more than the two sets. Edge by edge; only an edge from one set's own part to the other's makes a difference.
use mathlib.Core.Path.{◌≡◌, ◌∙◌, ap₂}
use mathlib.Core.Bool.{Bool, true, false, not, ◌&&◌, ◌||◌}
use Prim.Native.Nat.{ℕ, ◌+◌, ◌*◌, ◌<◌}
use native.Mathlib.Omega.{arith}
use lib.IntN.{ℤ, pos, ◌+ℤ◌}
use lib.Signed.{◌≤ℤ◌}
use Rattle.integers.specs.Sum.{Integers, sumℤ, when}
use Rattle.integers.proofs.Omega.{atoms₂, parts, at_most, from_at_most}
use Rattle.integers.proofs.Sums.{sum_ext, sum_add, sum_pairs}
use Rattle.integers.proofs.IntegerSums.{sum_le}
use Rattle.maps.specs.Dart.{rev}
use Rattle.maps.specs.Map.{Map, darts}
use Rattle.maps.specs.Cut.{leaves, cut, union, intersection}
use Rattle.maps.proofs.Darts.{rev_even, rev_odd}

-- what an edge with capacities x, y gives to a cut that holds its tail (p) and its head (q)
abbrev across : Bool → Bool → ℤ → ℤ → ℤ
across p q x y = when (p && not q) x +ℤ when (q && not p) y

-- its tail is in A (a) and in B (b), its head in A (c) and in B (d)
edge_case : (a b c d : Bool) (x y : ℤ) → pos 0 ≤ℤ (x +ℤ y)
    → (across (a || b) (c || d) x y +ℤ across (a && b) (c && d) x y) ≤ℤ (across a c x y +ℤ across b d x y)
edge_case true true true true x y h = let a = atoms₂ x y in at_most (search parts) (omega (arith, from_at_most h (search parts)))
edge_case true true true false x y h = let a = atoms₂ x y in at_most (search parts) (omega (arith, from_at_most h (search parts)))
edge_case true true false true x y h = let a = atoms₂ x y in at_most (search parts) (omega (arith, from_at_most h (search parts)))
edge_case true true false false x y h = let a = atoms₂ x y in at_most (search parts) (omega (arith, from_at_most h (search parts)))
edge_case true false true true x y h = let a = atoms₂ x y in at_most (search parts) (omega (arith, from_at_most h (search parts)))
edge_case true false true false x y h = let a = atoms₂ x y in at_most (search parts) (omega (arith, from_at_most h (search parts)))
edge_case true false false true x y h = let a = atoms₂ x y in at_most (search parts) (omega (arith, from_at_most h (search parts)))
edge_case true false false false x y h = let a = atoms₂ x y in at_most (search parts) (omega (arith, from_at_most h (search parts)))
edge_case false true true true x y h = let a = atoms₂ x y in at_most (search parts) (omega (arith, from_at_most h (search parts)))
edge_case false true true false x y h = let a = atoms₂ x y in at_most (search parts) (omega (arith, from_at_most h (search parts)))
edge_case false true false true x y h = let a = atoms₂ x y in at_most (search parts) (omega (arith, from_at_most h (search parts)))
edge_case false true false false x y h = let a = atoms₂ x y in at_most (search parts) (omega (arith, from_at_most h (search parts)))
edge_case false false true true x y h = let a = atoms₂ x y in at_most (search parts) (omega (arith, from_at_most h (search parts)))
edge_case false false true false x y h = let a = atoms₂ x y in at_most (search parts) (omega (arith, from_at_most h (search parts)))
edge_case false false false true x y h = let a = atoms₂ x y in at_most (search parts) (omega (arith, from_at_most h (search parts)))
edge_case false false false false x y h = let a = atoms₂ x y in at_most (search parts) (omega (arith, from_at_most h (search parts)))

module _ (𝓜 : Map) (c : ℕ → ℤ) where
  term : (ℕ → Bool) → ℕ → ℤ
  term S e = across (S (𝓜.tail (2 * e))) (S (𝓜.tail (2 * e + 1))) (c (2 * e)) (c (2 * e + 1))

  cut_edges : (S : ℕ → Bool) → cut 𝓜 c S ≡ sumℤ 𝓜.edges (term S)
  unfolding cut term
  cut_edges S =
      sum_pairs Integers 𝓜.edges (λ d. when (leaves 𝓜 S d) (c d))
      ∙ sum_ext Integers 𝓜.edges
      (λ e. when (leaves 𝓜 S (2 * e)) (c (2 * e)) +ℤ when (leaves 𝓜 S (2 * e + 1)) (c (2 * e + 1)))
      (term S)
      (λ e l. ap₂
      (λ x y. when (S (𝓜.tail (2 * e)) && not (S (𝓜.tail x))) (c (2 * e)) +ℤ when (S (𝓜.tail (2 * e + 1)) && not (S (𝓜.tail y))) (c (2 * e + 1)))
      (rev_even e) (rev_odd e))

  pub submodular : ((d : ℕ) → d < darts 𝓜 → pos 0 ≤ℤ (c d +ℤ c (rev d))) → (A B : ℕ → Bool)
      → (cut 𝓜 c (union A B) +ℤ cut 𝓜 c (intersection A B)) ≤ℤ (cut 𝓜 c A +ℤ cut 𝓜 c B)
  unfolding term
  submodular h A B =
      rw (
        cut_edges (union A B),
        cut_edges (intersection A B),
        cut_edges A,
        cut_edges B,
        ← sum_add Integers 𝓜.edges (term (union A B)) (term (intersection A B)),
        ← sum_add Integers 𝓜.edges (term A) (term B),
      )
      (sum_le 𝓜.edges (λ e. term (union A B) e +ℤ term (intersection A B) e) (λ e. term A e +ℤ term B e)
      (λ e l.
      edge_case (A (𝓜.tail (2 * e))) (B (𝓜.tail (2 * e))) (A (𝓜.tail (2 * e + 1))) (B (𝓜.tail (2 * e + 1))) (c (2 * e)) (c (2 * e + 1))
      (rw (rev_even e) at (h (2 * e) (omega arith)))))
