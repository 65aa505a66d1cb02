-- How long the lines of the key are, and the keys.
use mathlib.Core.Bool.{Bool, true, false, cond}
use mathlib.Core.List.{List, [], ◌∷◌, ◌++◌}
use Prim.Native.Nat.{ℕ, ◌+◌, ◌*◌, ◌<◌, ◌≤◌}
use native.Mathlib.Omega.{arith}
use lib.ListN.{length, length-append}
use lib.IntN.{ℤ}
use Rattle.integers.specs.inner.Limited.{Limited}
use Rattle.flows.specs.ProvingSet.{member}
use Rattle.texts.specs.Decimal.{decimal, number}
use Rattle.texts.specs.Lines.{lines}
use Rattle.texts.proofs.Length.{decimal_length, number_length}
use Rattle.texts.proofs.Joined.{lines_length}
use Rattle.key_text.specs.Text.{edge_line, can_line, can_text, node_line, cannot_line, cannot_text, refused_text}

-- ── lines ──
-- three digits, a blank, a sign and seven digits, a line feed
pub edge_line_length : (e : ℕ) (flow : ℤ) → e < 1000 → Limited 1000000 flow → length (edge_line e flow) ≤ 13
unfolding edge_line
edge_line_length e flow h l =
    let first = decimal_length 2 e (omega arith) in
    let second = number_length 6 1000000 flow (omega arith) l in
    let a = length-append (decimal e) (32 ∷ (number flow ++ (10 ∷ []))) in
    let b = length-append (number flow) (10 ∷ []) in
    omega (arith, first, second, a, b)

pub node_line_length : (words : List ℕ) (v : ℕ) → v < 1000 → length (node_line words v) ≤ 4
unfolding node_line
node_line_length words v h = by (member words v)
  where
    by : (b : Bool) → length (cond b (decimal v ++ (10 ∷ [])) []) ≤ 4
    by true = let first = decimal_length 2 v (omega arith) in let a = length-append (decimal v) (10 ∷ []) in omega (arith, first, a)
    by false = omega arith

-- "can ", a sign and nine digits, a line feed
pub can_line_length : (value : ℤ) → Limited 600000000 value → length (can_line value) ≤ 15
unfolding can_line
can_line_length value l =
    let n = number_length 8 600000000 value (omega arith) l in
    let a = length-append (number value) (10 ∷ []) in
    omega (arith, n, a)

-- "cannot ", a sign and nine digits, a blank, five digits, a line feed
pub cannot_line_length : (value : ℤ) (size : ℕ) → size < 65536 → Limited 600000000 value → length (cannot_line value size) ≤ 24
unfolding cannot_line
cannot_line_length value size h l =
    let n = number_length 8 600000000 value (omega arith) l in
    let m = decimal_length 4 size (omega arith) in
    let a = length-append (number value) (32 ∷ (decimal size ++ (10 ∷ []))) in
    let b = length-append (decimal size) (10 ∷ []) in
    omega (arith, n, m, a, b)

-- ── keys ──
pub can_text_length : (value : ℤ) (edges : ℕ) (x : ℕ → ℤ) → Limited 600000000 value → edges ≤ 512
    → ((e : ℕ) → e < edges → Limited 1000000 (x e)) → length (can_text value edges x) ≤ 15 + 13 * edges
unfolding can_text
can_text_length value edges x l few limited =
    let line : ℕ → List ℕ = λ e. edge_line e (x e) in
    let all = lines_length 13 edges line (λ i h. edge_line_length i (x i) (omega arith) (limited i h)) in
    let first = can_line_length value l in
    let n = length-append (can_line value) (lines edges line) in
    omega (arith, all, first, n)

pub cannot_text_length : (value : ℤ) (size nodes : ℕ) (words : List ℕ) → size < 65536
    → Limited 600000000 value → nodes ≤ 513 → length (cannot_text value size nodes words) ≤ 24 + 4 * nodes
unfolding cannot_text
cannot_text_length value size nodes words h l few =
    let all = lines_length 4 nodes (node_line words) (λ i g. node_line_length words i (omega arith)) in
    let first = cannot_line_length value size h l in
    let n = length-append (cannot_line value size) (lines nodes (node_line words)) in
    omega (arith, all, first, n)

pub refused_text_length : (k : ℕ) → k < 256 → length (refused_text k) ≤ 12
unfolding refused_text
refused_text_length k h =
    let n = decimal_length 2 k (omega arith) in
    let a = length-append (decimal k) (10 ∷ []) in
    omega (arith, n, a)
