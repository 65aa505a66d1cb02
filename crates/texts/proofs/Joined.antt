-- Pieces of text placed one after another make one piece; the room that each asks, and lines added one by one.
use mathlib.Core.Path.{◌≡◌, refl, sym, ap, ap₂, subst, ◌∙◌}
use mathlib.Core.Logic.{⊎_elim}
use mathlib.Core.List.{List, [], ◌++◌}
use Prim.Native.Nat.{ℕ, zero, suc, ◌+◌, ◌*◌, ◌<◌, ◌≤◌}
use native.Mathlib.Omega.{arith}
use native.Mathlib.Nat.{add-zero, mul-suc}
use native.Mathlib.Numerals.{add-one}
use lib.ListN.{length, drop, length-append}
use Rattle.fields.specs.Fields.{put}
use Rattle.fields.proofs.Laws.{put_length}
use Rattle.texts.specs.Lines.{lines}
use Rattle.texts.specs.inner.Placed.{Placed}
use Rattle.texts.proofs.Digits.{below_or_not}
use Rattle.texts.proofs.Pieces.{put_append, put_none}

-- placed is what it is the text of, under either name
pub placed_as : {A : Type 0} (text : A → List ℕ) {x y : A} (at end : ℕ) (l m : List ℕ) → x ≡ y → Placed at (text x) l m end → Placed at (text y) l m end
placed_as text at end l m e p = subst (λ z. Placed at (text z) l m end) e p

-- nothing yet
pub placed_none : (at : ℕ) (l : List ℕ) → Placed at [] l l at
placed_none at l = (sym (put_none at l), sym (add-zero at))

-- one piece behind another
pub placed_then : (at mid end : ℕ) (xs ys l m n : List ℕ) → Placed at xs l m mid
    → Placed mid ys m n end → at + length xs + length ys ≤ length l → Placed at (xs ++ ys) l n end
placed_then at mid end xs ys l m n p q h = (
  q.0 ∙ ap₂ (λ k z. put k ys z) p.1 p.0 ∙ sym (put_append at xs ys l h),
  let len = length-append xs ys in omega (arith, p.1, q.1, len),
)

-- the slice keeps its length
pub placed_length : (at end : ℕ) (xs l m : List ℕ) → Placed at xs l m end → end ≤ length l → length m ≡ length l
placed_length at end xs l m p h = ap length p.0 ∙ put_length at xs l (omega (arith, p.1))

-- with room for k + r bytes, a piece of at most k leaves room for r
pub placed_room : (k r at end : ℕ) (xs l m : List ℕ) → Placed at xs l m end → length xs ≤ k → at + (k + r) ≤ length l → end + r ≤ length m
placed_room k r at end xs l m p h room = let len = placed_length at end xs l m p (omega (arith, p.1)) in omega (arith, p.1, len)

-- three and four pieces in a row
pub three_placed : (at e₁ e₂ e₃ : ℕ) (a b c l l₁ l₂ l₃ : List ℕ) → Placed at a l l₁ e₁ → Placed e₁ b l₁ l₂ e₂ → Placed e₂ c l₂ l₃ e₃
    → at + length a + length b + length c ≤ length l → Placed at (a ++ (b ++ c)) l l₃ e₃
three_placed at e₁ e₂ e₃ a b c l l₁ l₂ l₃ p q r h =
    let len = placed_length at e₁ a l l₁ p (omega (arith, p.1)) in
    let both = placed_then e₁ e₂ e₃ b c l₁ l₂ l₃ q r (omega (arith, p.1, len)) in
    placed_then at e₁ e₃ a (b ++ c) l l₁ l₃ p both (let n = length-append b c in omega (arith, n))

pub four_placed : (at e₁ e₂ e₃ e₄ : ℕ) (a b c d l l₁ l₂ l₃ l₄ : List ℕ) → Placed at a l l₁ e₁
    → Placed e₁ b l₁ l₂ e₂ → Placed e₂ c l₂ l₃ e₃ → Placed e₃ d l₃ l₄ e₄
    → at + length a + length b + length c + length d ≤ length l → Placed at (a ++ (b ++ (c ++ d))) l l₄ e₄
four_placed at e₁ e₂ e₃ e₄ a b c d l l₁ l₂ l₃ l₄ p q r s h =
    let len = placed_length at e₁ a l l₁ p (omega (arith, p.1)) in
    let rest = three_placed e₁ e₂ e₃ e₄ b c d l₁ l₂ l₃ l₄ q r s (omega (arith, p.1, len)) in
    let n = length-append b (c ++ d) in
    let n' = length-append c d in
    placed_then at e₁ e₄ a (b ++ (c ++ d)) l l₁ l₄ p rest (omega (arith, n, n'))

-- at the front of the slice, with the rest as it was
pub placed_front : (n : ℕ) (t l m : List ℕ) → Placed 0 t l m n → m ≡ t ++ drop n l
unfolding put
placed_front n t l m p = p.0 ∙ ap (λ k. t ++ drop k l) (sym p.1)

-- one line more
pub lines_more : (at mid end i : ℕ) (line : ℕ → List ℕ) (l m n : List ℕ) → Placed at (lines i line) l m mid → Placed mid (line i) m n end
    → at + length (lines i line) + length (line i) ≤ length l → Placed at (lines (i + 1) line) l n end
unfolding lines
lines_more at mid end i line l m n p q h =
    subst (λ k. Placed at (lines k line) l n end) (sym (add-one i)) (placed_then at mid end (lines i line) (line i) l m n p q h)

-- lines of at most `most` bytes
pub lines_length : (most n : ℕ) (line : ℕ → List ℕ) → ((i : ℕ) → i < n → length (line i) ≤ most) → length (lines n line) ≤ most * n
unfolding lines
lines_length most zero line h = omega arith
lines_length most (suc n) line h =
    let so_far = lines_length most n line (λ i l. h i (omega arith)) in
    let last = h n (omega arith) in
    let len = length-append (lines n line) (line n) in
    let all : most * suc n ≡ most * n + most = mul-suc most n in
    omega (arith, so_far, last, len, all)

-- how long the lines are with one more, and with others behind them
pub lines_next : (n : ℕ) (line : ℕ → List ℕ) → length (lines (n + 1) line) ≡ length (lines n line) + length (line n)
unfolding lines
lines_next n line = ap (λ k. length (lines k line)) (add-one n) ∙ length-append (lines n line) (line n)

pub lines_within : (n d : ℕ) (line : ℕ → List ℕ) → d ≤ n → length (lines d line) ≤ length (lines n line)
lines_within zero d line h = let e : d ≡ 0 = omega arith in omega (arith, ap (λ k. length (lines k line)) e)
lines_within (suc n) d line h = ⊎_elim (λ l. omega (arith, lines_within n d line (omega arith), more)) same (below_or_not d (suc n))
  where
    more : length (lines (suc n) line) ≡ length (lines n line) + length (line n)
    more = ap (λ k. length (lines k line)) (sym (add-one n)) ∙ lines_next n line

    same : suc n ≤ d → length (lines d line) ≤ length (lines (suc n) line)
    same l = let e : d ≡ suc n = omega arith in omega (arith, ap (λ k. length (lines k line)) e)

-- lines that agree make one text
pub lines_agree : (n : ℕ) (f g : ℕ → List ℕ) → ((i : ℕ) → i < n → f i ≡ g i) → lines n f ≡ lines n g
unfolding lines
lines_agree zero f g h = refl
lines_agree (suc n) f g h = ap₂ ◌++◌ (lines_agree n f g (λ i l. h i (omega arith))) (h n (omega arith))
