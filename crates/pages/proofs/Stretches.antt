-- Stretches of one buffer, whatever it holds: where each lies, and what a new stretch i in place of the old one leaves as it was.
use mathlib.Core.Path.{◌≡◌, sym, ap, subst, ◌∙◌}
use mathlib.Core.List.{List, ◌++◌}
use Prim.Native.Nat.{ℕ, ◌+◌, ◌*◌, ◌-◌, ◌≤◌, ◌<◌}
use native.Mathlib.Nat.{suc-mul, mul-le-mul, mul-le-mul_right}
use native.Mathlib.Numerals.{add-one}
use native.Mathlib.Omega.{arith}
use lib.ListN.{length, take, drop, length-append, length-take, length-drop, take-append-drop}
use lib.Seq.{length-take-le, take_at, drop_at, drop-drop, take-append-le, drop-append-le}
use Rattle.pages.specs.Stretch.{stretch, SameFrom}

pub next_start : (size i : ℕ) → (i + 1) * size ≡ i * size + size
next_start size i = subst (λ k. k * size ≡ i * size + size) (sym (add-one i)) (suc-mul i size)

-- stretch i ends before stretch n begins
pub ends_before : (size i n : ℕ) → i < n → i * size + size ≤ n * size
ends_before size i n l = let e = suc-mul i size in let h = mul-le-mul_right size l in omega (arith, e, h)

-- no number here is great
pub small_end : (size i n : ℕ) → i < n → n ≤ 64 → size ≤ 512 → i * size + size ≤ 32768
small_end size i n l few small = omega (arith, ends_before size i n l, mul-le-mul few small)

pub stretch_room : {A : Type 0} (size i n : ℕ) (l l' : List A) → i < n → n * size ≤ length l → SameFrom (i * size) l l' → i * size + size ≤ length l'
stretch_room size i n l l' below room same = omega (arith, ends_before size i n below, same.0)

pub part_length : {A : Type 0} (size i : ℕ) (l : List A) → i * size + size ≤ length l → length (stretch size i l) ≡ size
part_length size i l room = length-take-le size (drop (i * size) l) (simp (length-drop) (omega arith))

-- the same as the code has it, which tells the part by its ends
pub stretch_exact : {A : Type 0} (size i : ℕ) (l : List A) → i * size + size ≤ length l → length (take (i * size + size - i * size) (drop (i * size) l)) ≡ size
stretch_exact size i l room =
    let few : i * size + size - i * size ≤ length (drop (i * size) l) = simp (length-drop) (omega arith) in
    omega (arith, length-take-le (i * size + size - i * size) (drop (i * size) l) few)

-- what lies in the first of two joined lists does not depend on the second
in-front : {A : Type 0} (start size : ℕ) (l xs : List A) → start + size ≤ length l → take size (drop start (l ++ xs)) ≡ take size (drop start l)
in-front start size l xs room =
    ap (take size) (drop-append-le start l xs (omega arith))
    ∙ take-append-le size (drop start l) xs (simp (length-drop) (omega arith))

module _ {A : Type 0} (size i : ℕ) (l ys : List A) (room : i * size + size ≤ length l) (long : length ys ≡ size) where
  -- ys in place of stretch i
  abbrev put : List A
  put = take (i * size) l ++ (ys ++ drop size (drop (i * size) l))

  front_length : length (take (i * size) l) ≡ i * size
  front_length = length-take-le (i * size) l (omega arith)

  from_start : drop (i * size) put ≡ ys ++ drop size (drop (i * size) l)
  from_start = drop_at (take (i * size) l) (ys ++ drop size (drop (i * size) l)) (i * size) front_length

  pub stretch_new : stretch size i put ≡ ys
  stretch_new = ap (take size) from_start ∙ take_at ys (drop size (drop (i * size) l)) size long

  pub stretch_kept : (j : ℕ) → j < i → stretch size j put ≡ stretch size j l
  stretch_kept j below =
      let before : j * size + size ≤ length (take (i * size) l) = omega (arith, front_length, ends_before size j i below) in
      in-front (j * size) size (take (i * size) l) (ys ++ drop size (drop (i * size) l)) before
      ∙ sym (in-front (j * size) size (take (i * size) l) (drop (i * size) l) before)
      ∙ ap (λ (t : List A). stretch size j t) (take-append-drop (i * size) l)

  pub same_behind : SameFrom ((i + 1) * size) l put
  same_behind = (
    simp (length-append, length-take, length-drop) (omega arith),
    subst (λ k. drop k put ≡ drop k l) (sym (next_start size i))
        (sym (drop-drop size (i * size) put)
        ∙ ap (drop size) from_start
        ∙ drop_at ys (drop size (drop (i * size) l)) size long
        ∙ drop-drop size (i * size) l),
  )

-- behind stretch i nothing changed, so nothing behind the next one did
pub same_from_next : {A : Type 0} (size i : ℕ) (l l' : List A) → SameFrom (i * size) l l' → SameFrom ((i + 1) * size) l l'
same_from_next size i l l' h = (
  h.0,
  subst (λ k. drop k l' ≡ drop k l) (sym (next_start size i)) (sym (drop-drop size (i * size) l') ∙ ap (drop size) h.1 ∙ drop-drop size (i * size) l),
)

pub same_then : {A : Type 0} (n : ℕ) (l l' l'' : List A) → SameFrom n l l' → SameFrom n l' l'' → SameFrom n l l''
same_then n l l' l'' g h = (h.0 ∙ g.0, h.1 ∙ g.1)
