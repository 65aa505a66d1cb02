-- Laws of fields: bytes put at a place, a value read back from its bytes, and the bytes made again from the value that was read.
use mathlib.Core.Path.{◌≡◌, refl, sym, ap, ap₂, ◌∙◌}
use mathlib.Core.List.{List, [], ◌∷◌, ◌++◌, append_assoc}
use Prim.Native.Nat.{ℕ, suc, ◌+◌, ◌/◌, ◌%◌, ◌≤◌, ◌<◌}
use native.Mathlib.Omega.{arith}
use native.Mathlib.Numerals.{add-one, add-two, add-three}
use lib.ListN.{length, get_or, set, take, drop, length-append, length-take, length-drop}
use lib.Seq.{sets, sets-eq, take_at, drop_at, drop-drop, drop-cons, get_or_at, get_or-append-add, length-take-le}
use lib.IntN.{ℤ}
use borrow.Rule.Slice.PartMut.{put_mid}
use mir.Syntax.{w32}
use mir.Val.{SFits, to_z, of_z}
use Rattle.signed.proofs.Laws.{number_of_bits, bits_of_number, bits_below, number_fits}
use Rattle.fields.specs.Fields.{u16_at, u32_at, i32_at, le16, le_bits, le32, put}
use Rattle.fields.proofs.Bytes.{joined16, low16, high16, joined32, first32, second32, third32, fourth32, below32}

-- ── bytes put at a place ──
pub put_length : (at : ℕ) (bs l : List ℕ) → at + length bs ≤ length l → length (put at bs l) ≡ length l
unfolding put
put_length at bs l h = simp (length-append, length-take, length-drop) (omega arith)

-- what is put at the end of what is written lengthens it
pub put_after : (at : ℕ) (pre bs old l : List ℕ) → l ≡ pre ++ drop at old → length pre ≡ at → put at bs l ≡ (pre ++ bs) ++ drop (at + length bs) old
unfolding put
put_after at pre bs old l e n =
    let t : take at l ≡ pre = ap (take at) e ∙ take_at pre (drop at old) at n in
    let d : drop (at + length bs) l ≡ drop (at + length bs) old =
    sym (drop-drop (length bs) at l) ∙ ap (λ x. drop (length bs) (drop at x)) e
    ∙ ap (drop (length bs)) (drop_at pre (drop at old) at n) ∙ drop-drop (length bs) at old in
    ap₂ (λ x y. x ++ (bs ++ y)) t d ∙ sym (append_assoc pre bs (drop (at + length bs) old))

-- stores in a row put their values there
pub put_sets : (at : ℕ) (bs l : List ℕ) → at + length bs ≤ length l → sets l at bs ≡ put at bs l
unfolding put
put_sets at bs l h = sets-eq bs l at h ∙ append_assoc (take at l) bs (drop (at + length bs) l)

pub put_one : (at b : ℕ) (l : List ℕ) → at + 1 ≤ length l → set l at b ≡ put at (b ∷ []) l
put_one at b l = put_sets at (b ∷ []) l

pub put_two : (at a b : ℕ) (l : List ℕ) → at + 2 ≤ length l → set (set l at a) (at + 1) b ≡ put at (a ∷ b ∷ []) l
put_two at a b l h = rw add-one (put_sets at (a ∷ b ∷ []) l h)

pub put_four : (at a b c d : ℕ) (l : List ℕ) → at + 4 ≤ length l → set (set (set (set l at a) (at + 1) b) (at + 2) c) (at + 3) d ≡ put at (a ∷ b ∷ c ∷ d ∷ []) l
put_four at a b c d l h = rw (add-one, add-two, add-three) (put_sets at (a ∷ b ∷ c ∷ d ∷ []) l h)

-- a part of a slice that is written over holds what is put
pub put_part : (at n : ℕ) (l bs part : List ℕ) → part ≡ bs → n ≡ length bs → put_mid at n l part ≡ put at bs l
unfolding put
put_part at n l bs part e m = rw (e, m) (ap (λ x. take at l ++ (bs ++ x)) (drop-drop (length bs) at l))

-- ── the bytes of a value ──
pub le16_length : (n : ℕ) → length (le16 n) ≡ 2
unfolding le16
le16_length n = refl

pub le32_length : (x : ℤ) → length (le32 x) ≡ 4
unfolding le32 le_bits
le32_length x = refl

-- ── written, then read ──
beyond : (pre ys : List ℕ) (at i : ℕ) → length pre ≡ at → get_or (pre ++ ys) (at + i) 0 ≡ get_or ys i 0
beyond pre ys at i e = rw (← e) (get_or-append-add pre ys i 0)

pub u16_of : (n at : ℕ) (pre post : List ℕ) → n < 65536 → length pre ≡ at → u16_at (pre ++ (le16 n ++ post)) at ≡ n
unfolding u16_at le16
u16_of n at pre post h e =
    let bs = n % 256 ∷ n / 256 % 256 ∷ post in
    rw (get_or_at pre (n % 256) (n / 256 % 256 ∷ post) 0 at e, beyond pre bs at 1 e) (joined16 n h)

bits_of : (n at : ℕ) (pre post : List ℕ) → n < 4294967296 → length pre ≡ at → u32_at (pre ++ (le_bits n ++ post)) at ≡ n
unfolding u32_at le_bits
bits_of n at pre post h e =
    let bs = n % 256 ∷ n / 256 % 256 ∷ n / 65536 % 256 ∷ n / 16777216 % 256 ∷ post in
    rw (
      get_or_at pre (n % 256) (n / 256 % 256 ∷ n / 65536 % 256 ∷ n / 16777216 % 256 ∷ post) 0 at e,
      beyond pre bs at 1 e,
      beyond pre bs at 2 e,
      beyond pre bs at 3 e,
    )
    (joined32 n h)

pub i32_of : (x : ℤ) (at : ℕ) (pre post : List ℕ) → SFits w32 x → length pre ≡ at → i32_at (pre ++ (le32 x ++ post)) at ≡ x
unfolding i32_at le32
i32_of x at pre post f e = ap (to_z w32) (bits_of (of_z w32 x) at pre post (bits_below x f) e) ∙ number_of_bits x f

-- read where they were put
pub u16_put : (n at : ℕ) (l : List ℕ) → n < 65536 → at ≤ length l → u16_at (put at (le16 n) l) at ≡ n
unfolding put
u16_put n at l h g = u16_of n at (take at l) (drop (at + length (le16 n)) l) h (length-take-le at l g)

pub i32_put : (x : ℤ) (at : ℕ) (l : List ℕ) → SFits w32 x → at ≤ length l → i32_at (put at (le32 x) l) at ≡ x
unfolding put
i32_put x at l f g = i32_of x at (take at l) (drop (at + length (le32 x)) l) f (length-take-le at l g)

-- ── read, then written ──
two_at : (l : List ℕ) (at : ℕ) → at + 2 ≤ length l → take 2 (drop at l) ≡ get_or l at 0 ∷ get_or l (at + 1) 0 ∷ []
two_at l at h =
    rw (add-one, drop-cons l at 0 (omega arith), drop-cons l (suc at) 0 (omega arith))

four_at : (l : List ℕ) (at : ℕ) → at + 4 ≤ length l → take 4 (drop at l) ≡ get_or l at 0 ∷ get_or l (at + 1) 0 ∷ get_or l (at + 2) 0 ∷ get_or l (at + 3) 0 ∷ []
four_at l at h =
    rw (
      add-one,
      add-two,
      add-three,
      drop-cons l at 0 (omega arith),
      drop-cons l (suc at) 0 (omega arith),
      drop-cons l (suc (suc at)) 0 (omega arith),
      drop-cons l (suc (suc (suc at))) 0 (omega arith),
    )

module _ (l : List ℕ) (at : ℕ) (bytes : (i : ℕ) → get_or l i 0 < 256) where
  pub u16_below : u16_at l at < 65536
  unfolding u16_at
  u16_below = omega (arith, bytes at, bytes (at + 1))

  pub bits_at_below : u32_at l at < 4294967296
  unfolding u32_at
  bits_at_below =
      below32 (get_or l at 0) (get_or l (at + 1) 0) (get_or l (at + 2) 0) (get_or l (at + 3) 0) (bytes at) (bytes (at + 1)) (bytes (at + 2)) (bytes (at + 3))

  pub i32_fits : SFits w32 (i32_at l at)
  unfolding i32_at
  i32_fits = number_fits (u32_at l at) bits_at_below

  pub u16_again : at + 2 ≤ length l → take 2 (drop at l) ≡ le16 (u16_at l at)
  unfolding u16_at le16
  u16_again h =
      let a = get_or l at 0 in
      let b = get_or l (at + 1) 0 in
      rw (low16 a b (bytes at) (bytes (at + 1)), high16 a b (bytes at) (bytes (at + 1))) (two_at l at h)

  bits_again : at + 4 ≤ length l → take 4 (drop at l) ≡ le_bits (u32_at l at)
  unfolding u32_at le_bits
  bits_again h =
      let a = get_or l at 0 in
      let b = get_or l (at + 1) 0 in
      let c = get_or l (at + 2) 0 in
      let d = get_or l (at + 3) 0 in
      let p = bytes at in
      let q = bytes (at + 1) in
      let r = bytes (at + 2) in
      let s = bytes (at + 3) in
      rw (first32 a b c d p q r s, second32 a b c d p q r s, third32 a b c d p q r s, fourth32 a b c d p q r s) (four_at l at h)

  pub i32_again : at + 4 ≤ length l → take 4 (drop at l) ≡ le32 (i32_at l at)
  unfolding i32_at le32
  i32_again h = bits_again h ∙ ap le_bits (sym (bits_of_number (u32_at l at) bits_at_below))
