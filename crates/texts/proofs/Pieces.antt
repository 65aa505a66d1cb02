-- Bytes put at a place, piece by piece: two pieces in a row are one, and a byte more, behind or before, lengthens a piece.
use mathlib.Core.Path.{◌≡◌, sym, ap, ◌∙◌}
use mathlib.Core.List.{List, [], ◌∷◌, ◌++◌}
use Prim.Native.Nat.{ℕ, suc, ◌+◌, ◌<◌, ◌≤◌}
use native.Mathlib.Nat.{add-zero}
use native.Mathlib.Numerals.{add-one}
use native.Mathlib.Omega.{arith}
use lib.ListN.{length, get_or, set, take, drop, length-append, take-append-drop}
use lib.Seq.{take-suc, append_snoc, set_at, length-take-le, sets, length-sets}
use Rattle.fields.specs.Fields.{put}
use Rattle.fields.proofs.Laws.{put_sets}

sets_append : (xs ys l : List ℕ) (at : ℕ) → sets l at (xs ++ ys) ≡ sets (sets l at xs) (at + length xs) ys
sets_append [] ys l at = ap (λ k. sets l k ys) (sym (add-zero at))
sets_append (a ∷ xs) ys l at =
    let place : suc at + length xs ≡ at + suc (length xs) = omega arith in
    sets_append xs ys (set l at a) (suc at) ∙ ap (λ k. sets (sets (set l at a) (suc at) xs) k ys) place

-- put at a place, then at the place behind
pub put_append : (at : ℕ) (xs ys l : List ℕ) → at + length xs + length ys ≤ length l → put at (xs ++ ys) l ≡ put (at + length xs) ys (put at xs l)
put_append at xs ys l h =
    sym (put_sets at (xs ++ ys) l (simp length-append (omega arith)))
    ∙ sets_append xs ys l at
    ∙ put_sets (at + length xs) ys (sets l at xs) (omega (arith, length-sets l at xs))
    ∙ ap (put (at + length xs) ys) (put_sets at xs l (omega arith))

pub put_none : (at : ℕ) (l : List ℕ) → put at [] l ≡ l
unfolding put
put_none at l = ap (λ k. take at l ++ drop k l) (add-zero at) ∙ take-append-drop at l

-- a store before what is put
pub put_before : (at a : ℕ) (bs l : List ℕ) → at < length l → set (put (at + 1) bs l) at a ≡ put at (a ∷ bs) l
unfolding put
put_before at a bs l h =
    let rest = bs ++ drop (at + 1 + length bs) l in
    let behind : at + 1 + length bs ≡ at + suc (length bs) = omega arith in
    ap (λ t. set (t ++ rest) at a) (ap (λ k. take k l) (add-one at) ∙ take-suc l at 0 h)
    ∙ ap (λ s. set s at a) (append_snoc (take at l) (get_or l at 0) rest)
    ∙ set_at (take at l) (get_or l at 0) rest a at (length-take-le at l (omega arith))
    ∙ ap (λ k. take at l ++ a ∷ (bs ++ drop k l)) behind

-- a store, and the bytes behind it
pub put_behind : (at a : ℕ) (bs l : List ℕ) → at + 1 + length bs ≤ length l → put (at + 1) bs (set l at a) ≡ put at (a ∷ bs) l
put_behind at a bs l h = ap (put (at + 1) bs) (put_sets at (a ∷ []) l (omega arith)) ∙ sym (put_append at (a ∷ []) bs l h)
