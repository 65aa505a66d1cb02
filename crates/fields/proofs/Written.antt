-- Writing a record from its front, field after field: what is done so far stands ahead of what was there before. One lemma for each write of the code.
use mathlib.Core.Path.{◌≡◌, refl, ap, ◌∙◌}
use mathlib.Core.List.{List, [], ◌∷◌, ◌++◌}
use Prim.Native.Nat.{ℕ, ◌+◌, ◌≤◌}
use native.Mathlib.Omega.{arith}
use lib.ListN.{length, drop, length-append, length-drop}
use lib.IntN.{ℤ}
use Rattle.fields.specs.Fields.{le16, le32, put}
use Rattle.fields.proofs.Laws.{put_after, le16_length, le32_length}

-- `now` is `old` with its first `at` bytes written over by `done`
pub record Written (old : List ℕ) (at : ℕ) (done now : List ℕ) : Type 0 where
  pub bytes : now ≡ done ++ drop at old
  pub size : length done ≡ at

pub written_none : (old : List ℕ) → Written old 0 [] old
written_none old = record { bytes = refl; size = refl }

pub written_length : {old : List ℕ} {at : ℕ} {done now : List ℕ} → Written old at done now → at ≤ length old → length now ≡ length old
written_length {old} {at} {done} {now} w h = ap length w.bytes ∙ simp (length-append, length-drop) (omega (arith, w.size))

module _ {old : List ℕ} {at : ℕ} {done now : List ℕ} (w : Written old at done now) where
  pub written_more : (end : ℕ) (bs next : List ℕ) → next ≡ put at bs now → at + length bs ≡ end → Written old end (done ++ bs) next
  written_more end bs next e n =
      record {
        bytes = e ∙ put_after at done bs old now w.bytes w.size ∙ ap (λ k. (done ++ bs) ++ drop k old) n;
        size = length-append done bs ∙ ap (λ k. k + length bs) w.size ∙ n;
      }

  pub written_u8 : (end n : ℕ) (next : List ℕ) → next ≡ put at (n ∷ []) now → at + 1 ≡ end → Written old end (done ++ (n ∷ [])) next
  written_u8 end n next e = written_more end (n ∷ []) next e

  pub written_u16 : (end n : ℕ) (next : List ℕ) → next ≡ put at (le16 n) now → at + 2 ≡ end → Written old end (done ++ le16 n) next
  written_u16 end n next e m = written_more end (le16 n) next e (rw le16_length m)

  pub written_i32 : (end : ℕ) (x : ℤ) (next : List ℕ) → next ≡ put at (le32 x) now → at + 4 ≡ end → Written old end (done ++ le32 x) next
  written_i32 end x next e m = written_more end (le32 x) next e (rw le32_length m)
