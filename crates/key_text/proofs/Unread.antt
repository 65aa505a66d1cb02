-- What the program key leaves unread decides nothing: an accepted input has at most 8,720 bytes, and of a longer one the refusal follows from the first 8,721.
use Prim.Native.Nat.{ℕ, ◌≤◌}
use mathlib.Core.Path.{sym, subst}
use mathlib.Core.List.{List, ◌++◌}
use native.Mathlib.Omega.{arith}
use native.Mathlib.Decide.{dec_le}
use lib.ListN.{length, take, length-drop}
use lib.Seq.{take_all}
use Rattle.refusals.specs.Order.{Check, NoneOf, FirstOf}
use Rattle.refusals.proofs.Order.{append_none}
use Rattle.records.specs.Record.{record_length, record_checks}
use Rattle.records.specs.Sheet.{nodes_of}
use Rattle.sheets.specs.Open.{sheet_checks}
use Rattle.sheets.proofs.Accepted.{sheet_bytes}
use Rattle.questions.specs.Question.{end_checks, value_checks}
use Rattle.key_text.specs.Question.{source_of, sink_of, value_of, sheet_of, key_checks}
use Rattle.key_text.specs.Key.{Key, can, cannot, refused}
use Rattle.key_text.proofs.Alike.{Alike, alike_sym, alike_take, alike_drop, record_alike, first_after, first_within, first_sheet, longest_bytes}

-- the checks after the sheet's
abbrev asked : List ℕ → List Check
asked b = end_checks (nodes_of (sheet_of b)) (source_of b) (sink_of b) ++ value_checks (value_of b)

-- 9 bytes of question and 8,711 of sheet
pub longest : (b : List ℕ) → NoneOf (key_checks b) → length b ≤ 8720
unfolding key_checks
longest b none =
    let sheet = (append_none (sheet_checks (sheet_of b)) (asked b) (append_none (record_checks b 3 0) (sheet_checks (sheet_of b) ++ asked b) none).1).0 in
    omega (arith, length-drop (record_length 3) b, longest_bytes (sheet_of b) (sheet_bytes (sheet_of b) sheet))

module _ (b b' : List ℕ) (h : Alike 8720 b b') where
  sheets : Alike 8711 (sheet_of b) (sheet_of b')
  sheets = alike_drop (record_length 3) 8711 b b' h

  first_key : (k p : ℕ) → FirstOf (key_checks b) k p → FirstOf (key_checks b') k p
  unfolding key_checks
  first_key k p =
      first_after (record_checks b 3 0) (record_checks b' 3 0) (sheet_checks (sheet_of b) ++ asked b) (sheet_checks (sheet_of b') ++ asked b') k p
      (record_alike 8720 b b' h 3 0 (omega arith))
      (first_within (sheet_checks (sheet_of b)) (sheet_checks (sheet_of b')) (asked b) (asked b') k p
      (λ none. let most = longest_bytes (sheet_of b) (sheet_bytes (sheet_of b) none) in let more = sheets.longer in omega arith)
      (first_sheet (sheet_of b) (sheet_of b') sheets k p))

  -- neither is accepted, so the key is a refusal, and it is the same one
  same_key : (t : List ℕ) → Key b t → Key b' t
  same_key t (can none x high text) = absurd (omega (arith, longest b none, h.longer))
  same_key t (cannot none words set proves text) = absurd (omega (arith, longest b none, h.longer))
  same_key t (refused k p first text) = refused k p (first_key k p first) text

-- the first n bytes have the keys of all, from 8,721 on
pub unread : (n : ℕ) → 8721 ≤ n → (b t : List ℕ) → (Key b t → Key (take n b) t) × (Key (take n b) t → Key b t)
unread n enough b t = go (dec_le (length b) n)
  where
    go : Dec (length b ≤ n) → (Key b t → Key (take n b) t) × (Key (take n b) t → Key b t)
    go (yes l) = let all = take_all n b l in (subst (λ l. Key l t) (sym all), subst (λ l. Key l t) all)
    go (no l) = let h = alike_take 8720 n b (omega arith) (omega (arith, l)) in (same_key b (take n b) h t, same_key (take n b) b (alike_sym h) t)
