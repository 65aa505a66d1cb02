-- Pieces of text: the line of a node by what the test said, and the bytes behind the record of a question.
use mathlib.Core.Path.{◌≡◌, sym, ap, ◌∙◌}
use mathlib.Core.Bool.{true, false, cond}
use mathlib.Core.List.{List, [], ◌∷◌, ◌++◌}
use Prim.Native.Nat.{ℕ, ◌-◌}
use lib.ListN.{length, take, drop, length-drop}
use lib.Seq.{take-length}
use Rattle.flows.specs.ProvingSet.{member}
use Rattle.records.specs.Record.{record_length}
use Rattle.texts.specs.Decimal.{decimal}
use Rattle.key_text.specs.Text.{node_line}

-- what the test said decides the line of a node
pub in-set : (words : List ℕ) (v : ℕ) → member words v ≡ true → decimal v ++ (10 ∷ []) ≡ node_line words v
unfolding node_line
in-set words v e = sym (ap (λ b. cond b (decimal v ++ (10 ∷ [])) []) e)

pub not_in_set : (words : List ℕ) (v : ℕ) → member words v ≡ false → [] ≡ node_line words v
unfolding node_line
not_in_set words v e = sym (ap (λ b. cond b (decimal v ++ (10 ∷ [])) []) e)

-- the part of the bytes after the question's record is all of them
pub rest : (b : List ℕ) (n : ℕ) → n ≡ record_length 3 → drop (record_length 3) b ≡ take (length b - n) (drop n b)
rest b n e = ap (λ k. drop k b) (sym e) ∙ sym (ap (λ m. take m (drop n b)) (sym (length-drop n b)) ∙ take-length (drop n b))
