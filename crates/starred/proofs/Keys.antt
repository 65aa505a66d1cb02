-- The key's text for a question and a sheet that holds a known drawing: the same facts as of Solve, said of the text.
use mathlib.Core.Path.{◌≡◌, refl, sym, ◌∙◌, ap, ap₂}
use mathlib.Core.List.{List, ◌++◌}
use Prim.Native.Nat.{ℕ, ◌<◌}
use native.Mathlib.Omega.{arith}
use lib.ListN.{length, drop}
use lib.IntN.{ℤ}
use Rattle.refusals.specs.Order.{Check, NoneOf, FirstOf}
use Rattle.refusals.proofs.Order.{none_append, first_left, first_right, first_none, first_one}
use Rattle.fields.specs.Fields.{le16, le_bits, le32}
use Rattle.flows.specs.ProvingSet.{member, size}
use Rattle.maps.specs.Drawing.{Drawing}
use Rattle.records.specs.Record.{record_checks}
use Rattle.records.specs.Sheet.{nodes_of, edges_of, sheet_drawing}
use Rattle.records.proofs.Record.{record_passes}
use Rattle.arrays.specs.At.{atℤ}
use Rattle.sheets.specs.Open.{sheet_checks}
use Rattle.questions.specs.Question.{end_checks, value_checks}
use Rattle.analyser.proofs.Asked.{excludes, one_highest}
use Rattle.texts.proofs.Joined.{lines_agree}
use Rattle.key_text.specs.Question.{source_of, sink_of, value_of, sheet_of, key_checks}
use Rattle.key_text.specs.Text.{can_line, edge_line, can_text, cannot_text, refused_text}
use Rattle.key_text.specs.Key.{Key, can, cannot, refused}
use Rattle.starred.specs.Drawings.{question}
use Rattle.starred.specs.Table.{KeyPrints}
use Rattle.starred.proofs.Sheets.{Good}
use Rattle.starred.proofs.Answers.{CanBy, CannotBy, on_sheet}

-- a question record is whole and of its kind, whatever it asks and whatever follows
pub question_whole : (source sink : ℕ) (value : ℤ) (s : List ℕ) → NoneOf (record_checks (question source sink value ++ s) 3 0)
unfolding question le16 le32 le_bits
question_whole source sink value s = record_passes (question source sink value ++ s) 3 0 refl (omega arith)

-- these bytes have one key, this one
abbrev pub OnlyKey : List ℕ → List ℕ → Type 0
OnlyKey bytes text = (t : List ℕ) → Key bytes t → t ≡ text

-- so it is what is written, whatever the lent text holds
pub key_prints : (b t : List ℕ) → OnlyKey b t → KeyPrints b t
key_prints b t only text text' n p =
    let e = only p.0 p.1 in
    let m : n ≡ length t = sym p.2 ∙ ap length e in
    (m, p.4 ∙ ap₂ (λ (x : List ℕ) (k : ℕ). x ++ drop k text) e m)

-- settings that agree on the edges have one text
can-text : (value : ℤ) (n m : ℕ) (x y : ℕ → ℤ) → n ≡ m → ((e : ℕ) → e < n → x e ≡ y e) → can_text value n x ≡ can_text value m y
unfolding can_text
can-text value n m x y e same =
    ap (λ (l : List ℕ). can_line value ++ l) (lines_agree n (λ i. edge_line i (x i)) (λ i. edge_line i (y i)) (λ i l. ap (edge_line i) (same i l)))
    ∙ ap (λ (k : ℕ). can_text value k y) e

module _ (b : List ℕ) (whole : NoneOf (record_checks b 3 0)) where
  abbrev rest : List Check
  rest = end_checks (nodes_of (sheet_of b)) (source_of b) (sink_of b) ++ value_checks (value_of b)

  pub key_refused : (n : ℕ) → FirstOf (sheet_checks (sheet_of b)) n 0 → OnlyKey b (refused_text n)
  unfolding key_checks
  key_refused n bad t key = go key
    where
      first : FirstOf (key_checks b) n 0
      first = first_right (record_checks b 3 0) (sheet_checks (sheet_of b) ++ rest) n 0 whole (first_left (sheet_checks (sheet_of b)) rest n 0 bad)

      go : Key b t → t ≡ refused_text n
      go (can none x h e) = absurd (first_none (key_checks b) n 0 first none)
      go (cannot none ws h p e) = absurd (first_none (key_checks b) n 0 first none)
      go (refused k p h e) = e ∙ ap refused_text (first_one (key_checks b) k p n 0 h first).0

  module _ {𝓓 : Drawing} (good : Good (sheet_of b) 𝓓) (inside : NoneOf (value_checks (value_of b))) where
    accepted : NoneOf (end_checks (nodes_of (sheet_of b)) (source_of b) (sink_of b)) → NoneOf (key_checks b)
    unfolding key_checks
    accepted two =
        none_append (record_checks b 3 0) (sheet_checks (sheet_of b) ++ rest) whole
        (none_append (sheet_checks (sheet_of b)) rest good.accepted
        (none_append (end_checks (nodes_of (sheet_of b)) (source_of b) (sink_of b)) (value_checks (value_of b)) two inside))

    pub key_can : (settings : List ℤ) → CanBy (source_of b) (sink_of b) (value_of b) settings 𝓓 → OnlyKey b
        (can_text (value_of b) (length settings) (atℤ settings))
    key_can settings by t key = go key
      where
        k : CanBy (source_of b) (sink_of b) (value_of b) settings (sheet_drawing (sheet_of b))
        k = on_sheet good (CanBy (source_of b) (sink_of b) (value_of b) settings) by

        go : Key b t → t ≡ can_text (value_of b) (length settings) (atℤ settings)
        go (can none x h e) =
            e
            ∙ can-text (value_of b) (edges_of (sheet_of b)) (length settings) x (atℤ settings) (sym k.long)
            (one_highest (sheet_of b) good.accepted (source_of b) (sink_of b) k.ends (value_of b) x (atℤ settings) h k.highest)
        go (cannot none ws h p e) =
            absurd (excludes (sheet_of b) good.accepted (source_of b) (sink_of b) k.ends (value_of b) (member ws) p (atℤ settings) k.highest.carries)
        go (refused j p h e) = absurd (first_none (key_checks b) j p h (accepted k.ends))

    pub key_cannot : (words : List ℕ) → CannotBy (source_of b) (sink_of b) (value_of b) words 𝓓
        → OnlyKey b (cannot_text (value_of b) (size words) 𝓓.map.nodes words)
    key_cannot words by t key = go key
      where
        k : CannotBy (source_of b) (sink_of b) (value_of b) words (sheet_drawing (sheet_of b))
        k = on_sheet good (CannotBy (source_of b) (sink_of b) (value_of b) words) by

        go : Key b t → t ≡ cannot_text (value_of b) (size words) 𝓓.map.nodes words
        go (can none x h e) =
            absurd (excludes (sheet_of b) good.accepted (source_of b) (sink_of b) k.ends (value_of b) (member words) k.proves x h.carries)
        go (cannot none ws h p e) =
            e ∙ ap₂ (λ (n : ℕ) (l : List ℕ). cannot_text (value_of b) (size l) n l) (ap (λ (𝓔 : Drawing). 𝓔.map.nodes) good.drawing) (k.only ws h p)
        go (refused j p h e) = absurd (first_none (key_checks b) j p h (accepted k.ends))
