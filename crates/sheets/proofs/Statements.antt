-- The statements of specs/Statements.antt, proved by proofs/ThereAndBack.antt, where the slices are tables of the sheet's fields and the sheet is the bytes
-- of a drawing: here the slices are what Read left, and the sheet is what Write wrote.
use mathlib.Core.Path.{◌≡◌, sym, ◌∙◌, ap, subst}
use mathlib.Core.List.{List}
use Prim.Native.Nat.{ℕ, ◌*◌}
use lib.ListN.{take, drop}
use lib.Seq.{take_at}
use lib.IntN.{ℤ}
use Rattle.std.specs.Prelude.{Result, Ok}
use Rattle.refusals.specs.Order.{NoneOf}
use Rattle.refusals.specs.declared.Refusal.{Refusal}
use Rattle.refusals.proofs.Order.{append_none}
use Rattle.arrays.specs.Filled.{tabulate, filled}
use Rattle.arrays.proofs.Tabulate.{length_tabulate}
use Rattle.records.specs.Sheet.{kind_of, nodes_of, edges_of, outer_of, tail_of, rotation_of, capacity_of}
use Rattle.records.proofs.Heads.{kind_one_outer}
use Rattle.sheets.specs.Open.{sheet_checks}
use Rattle.sheets.specs.Read.{read_checks, Reads}
use Rattle.sheets.specs.Write.{Writes}
use Rattle.sheets.specs.declared.Counts.{Counts}
use Rattle.sheets.specs.Statements.{ReadAndWrite}
use Rattle.sheets.proofs.ThereAndBack as back

-- the first elements of a filled slice are the table
front_of : {A : Type 0} (n m : ℕ) (f : ℕ → A) (old new : List A) → new ≡ filled m f old → n ≡ m → take n new ≡ tabulate m f
front_of n m f old new h e = ap (take n) h ∙ take_at (tabulate m f) (drop m old) n (length_tabulate m f ∙ sym e)

-- a sheet that Read read is accepted
read_accepted : (s tails rotations : List ℕ) (capacities : List ℤ) → NoneOf (read_checks s tails rotations capacities) → NoneOf (sheet_checks s)
unfolding read_checks
read_accepted s tails rotations capacities h = (append_none (sheet_checks s) _ h).0

-- Write of what Read left is Write of the tables
module _ (s tails rotations tails' rotations' : List ℕ) (capacities capacities' : List ℤ) (told : Counts)
    (read : Reads s tails rotations capacities tails' rotations' capacities' (Ok told)) (out out' : List ℕ) (a : Result ℕ Refusal) where
  abbrev m : ℕ
  m = 2 * edges_of s

  all : 2 * told.edges ≡ 2 * edges_of s
  all = ap (λ e. 2 * e) read.2

  of_tables : Writes told.nodes told.outer (take (2 * told.edges) tails') (take (2 * told.edges) rotations') (take (2 * told.edges) capacities') out out' a
      → Writes (nodes_of s) (outer_of s) (tabulate (2 * edges_of s) (tail_of s)) (tabulate (2 * edges_of s) (rotation_of s))
      (tabulate (2 * edges_of s) (capacity_of s)) out out' a
  of_tables h =
      let t = front_of (2 * told.edges) m (tail_of s) tails tails' read.4 all in
      let r = front_of (2 * told.edges) m (rotation_of s) rotations rotations' read.5 all in
      let c = front_of (2 * told.edges) m (capacity_of s) capacities capacities' read.6 all in
      subst (λ n. Writes n (outer_of s) (tabulate m (tail_of s)) (tabulate m (rotation_of s)) (tabulate m (capacity_of s)) out out' a) read.1
      (subst (λ o. Writes told.nodes o (tabulate m (tail_of s)) (tabulate m (rotation_of s)) (tabulate m (capacity_of s)) out out' a) read.3
      (subst (λ l. Writes told.nodes told.outer l (tabulate m (rotation_of s)) (tabulate m (capacity_of s)) out out' a) t
      (subst (λ l. Writes told.nodes told.outer (take (2 * told.edges) tails') l (tabulate m (capacity_of s)) out out' a) r
      (subst (λ l. Writes told.nodes told.outer (take (2 * told.edges) tails') (take (2 * told.edges) rotations') l out out' a) c h))))

pub read_and_write : ReadAndWrite
read_and_write = record {
  write_undoes_read = λ s tails rotations tails' rotations' capacities capacities' told bytes four read out out' a room h.
      back.write_undoes_read s (read_accepted s tails rotations capacities read.0) bytes four out out' room a
      (of_tables s tails rotations tails' rotations' capacities capacities' told read out out' a h);
  kind_one_again = λ s tails rotations tails' rotations' capacities capacities' told bytes one read out out' a room h.
      let w = back.kind_one_again s (read_accepted s tails rotations capacities read.0) bytes one out out' room a
      (of_tables s tails rotations tails' rotations' capacities capacities' told read out out' a h) in
      (read.3 ∙ kind_one_outer s one, w.0, w.1, w.2);
  written_accepted = λ nodes outer tails rotations capacities out out' n h.
      subst (λ s. NoneOf (sheet_checks s) × (kind_of s ≡ 4)) (sym (back.written_front nodes outer tails rotations capacities out h.0 out' n h))
      (back.written_accepted nodes outer tails rotations capacities out h.0, back.written_kind nodes outer tails rotations capacities out h.0);
  read_undoes_write = λ nodes outer tails rotations capacities out out' n h t r t' r' c c' a room-t room-r room-c read.
      back.read_undoes_write nodes outer tails rotations capacities out h.0 t r t' r' c c' room-t room-r room-c a
      (subst (λ s. Reads s t r c t' r' c' a) (back.written_front nodes outer tails rotations capacities out h.0 out' n h) read);
}
