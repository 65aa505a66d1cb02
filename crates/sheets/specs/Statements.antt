-- What is said of Read and Write together. Document 01, "Operations": "Each of Read and Write undoes the other." Document 02, Job 6: Write "always writes kind
-- 4, so there and back holds for kind 4 bytes". One record, a field for each statement, about every run of the two operations: all that a field knows of a run
-- is its contract, `Reads` or `Writes`. The proofs are in proofs/Statements.antt.
use Rattle.std.specs.Prelude.{ℕ, ◌+◌, ◌*◌, ◌≤◌, ◌<◌, ◌≡◌, List, ◌∷◌, ◌++◌, length, take, drop, ℤ, Result, Ok}
use Rattle.refusals.specs.Order.{NoneOf}
use Rattle.refusals.specs.declared.Refusal.{Refusal}
use Rattle.arrays.specs.At.{at}
use Rattle.records.specs.Sheet.{kind_of, sheet_drawing}
use Rattle.sheets.specs.Open.{sheet_checks}
use Rattle.sheets.specs.Read.{Reads}
use Rattle.sheets.specs.Write.{edges_in, Writes}
use Rattle.sheets.specs.declared.Counts.{Counts}

-- each element is a byte, as in every slice of bytes
abbrev pub AreBytes : List ℕ → Type 0
AreBytes s = (i : ℕ) → at s i < 256

-- a sheet of kind 1 with a head of kind 4 in its place: that kind, the same counts, dart 0 in two bytes, and the same edges
abbrev pub as_kind_four : List ℕ → List ℕ
as_kind_four s = 4 ∷ (take 4 (drop 1 s) ++ (0 ∷ 0 ∷ drop 5 s))

pub record ReadAndWrite : Type 0 where
  -- of a sheet of kind 4: Write, given the node count, the outer dart and the slices that Read left, writes the sheet again and gives its length: its bytes in
  -- front of the output, the rest as it was. The slices are as long as what Read filled, two elements per edge; the output has room
  pub write_undoes_read : (s tails rotations tails' rotations' : List ℕ) (capacities capacities' : List ℤ) (told : Counts)
      → AreBytes s → kind_of s ≡ 4 → Reads s tails rotations capacities tails' rotations' capacities' (Ok told)
      → (out out' : List ℕ) (answer : Result ℕ Refusal) → length s ≤ length out
      → Writes told.nodes told.outer (take (2 * told.edges) tails') (take (2 * told.edges) rotations') (take (2 * told.edges) capacities') out out' answer
      → (answer ≡ Ok (length s)) × (out' ≡ s ++ drop (length s) out)
  -- of a sheet of kind 1: Read gives dart 0, and Write, given all that, writes the sheet as one of kind 4 that names dart 0, two bytes longer; the drawing is
  -- the same
  pub kind_one_again : (s tails rotations tails' rotations' : List ℕ) (capacities capacities' : List ℤ) (told : Counts)
      → AreBytes s → kind_of s ≡ 1 → Reads s tails rotations capacities tails' rotations' capacities' (Ok told)
      → (out out' : List ℕ) (answer : Result ℕ Refusal) → length s + 2 ≤ length out
      → Writes told.nodes told.outer (take (2 * told.edges) tails') (take (2 * told.edges) rotations') (take (2 * told.edges) capacities') out out' answer
      → (told.outer ≡ 0)
      × (answer ≡ Ok (length s + 2))
      × (out' ≡ as_kind_four s ++ drop (length s + 2) out)
      × (sheet_drawing (as_kind_four s) ≡ sheet_drawing s)
  -- what Write wrote is a sheet that the checks accept, and of kind 4
  pub written_accepted : (nodes outer : ℕ) (tails rotations : List ℕ) (capacities : List ℤ) (out out' : List ℕ) (n : ℕ)
      → Writes nodes outer tails rotations capacities out out' (Ok n) → NoneOf (sheet_checks (take n out')) × (kind_of (take n out') ≡ 4)
  -- and Read, given it, gives the counts and the outer dart and fills in the slices that Write was given: in front of those it is lent, which have room, the
  -- rest as it was
  pub read_undoes_write : (nodes outer : ℕ) (tails rotations : List ℕ) (capacities : List ℤ) (out out' : List ℕ) (n : ℕ)
      → Writes nodes outer tails rotations capacities out out' (Ok n)
      → (t r t' r' : List ℕ) (c c' : List ℤ) (answer : Result Counts Refusal) → length tails ≤ length t → length tails ≤ length r → length tails ≤ length c
      → Reads (take n out') t r c t' r' c' answer
      → (answer ≡ Ok (record { nodes = nodes; edges = edges_in tails; outer = outer }))
      × (t' ≡ tails ++ drop (length tails) t)
      × (r' ≡ rotations ++ drop (length rotations) r)
      × (c' ≡ capacities ++ drop (length capacities) c)
