-- The head of a sheet and the record of an edge: fields written one behind another stand as one piece.
use mathlib.Core.Path.{◌≡◌, refl, ◌∙◌, ap}
use mathlib.Core.List.{List, [], ◌∷◌, ◌++◌, append_assoc}
use Prim.Native.Nat.{ℕ, ◌+◌, ◌≤◌}
use native.Mathlib.Omega.{arith}
use lib.ListN.{length}
use lib.IntN.{ℤ}
use Rattle.fields.specs.Fields.{put, le16, le32}
use Rattle.fields.proofs.Laws.{put_length, le16_length, le32_length}
use Rattle.records.specs.Record.{record_length}
use Rattle.records.specs.Encode.{outer_head_bytes, edge_bytes}
use Rattle.sheets.proofs.Placing.{Placed, placed_first, placed_next}

-- ── one more field behind what stands at a place ──
pub placed_16 : {old : List ℕ} {at n : ℕ} {bs l next : List ℕ} → Placed old at bs n l → (v : ℕ) → next ≡ put (at + n) (le16 v) l → at + n + 2 ≤ length old
    → Placed old at (bs ++ le16 v) (n + 2) next
placed_16 p v e room = placed_next p _ 2 (le16 v) _ e refl (le16_length v) room

pub placed_32 : {old : List ℕ} {at n : ℕ} {bs l next : List ℕ} → Placed old at bs n l → (v : ℤ) → next ≡ put (at + n) (le32 v) l → at + n + 4 ≤ length old
    → Placed old at (bs ++ le32 v) (n + 4) next
placed_32 p v e room = placed_next p _ 4 (le32 v) _ e refl (le32_length v) room

-- ── the head: its kind, the nodes, the edges, the outer dart ──
pub head_placed : (old : List ℕ) {l₁ l₂ l₃ l₄ : List ℕ} (nodes edges outer : ℕ)
    → record_length 4 ≤ length old
    → l₁ ≡ put 0 (4 ∷ []) old
    → l₂ ≡ put 1 (le16 nodes) l₁
    → l₃ ≡ put 3 (le16 edges) l₂
    → l₄ ≡ put 5 (le16 outer) l₃
    → l₄ ≡ put 0 (outer_head_bytes nodes edges outer) old
head_placed old {l₁} {l₂} {l₃} {l₄} nodes edges outer room e₁ e₂ e₃ e₄ = whole.bytes ∙ ap (λ bs. put 0 bs old) (simp append_assoc)
  where
    counted : Placed old 0 (((4 ∷ []) ++ le16 nodes) ++ le16 edges) 5 l₃
    counted = placed_16 (placed_16 (placed_first e₁ refl) nodes e₂ (omega arith)) edges e₃ (omega arith)

    whole : Placed old 0 ((((4 ∷ []) ++ le16 nodes) ++ le16 edges) ++ le16 outer) 7 l₄
    whole = placed_16 counted outer e₄ (omega arith)

-- ── an edge: its kind, both tails, both rotations, both capacities ──
pub edge_placed : (old : List ℕ) {l₁ l₂ l₃ l₄ l₅ l₆ l₇ : List ℕ} (place tail head rotation back : ℕ) (forward backward : ℤ)
    → place + record_length 2 ≤ length old
    → l₁ ≡ put place (2 ∷ []) old
    → l₂ ≡ put (place + 1) (le16 tail) l₁
    → l₃ ≡ put (place + 3) (le16 head) l₂
    → l₄ ≡ put (place + 5) (le16 rotation) l₃
    → l₅ ≡ put (place + 7) (le16 back) l₄
    → l₆ ≡ put (place + 9) (le32 forward) l₅
    → l₇ ≡ put (place + 13) (le32 backward) l₆
    → l₇ ≡ put place (edge_bytes tail head rotation back forward backward) old
edge_placed old {l₁} {l₂} {l₃} {l₄} {l₅} {l₆} {l₇} place tail head rotation back forward backward room e₁ e₂ e₃ e₄ e₅ e₆ e₇ =
    whole.bytes ∙ ap (λ bs. put place bs old) (simp append_assoc)
  where
    tails : Placed old place (((2 ∷ []) ++ le16 tail) ++ le16 head) 5 l₃
    tails = placed_16 (placed_16 (placed_first e₁ refl) tail e₂ (omega arith)) head e₃ (omega arith)

    rotations : Placed old place (((((2 ∷ []) ++ le16 tail) ++ le16 head) ++ le16 rotation) ++ le16 back) 9 l₅
    rotations = placed_16 (placed_16 tails rotation e₄ (omega arith)) back e₅ (omega arith)

    whole : Placed old place (((((((2 ∷ []) ++ le16 tail) ++ le16 head) ++ le16 rotation) ++ le16 back) ++ le32 forward) ++ le32 backward) 17 l₇
    whole = placed_32 (placed_32 rotations forward e₆ (omega arith)) backward e₇ (omega arith)

-- the head leaves the length as it was
pub head_kept : (nodes edges outer : ℕ) (old l : List ℕ) → l ≡ put 0 (outer_head_bytes nodes edges outer) old
    → record_length 4 ≤ length old → length l ≡ length old
unfolding le16
head_kept nodes edges outer old l h room = ap length h ∙ put_length 0 (outer_head_bytes nodes edges outer) old room
