-- A record of a sheet as it is read: its checks are made, and where they pass its fields are told.
use Rattle.std.specs.Prelude.{ℕ, ◌+◌, ◌*◌, ◌≡◌, List, Result, Ok, Err}
use Rattle.refusals.specs.Order.{NoneOf, FirstOf}
use Rattle.refusals.specs.declared.Refusal.{Refusal}
use Rattle.records.specs.Sheet.{headLength, nodes_of, edges_of, outer_of, field16, field32, head_checks, edge_record_checks}
use Rattle.records.specs.declared.Head.{Head}
use Rattle.records.specs.declared.Edge.{Edge}

-- the length and the numbers of the sheet's head
pub record HeadOf (s : List ℕ) (h : Head) : Type 0 where
  pub length_is : h.length ≡ headLength s
  pub nodes_are : h.nodes ≡ nodes_of s
  pub edges_are : h.edges ≡ edges_of s
  pub outer_is : h.outer ≡ outer_of s

abbrev pub HeadRead : List ℕ → Result Head Refusal → Type 0
HeadRead s (Ok h) = NoneOf (head_checks s) × HeadOf s h
HeadRead s (Err r) = FirstOf (head_checks s) r.number r.place

-- the fields of edge e: those of its dart 2e, and of the other
pub record FieldsOf (s : List ℕ) (e : ℕ) (r : Edge) : Type 0 where
  pub tail_is : r.tail ≡ field16 s 1 (2 * e)
  pub head_is : r.head ≡ field16 s 1 (2 * e + 1)
  pub rotation_is : r.rotation ≡ field16 s 5 (2 * e)
  pub back_is : r.back_rotation ≡ field16 s 5 (2 * e + 1)
  pub forward_is : r.forward ≡ field32 s 9 (2 * e)
  pub backward_is : r.backward ≡ field32 s 9 (2 * e + 1)

abbrev pub EdgeRead : List ℕ → (e : ℕ) → Result Edge Refusal → Type 0
EdgeRead s e (Ok edge) = NoneOf (edge_record_checks s e) × FieldsOf s e edge
EdgeRead s e (Err r) = FirstOf (edge_record_checks s e) r.number r.place
