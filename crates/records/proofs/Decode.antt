-- The drawing read from the bytes of a drawing is that drawing, field by field: from a head of either kind that names the drawing's numbers, and its edges
-- after it.
use mathlib.Core.Path.{◌≡◌, refl, sym, ◌∙◌, subst, fun_ext}
use mathlib.Core.Logic.{◌⊎◌, inl, inr}
use mathlib.Core.List.{List, [], ◌∷◌, ◌++◌}
use Prim.Native.Nat.{ℕ, ◌+◌, ◌*◌, ◌≤◌, ◌<◌}
use native.Mathlib.Omega.{arith}
use native.Mathlib.Decide.{dec_lt}
use lib.ListN.{length, get_or, take, drop}
use lib.IntN.{ℤ}
use mir.Syntax.{w32}
use mir.Val.{SFits}
use Rattle.fields.specs.Fields.{u16_at, i32_at, le16, le_bits, le32}
use Rattle.fields.proofs.Laws.{u16_of}
use Rattle.maps.proofs.Darts.{by_edge}
use Rattle.maps.specs.Drawing.{Drawing}
use Rattle.records.specs.Sheet.{kind_of, headLength, nodes_of, edges_of, edge_after, edge_at, tail_of, rotation_of, capacity_of, outer_of, sheet_drawing}
use Rattle.records.specs.Encode.{encode_head, plain_head, encode_edge, encode_edges, encode, encode_plain}
use Rattle.records.proofs.Fields.{tail_even, tail_odd, rotation_even, rotation_odd, capacity_even, capacity_odd, tail_past, rotation_past, capacity_past}
use Rattle.records.proofs.Places.{edge_length, StandsAt, edge_stands, stands_inside, first_stands, u16_stands, i32_stands}
use Rattle.records.proofs.Heads.{kind_one_outer, kind_four_outer}
use Rattle.records.proofs.Encodable.{Encodable}

-- ── a head of the drawing, and its edges ──
abbrev pub headed : List ℕ → Drawing → List ℕ
headed h 𝓓 = h ++ encode_edges 𝓓 𝓓.map.edges

-- what is read from the head is the drawing's
pub record HeadOf (𝓓 : Drawing) (h : List ℕ) : Type 0 where
  pub kind : (kind_of (headed h 𝓓) ≡ 1) ⊎ (kind_of (headed h 𝓓) ≡ 4)
  pub size : headLength (headed h 𝓓) ≡ length h
  pub nodes : nodes_of (headed h 𝓓) ≡ 𝓓.map.nodes
  pub edges : edges_of (headed h 𝓓) ≡ 𝓓.map.edges
  pub outer : outer_of (headed h 𝓓) ≡ 𝓓.outer

pub outer_head : (𝓓 : Drawing) → Encodable 𝓓 → HeadOf 𝓓 (encode_head 𝓓)
unfolding headLength encode_head le16
outer_head 𝓓 fit =
    let n = 𝓓.map.nodes in
    let m = 𝓓.map.edges in
    let es = encode_edges 𝓓 m in
    record {
      kind = inr refl;
      size = refl;
      nodes = u16_of n 1 (4 ∷ []) (le16 m ++ (le16 𝓓.outer ++ es)) fit.nodes_fit refl;
      edges = u16_of m 3 (4 ∷ le16 n) (le16 𝓓.outer ++ es) fit.edges_fit refl;
      outer = kind_four_outer (headed (encode_head 𝓓) 𝓓) refl ∙ u16_of 𝓓.outer 5 (4 ∷ (le16 n ++ le16 m)) es fit.outer_fits refl;
    }

-- a head of kind 1 names no outer dart: it is a head of drawings whose outer dart is dart 0
pub plain-head : (𝓓 : Drawing) → Encodable 𝓓 → 𝓓.outer ≡ 0 → HeadOf 𝓓 (plain_head 𝓓)
unfolding headLength plain_head le16
plain-head 𝓓 fit zero =
    let n = 𝓓.map.nodes in
    let m = 𝓓.map.edges in
    let es = encode_edges 𝓓 m in
    record {
      kind = inl refl;
      size = refl;
      nodes = u16_of n 1 (1 ∷ []) (le16 m ++ es) fit.nodes_fit refl;
      edges = u16_of m 3 (1 ∷ le16 n) es fit.edges_fit refl;
      outer = kind_one_outer (headed (plain_head 𝓓) 𝓓) refl ∙ sym zero;
    }

-- ── the record of edge e, by the bytes that stand k into it: with the record written out, `refl` shows which they are ──
module _ (𝓓 : Drawing) (h : List ℕ) (head : HeadOf 𝓓 h) (e : ℕ) (l : e < 𝓓.map.edges) where
  abbrev edge : List ℕ
  edge = encode_edge 𝓓 e

  stands : StandsAt (edge_at (headed h 𝓓) e) edge (headed h 𝓓)
  stands = subst (λ n. StandsAt (edge_after n e) edge (headed h 𝓓)) (sym head.size) (edge_stands h 𝓓 e l)

  pub kind_of_edge : get_or (headed h 𝓓) (edge_at (headed h 𝓓) e) 0 ≡ 2
  unfolding encode_edge
  kind_of_edge = first_stands stands

  u16_in : (k n : ℕ) → k ≤ 17 → n < 65536 → edge ≡ take k edge ++ (le16 n ++ drop (k + 2) edge) → u16_at (headed h 𝓓) (edge_at (headed h 𝓓) e + k) ≡ n
  u16_in k n m f p = u16_stands n (stands_inside k (k + 2) (le16 n) stands (omega (arith, edge_length 𝓓 e)) p) f

  i32_in : (k : ℕ) (x : ℤ) → k ≤ 17 → SFits w32 x → edge ≡ take k edge ++ (le32 x ++ drop (k + 4) edge) → i32_at (headed h 𝓓) (edge_at (headed h 𝓓) e + k) ≡ x
  i32_in k x m f p = i32_stands x (stands_inside k (k + 4) (le32 x) stands (omega (arith, edge_length 𝓓 e)) p) f

-- ── the whole drawing ──
-- two functions are equal where they agree on both darts of each edge, and past the darts
same_function : {A : Type 0} (n : ℕ) (f g : ℕ → A)
    → ((e : ℕ) → e < n → f (2 * e) ≡ g (2 * e))
    → ((e : ℕ) → e < n → f (2 * e + 1) ≡ g (2 * e + 1))
    → ((d : ℕ) → 2 * n ≤ d → f d ≡ g d)
    → f ≡ g
same_function n f g even odd past = fun_ext (λ d. go d (dec_lt d (2 * n)))
  where
    go : (d : ℕ) → Dec (d < 2 * n) → f d ≡ g d
    go d (yes l) = by_edge n (λ d. f d ≡ g d) even odd d l
    go d (no l) = past d (omega (arith, l))

module _ (𝓓 : Drawing) (fit : Encodable 𝓓) (h : List ℕ) (head : HeadOf 𝓓 h) where
  abbrev bytes : List ℕ
  bytes = headed h 𝓓

  here : (e : ℕ) → e < 𝓓.map.edges → e < edges_of bytes
  here e l = omega (arith, head.edges)

  past : (d : ℕ) → 2 * 𝓓.map.edges ≤ d → 2 * edges_of bytes ≤ d
  past d l = omega (arith, head.edges)

  same_tail : tail_of bytes ≡ 𝓓.map.tail
  unfolding encode_edge le16 le32 le_bits
  same_tail =
      let t = 𝓓.map.tail in
      same_function 𝓓.map.edges (tail_of bytes) t
      (λ e l. tail_even bytes e (here e l) ∙ u16_in 𝓓 h head e l 1 (t (2 * e)) (omega arith) (fit.tail_fits (2 * e) (omega arith)) refl)
      (λ e l. tail_odd bytes e (here e l) ∙ u16_in 𝓓 h head e l 3 (t (2 * e + 1)) (omega arith) (fit.tail_fits (2 * e + 1) (omega arith)) refl)
      (λ d l. tail_past bytes d (past d l) ∙ sym (fit.zero_past.tail_zero d l))

  same_rotation : rotation_of bytes ≡ 𝓓.map.rotation
  unfolding encode_edge le16 le32 le_bits
  same_rotation =
      let r = 𝓓.map.rotation in
      same_function 𝓓.map.edges (rotation_of bytes) r
      (λ e l. rotation_even bytes e (here e l) ∙ u16_in 𝓓 h head e l 5 (r (2 * e)) (omega arith) (fit.rotation_fits (2 * e) (omega arith)) refl)
      (λ e l. rotation_odd bytes e (here e l) ∙ u16_in 𝓓 h head e l 7 (r (2 * e + 1)) (omega arith) (fit.rotation_fits (2 * e + 1) (omega arith)) refl)
      (λ d l. rotation_past bytes d (past d l) ∙ sym (fit.zero_past.rotation_zero d l))

  same_capacity : capacity_of bytes ≡ 𝓓.capacity
  unfolding encode_edge le16 le32 le_bits
  same_capacity =
      let c = 𝓓.capacity in
      same_function 𝓓.map.edges (capacity_of bytes) c
      (λ e l. capacity_even bytes e (here e l) ∙ i32_in 𝓓 h head e l 9 (c (2 * e)) (omega arith) (fit.capacity_fits (2 * e) (omega arith)) refl)
      (λ e l. capacity_odd bytes e (here e l) ∙ i32_in 𝓓 h head e l 13 (c (2 * e + 1)) (omega arith) (fit.capacity_fits (2 * e + 1) (omega arith)) refl)
      (λ d l. capacity_past bytes d (past d l) ∙ sym (fit.zero_past.capacity_zero d l))

  pub sheet_headed : sheet_drawing bytes ≡ 𝓓
  sheet_headed =
      λ i. record {
        map = record { nodes = head.nodes i; edges = head.edges i; tail = same_tail i; rotation = same_rotation i };
        capacity = same_capacity i;
        outer = head.outer i;
      }

pub sheet_encode : (𝓓 : Drawing) → Encodable 𝓓 → sheet_drawing (encode 𝓓) ≡ 𝓓
unfolding encode
sheet_encode 𝓓 fit = sheet_headed 𝓓 fit (encode_head 𝓓) (outer_head 𝓓 fit)

pub sheet_encode_plain : (𝓓 : Drawing) → Encodable 𝓓 → 𝓓.outer ≡ 0 → sheet_drawing (encode_plain 𝓓) ≡ 𝓓
unfolding encode_plain
sheet_encode_plain 𝓓 fit zero = sheet_headed 𝓓 fit (plain_head 𝓓) (plain-head 𝓓 fit zero)
