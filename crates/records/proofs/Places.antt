-- Where bytes that are a head and then the edges of a drawing have what: how long they are, and the record of each edge. The head may be of either kind.
use mathlib.Core.Path.{◌≡◌, refl, sym, ◌∙◌, ap}
use mathlib.Core.List.{List, [], ◌∷◌, ◌++◌, append_assoc, append-nil}
use Prim.Native.Nat.{ℕ, zero, suc, ◌+◌, ◌*◌, ◌≤◌, ◌<◌}
use native.Mathlib.Omega.{arith}
use native.Mathlib.Decide.{ℕ_discrete}
use lib.ListN.{length, get_or, take, drop, length-append}
use lib.Seq.{length-take-le, get_or_at}
use lib.IntN.{ℤ}
use mir.Syntax.{w32}
use mir.Val.{SFits}
use Rattle.fields.specs.Fields.{u16_at, i32_at, le16, le_bits, le32}
use Rattle.fields.proofs.Laws.{u16_of, i32_of}
use Rattle.maps.specs.Drawing.{Drawing}
use Rattle.records.specs.Sheet.{edge_after}
use Rattle.records.specs.Encode.{encode_head, encode_edge, encode_edges, encode, encode_length}

-- ── lengths ──
pub head-length : (𝓓 : Drawing) → length (encode_head 𝓓) ≡ 7
unfolding encode_head le16
head-length 𝓓 = refl

pub edge_length : (𝓓 : Drawing) (e : ℕ) → length (encode_edge 𝓓 e) ≡ 17
unfolding encode_edge le16 le32 le_bits
edge_length 𝓓 e = refl

pub edges_length : (𝓓 : Drawing) (n : ℕ) → length (encode_edges 𝓓 n) ≡ 17 * n
unfolding encode_edges
edges_length 𝓓 zero = refl
edges_length 𝓓 (suc n) = length-append (encode_edges 𝓓 n) (encode_edge 𝓓 n) ∙ omega (arith, edges_length 𝓓 n, edge_length 𝓓 n)

-- a head and the first n edges, which stand before edge n
pub front_length : (h : List ℕ) (𝓓 : Drawing) (n : ℕ) → length (h ++ encode_edges 𝓓 n) ≡ edge_after (length h) n
front_length h 𝓓 n = length-append h (encode_edges 𝓓 n) ∙ omega (arith, edges_length 𝓓 n)

pub encode-length : (𝓓 : Drawing) → length (encode 𝓓) ≡ encode_length 𝓓.map.edges
unfolding encode
encode-length 𝓓 = omega (arith, front_length (encode_head 𝓓) 𝓓 𝓓.map.edges, head-length 𝓓)

-- ── bytes ──
-- each number of the list is one byte; a record, so that a search can take the list apart
record Bytes (l : List ℕ) : Type 0 where
  each : (i : ℕ) → get_or l i 0 < 256

none_bytes : Bytes []
none_bytes = record { each = λ i. omega arith }

more_bytes : {b : ℕ} {l : List ℕ} → b < 256 → Bytes l → Bytes (b ∷ l)
more_bytes {b} {l} h g = record { each = go }
  where
    go : (i : ℕ) → get_or (b ∷ l) i 0 < 256
    go zero = h
    go (suc i) = g.each i

append_bytes : {l m : List ℕ} → Bytes l → Bytes m → Bytes (l ++ m)
append_bytes {l} {m} h g = record { each = go l h.each }
  where
    go : (l : List ℕ) → ((i : ℕ) → get_or l i 0 < 256) → (i : ℕ) → get_or (l ++ m) i 0 < 256
    go [] h i = g.each i
    go (b ∷ l) h zero = h 0
    go (b ∷ l) h (suc i) = go l (λ i. h (suc i)) i

le16_bytes : (n : ℕ) → Bytes (le16 n)
unfolding le16
le16_bytes n = more_bytes (omega arith) (more_bytes (omega arith) none_bytes)

le32_bytes : (x : ℤ) → Bytes (le32 x)
unfolding le32 le_bits
le32_bytes x = more_bytes (omega arith) (more_bytes (omega arith) (more_bytes (omega arith) (more_bytes (omega arith) none_bytes)))

kind_4 : 4 < 256
kind_4 = omega arith

kind_2 : 2 < 256
kind_2 = omega arith

ruleset bytes = (more_bytes, append_bytes, le16_bytes, le32_bytes, kind_2, kind_4)

head_bytes : (𝓓 : Drawing) → Bytes (encode_head 𝓓)
unfolding encode_head
head_bytes 𝓓 = search bytes depth 9

edge-bytes : (𝓓 : Drawing) (e : ℕ) → Bytes (encode_edge 𝓓 e)
unfolding encode_edge
edge-bytes 𝓓 e = search bytes depth 9

edges_bytes : (𝓓 : Drawing) (n : ℕ) → Bytes (encode_edges 𝓓 n)
unfolding encode_edges
edges_bytes 𝓓 zero = none_bytes
edges_bytes 𝓓 (suc n) = append_bytes (edges_bytes 𝓓 n) (edge-bytes 𝓓 n)

pub encode_bytes : (𝓓 : Drawing) (i : ℕ) → get_or (encode 𝓓) i 0 < 256
unfolding encode
encode_bytes 𝓓 = (append_bytes (head_bytes 𝓓) (edges_bytes 𝓓 𝓓.map.edges)).each

-- ── the record of an edge ──
-- bs is a part of s that begins at `at`
pub record StandsAt (at : ℕ) (bs s : List ℕ) : Type 0 where
  pub before : List ℕ
  pub after : List ℕ
  pub is : s ≡ before ++ (bs ++ after)
  pub place : length before ≡ at

module _ (h : List ℕ) (𝓓 : Drawing) (e : ℕ) where
  edge_among : (n : ℕ) → e < n → StandsAt (edge_after (length h) e) (encode_edge 𝓓 e) (h ++ encode_edges 𝓓 n)
  unfolding encode_edges
  edge_among zero l = absurd (omega arith)
  edge_among (suc n) l = go (ℕ_discrete e n) (edge_among n)
    where
      go : Dec (e ≡ n)
          → (e < n → StandsAt (edge_after (length h) e) (encode_edge 𝓓 e) (h ++ encode_edges 𝓓 n))
          → StandsAt (edge_after (length h) e) (encode_edge 𝓓 e) (h ++ (encode_edges 𝓓 n ++ encode_edge 𝓓 n))
      go (yes p) ih = record { before = h ++ encode_edges 𝓓 n; after = []; is = rw p (simp (append_assoc, append-nil)); place = rw p (front_length h 𝓓 n) }
      go (no p) ih =
          let r = ih (omega (arith, p)) in
          record {
            before = r.before;
            after = r.after ++ encode_edge 𝓓 n;
            is = sym (append_assoc h (encode_edges 𝓓 n) (encode_edge 𝓓 n)) ∙ ap (λ l. l ++ encode_edge 𝓓 n) r.is ∙ simp append_assoc;
            place = r.place;
          }

  pub edge_stands : e < 𝓓.map.edges → StandsAt (edge_after (length h) e) (encode_edge 𝓓 e) (h ++ encode_edges 𝓓 𝓓.map.edges)
  edge_stands l = edge_among 𝓓.map.edges l

-- ── a part of a part, and the field that it is ──
-- cs stands k into bs, and reaches to m
pub stands_inside : {at : ℕ} {bs s : List ℕ} (k m : ℕ) (cs : List ℕ) → StandsAt at bs s
    → k ≤ length bs → bs ≡ take k bs ++ (cs ++ drop m bs) → StandsAt (at + k) cs s
stands_inside {at} {bs} {s} k m cs r l p =
    record {
      before = r.before ++ take k bs;
      after = drop m bs ++ r.after;
      is = r.is ∙ ap (λ x. r.before ++ (x ++ r.after)) p ∙ simp append_assoc;
      place = length-append r.before (take k bs) ∙ omega (arith, r.place, length-take-le k bs l);
    }

pub first_stands : {at b : ℕ} {bs s : List ℕ} → StandsAt at (b ∷ bs) s → get_or s at 0 ≡ b
first_stands {at} {b} {bs} {s} r = ap (λ l. get_or l at 0) r.is ∙ get_or_at r.before b (bs ++ r.after) 0 at r.place

pub u16_stands : {at : ℕ} {s : List ℕ} (n : ℕ) → StandsAt at (le16 n) s → n < 65536 → u16_at s at ≡ n
u16_stands {at} {s} n r h = ap (λ l. u16_at l at) r.is ∙ u16_of n at r.before r.after h r.place

pub i32_stands : {at : ℕ} {s : List ℕ} (x : ℤ) → StandsAt at (le32 x) s → SFits w32 x → i32_at s at ≡ x
i32_stands {at} {s} x r h = ap (λ l. i32_at l at) r.is ∙ i32_of x at r.before r.after h r.place
