-- Papers marked one by one, and the figures of a class: what each turn of a loop keeps.
use mathlib.Core.Path.{◌≡◌, refl, sym, ◌∙◌, ap, subst}
use mathlib.Core.List.{List}
use Prim.Native.Nat.{ℕ, ◌+◌, ◌*◌, ◌-◌, ◌≤◌, ◌<◌}
use native.Mathlib.Omega.{arith}
use native.Mathlib.Nat.{suc-mul, mul-le-mul, mul-le-mul_right}
use native.Mathlib.Numerals.{add-one}
use native.Mathlib.Decide.{ℕ_discrete}
use lib.IntN.{ℤ}
use lib.ListN.{length, take, drop, set, length-set, length-drop}
use lib.Seq.{length-take-le, get_or-set_same, get_or-set_other, drop-set-lt, drop-drop}
use Rattle.integers.specs.Sum.{sum, sumℕ}
use Rattle.flows.specs.ProvingSet.{words_for}
use Rattle.arrays.specs.At.{at, atℤ}
use Rattle.records.specs.Sheet.{nodes_of, edges_of}
use Rattle.pages.specs.Stretch.{SameFrom}
use Rattle.desk.specs.Paper.{claim_of, nodes_in, paper_of, Points}
use Rattle.std.specs.Prelude.{Option, min, max}
use Rattle.desk.specs.inner.Extremes.{Extremes}

-- ── one more ──
pub next_below : (P : ℕ → Type 0) (q : ℕ) → ((j : ℕ) → j < q → P j) → P q → (j : ℕ) → j < q + 1 → P j
next_below P q before here j l = go (ℕ_discrete j q)
  where
    go : Dec (j ≡ q) → P j
    go (yes e) = subst P (sym e) here
    go (no n) = before j (omega (arith, n))

pub sum_next : (q : ℕ) (f : ℕ → ℕ) → sumℕ (q + 1) f ≡ sumℕ q f + f q
unfolding sum
sum_next q f = ap (λ k. sumℕ k f) (add-one q)

pub sum_none : (f : ℕ → ℕ) → 0 ≡ sumℕ 0 f
unfolding sum
sum_none f = refl

-- ── least and greatest ──
pub extremes_one : (f : ℕ → ℕ) → Extremes 1 f (f 0) (f 0)
extremes_one f = record {
  least_reached = (0, omega arith, refl);
  least_below = λ q l. omega (arith, only q l);
  greatest_reached = (0, omega arith, refl);
  greatest_above = λ q l. omega (arith, only q l);
}
  where
    only : (q : ℕ) → q < 1 → f q ≡ f 0
    only q l = let e : q ≡ 0 = omega arith in ap f e

pub extremes_next : (f : ℕ → ℕ) (q a b a' b' : ℕ) → a' ≡ min a (f q) → b' ≡ max b (f q) → Extremes q f a b → Extremes (q + 1) f a' b'
extremes_next f q a b a' b' low high h = record {
  least_reached = least (ℕ_discrete a' a);
  least_below = next_below (λ j. a' ≤ f j) q (λ j l. omega (arith, low, h.least_below j l)) (omega (arith, low));
  greatest_reached = greatest (ℕ_discrete b' b);
  greatest_above = next_below (λ j. f j ≤ b') q (λ j l. omega (arith, high, h.greatest_above j l)) (omega (arith, high));
}
  where
    least : Dec (a' ≡ a) → (j : ℕ) × (j < q + 1) × (f j ≡ a')
    least (yes e) = let r = h.least_reached in (r.0, omega (arith, r.1), r.2 ∙ sym e)
    least (no n) = (q, omega arith, omega (arith, low, n))

    greatest : Dec (b' ≡ b) → (j : ℕ) × (j < q + 1) × (f j ≡ b')
    greatest (yes e) = let r = h.greatest_reached in (r.0, omega (arith, r.1), r.2 ∙ sym e)
    greatest (no n) = (q, omega arith, omega (arith, high, n))

pub extremes_of : (f : ℕ → ℕ) (q n : ℕ) {a b : ℕ} → q ≡ n → Extremes q f a b → Extremes n f a b
extremes_of f q n {a} {b} e h = subst (λ k. Extremes k f a b) e h

-- ── where stretch i ends ──
pub ends_before : (size i n : ℕ) → i < n → i * size + size ≤ n * size
ends_before size i n l = let e = suc-mul i size in let h = mul-le-mul_right size l in omega (arith, e, h)

pub small_end : (size i n : ℕ) → i < n → n ≤ 1000 → size ≤ 512 → i * size + size ≤ 512000
small_end size i n l few small = omega (arith, ends_before size i n l, mul-le-mul few small)

-- ── papers marked so far ──
-- P j n: paper j has n points; q papers are marked
pub record Halfway (P : ℕ → ℕ → Type 0) (old : List ℕ) (q : ℕ) (now : List ℕ) : Type 0 where
  pub earned : (j : ℕ) → j < q → P j (at now j)
  pub few : (j : ℕ) → j < q → at now j ≤ 10
  pub behind : SameFrom q old now

pub halfway_start : (P : ℕ → ℕ → Type 0) (old : List ℕ) → Halfway P old 0 old
halfway_start P old = record { earned = λ j l. absurd (omega arith); few = λ j l. absurd (omega arith); behind = (refl, refl) }

pub halfway_turn : (P : ℕ → ℕ → Type 0) (old : List ℕ) (q : ℕ) (now : List ℕ) (n : ℕ) → Halfway P old q now → q < length old → P q n → n ≤ 10
    → Halfway P old (q + 1) (set now q n)
halfway_turn P old q now n h room here few = record {
  earned = next_below (λ j. P j (at (set now q n) j)) q (λ j l. subst (P j) (sym (other j l)) (h.earned j l)) (subst (P q) (sym same) here);
  few = next_below (λ j. at (set now q n) j ≤ 10) q (λ j l. subst (λ x. x ≤ 10) (sym (other j l)) (h.few j l)) (subst (λ x. x ≤ 10) (sym same) few);
  behind = (
    length-set now q n ∙ h.behind.0,
    drop-set-lt (q + 1) now q n (omega arith) ∙ sym (drop-drop 1 q now) ∙ ap (drop 1) h.behind.1 ∙ drop-drop 1 q old,
  );
}
  where
    same : at (set now q n) q ≡ n
    same = get_or-set_same now q n 0 (omega (arith, h.behind.0))

    other : (j : ℕ) → j < q → at (set now q n) j ≡ at now j
    other j l = get_or-set_other now q j n 0 (λ e. omega arith)

-- the paper that was marked is paper q of the class
pub turned : (s : List ℕ) (source sink : ℕ) (value value' : ℤ) (largest : Option ℤ) (claims : List ℤ) (kinds : List ℕ) (settings : List ℤ) (sets : List ℕ)
    (q edges words long wide : ℕ) (claim : Option ℤ) (n : ℕ)
    → edges ≡ edges_of s → words ≡ words_for (nodes_of s) → long ≡ edges → wide ≡ words → claim ≡ claim_of (at kinds q) (atℤ claims q) → value' ≡ value
    → Points s source sink value' largest
    (record { settings = atℤ (take long (drop (q * edges) settings)); claim = claim; set = nodes_in (nodes_of s) (take wide (drop (q * words) sets)) }) n
    → Points s source sink value largest (paper_of s claims kinds settings sets q) n
turned s source sink value value' largest claims kinds settings sets q edges words long wide claim n a b c d e f h =
    subst (λ v. Points s source sink v largest (paper_of s claims kinds settings sets q) n) f
    (subst (λ k. Points s source sink value' largest
    (record {
      settings = atℤ (take k (drop (q * k) settings));
      claim = claim_of (at kinds q) (atℤ claims q);
      set = nodes_in (nodes_of s) (take (words_for (nodes_of s)) (drop (q * words_for (nodes_of s)) sets));
    }) n) a
    (subst (λ w. Points s source sink value' largest
    (record {
      settings = atℤ (take edges (drop (q * edges) settings));
      claim = claim_of (at kinds q) (atℤ claims q);
      set = nodes_in (nodes_of s) (take w (drop (q * w) sets));
    }) n) b
    (subst (λ k. Points s source sink value' largest
    (record {
      settings = atℤ (take k (drop (q * edges) settings));
      claim = claim_of (at kinds q) (atℤ claims q);
      set = nodes_in (nodes_of s) (take words (drop (q * words) sets));
    }) n) c
    (subst (λ w. Points s source sink value' largest
    (record {
      settings = atℤ (take long (drop (q * edges) settings));
      claim = claim_of (at kinds q) (atℤ claims q);
      set = nodes_in (nodes_of s) (take w (drop (q * words) sets));
    }) n) d
    (subst (λ k. Points s source sink value' largest
    (record {
      settings = atℤ (take long (drop (q * edges) settings));
      claim = k;
      set = nodes_in (nodes_of s) (take wide (drop (q * words) sets));
    }) n) e h)))))

-- a stretch is as long as it must be
pub part_long : {A : Type 0} (q size long : ℕ) (l : List A) (least : ℕ) → size ≡ least → long ≡ size → q * size + size ≤ length l
    → least ≤ length (take long (drop (q * size) l))
part_long q size long l least e f room =
    let behind : length (drop (q * size) l) ≡ length l - q * size = length-drop (q * size) l in
    let whole : length (take long (drop (q * size) l)) ≡ long = length-take-le long (drop (q * size) l) (omega arith) in
    omega arith

-- after the last turn
pub all_marked : (s : List ℕ) (source sink : ℕ) (value value' : ℤ) (largest : Option ℤ) (claims : List ℤ) (kinds : List ℕ) (settings : List ℤ) (sets : List ℕ)
    (old now : List ℕ) (q : ℕ) → q ≡ length claims → value' ≡ value
    → Halfway (λ j n. Points s source sink value' largest (paper_of s claims kinds settings sets j) n) old q now
    → ((j : ℕ) → j < length claims → Points s source sink value largest (paper_of s claims kinds settings sets j) (at now j))
    × ((j : ℕ) → j < length claims → at now j ≤ 10)
    × SameFrom (length claims) old now
all_marked s source sink value value' largest claims kinds settings sets old now q e f h = (
  λ j l. subst (λ v. Points s source sink v largest (paper_of s claims kinds settings sets j) (at now j)) f (h.earned j (omega (arith, e))),
  λ j l. h.few j (omega (arith, e)),
  subst (λ k. SameFrom k old now) e h.behind,
)
