-- The loop that writes the words of a set in turn: its start, its step and its end; and what its caller has.
use mathlib.Core.Path.{◌≡◌, sym, ap, ◌∙◌, subst}
use mathlib.Core.Logic.{◌⊎◌, inl, inr}
use mathlib.Core.Bool.{Bool, true, false, ◌&&◌}
use mathlib.Core.List.{List, ◌++◌}
use Prim.Native.Nat.{ℕ, ◌+◌, ◌*◌, ◌/◌, ◌%◌, ◌^◌, ◌≤◌, ◌<◌}
use native.Mathlib.Omega.{arith}
use native.Mathlib.Nat.{div-eq_of_lt}
use lib.Dec.{eqb, ltb, nltb→le}
use lib.ListN.{length, get_or, take, drop, take-append-drop, get_or-eq_default}
use lib.Seq.{ext_get_or, length-take-le, get_or-take}
use lib.Pow.{pow_pos}
use Rattle.integers.specs.Sum.{Naturals, bit, count}
use Rattle.integers.proofs.Sums.{sum_ext}
use Rattle.integers.proofs.Tests.{either, ltb_true, ltb_false, ltb_lt}
use Rattle.flows.specs.ProvingSet.{words_for, member, size}
use Rattle.node_sets.specs.inner.Words.{flag, set_word, Written}
use Rattle.node_sets.proofs.Bits.{word_below, word_test}
use Rattle.node_sets.proofs.Size.{size_members}

-- the words below j are written, and nothing past the last
pub record Writing (inside : List ℕ) (nodes : ℕ) (before now' : List ℕ) (j : ℕ) : Type 0 where
  pub length_kept : length now' ≡ length before
  pub rest_kept : drop (words_for nodes) now' ≡ drop (words_for nodes) before
  pub done : (i : ℕ) → i < j → get_or now' i 0 ≡ set_word inside nodes i

flag_inside : (inside : List ℕ) (nodes v : ℕ) → v < nodes → flag inside nodes v ≡ eqb (get_or inside v 0) 1
flag_inside inside nodes v h = ap (λ (x : Bool). x && eqb (get_or inside v 0) 1) (ltb_true v nodes h)

flag_outside : (inside : List ℕ) (nodes v : ℕ) → nodes ≤ v → flag inside nodes v ≡ false
flag_outside inside nodes v h = ap (λ (x : Bool). x && eqb (get_or inside v 0) 1) (ltb_false v nodes h)

at_least : (a b : ℕ) → ltb a b ≡ false → b ≤ a
at_least a b e = nltb→le a b (rw e tt)

pub writing_end : (inside : List ℕ) (nodes : ℕ) (before after : List ℕ) (j : ℕ)
    → Writing inside nodes before after j → words_for nodes ≤ j → words_for nodes ≤ length before → Written inside nodes before after
writing_end inside nodes before after j s f m = record {
  length_kept = s.length_kept;
  rest_kept = s.rest_kept;
  set_of = record {
    long = taken;
    fits = λ i h.
        let l : i < words_for nodes = omega (arith, taken) in
        subst (λ (x : ℕ). x < 2 ^ 64) (sym (at i l)) (word_below (λ k. flag inside nodes (64 * i + k)) 64);
    unused = λ i h. past i h (either (ltb (i / 64) (words_for nodes)));
  };
  words_are = at;
  members = λ v h. in-word v (omega arith) ∙ flag_inside inside nodes v h;
}
  where
    kept : length after ≡ length before
    kept = s.length_kept

    taken : length (take (words_for nodes) after) ≡ words_for nodes
    taken = length-take-le (words_for nodes) after (omega (arith, kept, m))

    at : (i : ℕ) → i < words_for nodes → get_or (take (words_for nodes) after) i 0 ≡ set_word inside nodes i
    at i h = get_or-take (words_for nodes) after i 0 h ∙ s.done i (omega (arith, h, f))

    in-word : (v : ℕ) → v / 64 < words_for nodes → member (take (words_for nodes) after) v ≡ flag inside nodes v
    in-word v h =
        ap (λ (x : ℕ). eqb (x / 2 ^ (v % 64) % 2) 1) (at (v / 64) h)
        ∙ word_test (λ k. flag inside nodes (64 * (v / 64) + k)) 64 (v % 64) (omega arith)
        ∙ ap (flag inside nodes) (omega arith)

    past : (i : ℕ) → nodes ≤ i → (ltb (i / 64) (words_for nodes) ≡ true) ⊎ (ltb (i / 64) (words_for nodes) ≡ false)
        → member (take (words_for nodes) after) i ≡ false
    past i h (inl e) = in-word i (ltb_lt (i / 64) (words_for nodes) e) ∙ flag_outside inside nodes i h
    past i h (inr e) =
        ap (λ (x : ℕ). eqb (x / 2 ^ (i % 64) % 2) 1)
        (get_or-eq_default (take (words_for nodes) after) 0 (omega (arith, taken, at_least (i / 64) (words_for nodes) e)))
        ∙ ap (λ (x : ℕ). eqb (x % 2) 1) (div-eq_of_lt (pow_pos (i % 64)))

-- ── what a caller has ──
-- the set in front, and behind it the words that were there
pub written_whole : (inside : List ℕ) (nodes : ℕ) (before after : List ℕ) → Written inside nodes before after
    → after ≡ take (words_for nodes) after ++ drop (words_for nodes) before
written_whole inside nodes before after r =
    sym (take-append-drop (words_for nodes) after) ∙ ap (λ (x : List ℕ). take (words_for nodes) after ++ x) r.rest_kept

-- the same flags give the same words
pub written_same : (inside : List ℕ) (nodes : ℕ) (before after before' after' : List ℕ)
    → Written inside nodes before after → Written inside nodes before' after'
    → take (words_for nodes) after ≡ take (words_for nodes) after'
written_same inside nodes before after before' after' r r' =
    ext_get_or 0 (take (words_for nodes) after) (take (words_for nodes) after') (r.set_of.long ∙ sym r'.set_of.long)
    (λ i l. let m : i < words_for nodes = omega (arith, r.set_of.long) in r.words_are i m ∙ sym (r'.words_are i m))

-- its size is the number of flagged nodes
pub written_size : (inside : List ℕ) (nodes : ℕ) (before after : List ℕ) → Written inside nodes before after
    → size (take (words_for nodes) after) ≡ count nodes (λ v. eqb (get_or inside v 0) 1)
written_size inside nodes before after r =
    let new = take (words_for nodes) after in
    size_members nodes new r.set_of
    ∙ sum_ext Naturals nodes (λ v. bit (member new v)) (λ v. bit (eqb (get_or inside v 0) 1)) (λ v l. ap bit (r.members v l))
