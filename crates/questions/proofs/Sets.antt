-- The set written: as the words that the answer names, with what the flags proved.
use mathlib.Core.Path.{◌≡◌, sym, ◌∙◌, ap, subst}
use mathlib.Core.List.{List, ◌++◌}
use Prim.Native.Nat.{ℕ, ◌-◌, ◌≤◌, ◌<◌}
use native.Mathlib.Nat.{sub-zero}
use native.Mathlib.Omega.{arith}
use lib.ListN.{length, get_or, take, drop, length-append, length-drop}
use lib.Seq.{take-append-le, drop_at, take-take}
use lib.IntN.{ℤ, pos, ◌+ℤ◌}
use lib.Signed.{◌<ℤ◌}
use Rattle.integers.specs.Sum.{bit}
use Rattle.integers.proofs.Counting.{bit_le, sum_le_size}
use Rattle.refusals.specs.Order.{NoneOf}
use Rattle.maps.specs.Map.{Map}
use Rattle.maps.specs.Check.{InRange}
use Rattle.maps.specs.Cut.{cut}
use Rattle.flows.specs.ProvingSet.{words_for, member, size, Proves}
use Rattle.flows.specs.inner.Sides.{AtSource, Beside}
use Rattle.flows.proofs.Agreement.{cut_agrees, proves_agrees}
use Rattle.flows.proofs.Interval.{source_proves_next}
use Rattle.arrays.specs.inner.Flags.{flagged}
use Rattle.balance.proofs.Parts.{part_length}
use Rattle.node_sets.specs.inner.Words.{WordsLent, Written}
use Rattle.node_sets.proofs.Writing.{written_whole, written_size}
use Rattle.questions.specs.Question.{end_checks, SetWritten}
use Rattle.questions.proofs.Asked.{ends_in}

-- ── the words are lent from the front of a slice: what was written to that part is written to the slice ──
module _ (set : List ℕ) {nodes w : ℕ} (many : w ≡ words_for nodes) (room : words_for nodes ≤ length set) where
  pub words_lent : nodes ≤ 1024 → WordsLent nodes (take (w - 0) set)
  words_lent few = record { few_nodes = few; exact = part_length w set (omega arith) ∙ many }

  module _ {inside y : List ℕ} (written : Written inside nodes (take (w - 0) set) y) where
    long : length y ≡ w
    long = written.length_kept ∙ part_length w set (omega arith)

    front : take (words_for nodes) (y ++ drop (w - 0) set) ≡ take (words_for nodes) y
    front = take-append-le (words_for nodes) y (drop (w - 0) set) (omega (arith, long))

    pub written_back : Written inside nodes set (y ++ drop (w - 0) set)
    written_back = record {
      length_kept = simp (length-append, length-drop) (omega (arith, long));
      rest_kept = drop_at y (drop (w - 0) set) (words_for nodes) (long ∙ many) ∙ ap (λ k. drop k set) (sub-zero w ∙ many);
      set_of = rw front written.set_of;
      words_are = λ i l. ap (λ s. get_or s i 0) front ∙ written.words_are i l;
      members = λ v l. ap (λ s. member s v) front ∙ written.members v l;
    }

    -- and the words that are lent again hold the set
    pub words_again : size (take (words_for nodes) (take (w - 0) (y ++ drop (w - 0) set))) ≡ size (take (words_for nodes) (y ++ drop (w - 0) set))
    words_again = ap size (take-take (words_for nodes) (w - 0) (y ++ drop (w - 0) set) (omega arith))

module _ {inside set set' : List ℕ} {nodes : ℕ} (written : Written inside nodes set set') where
  pub set_written : SetWritten nodes (take (words_for nodes) set') set set'
  set_written = record { is_set = written.set_of; placed = written_whole inside nodes set set' written }

  -- the ones counted are at most the nodes
  pub size_small : nodes ≤ 1024 → (n : ℕ) → n ≡ size (take (words_for nodes) set') → n < 65536
  size_small few n e =
      omega (arith, e, few, written_size inside nodes set set' written, sum_le_size nodes (λ v. bit (flagged inside v)) (λ v l. bit_le (flagged inside v)))

module _ {𝓜 : Map} (range : InRange 𝓜) (c : ℕ → ℤ) {inside set set' : List ℕ} (written : Written inside 𝓜.nodes set set')
    (source sink : ℕ) (two : NoneOf (end_checks 𝓜.nodes source sink)) where
  abbrev words : List ℕ
  words = take (words_for 𝓜.nodes) set'

  same : (v : ℕ) → v < 𝓜.nodes → flagged inside v ≡ member (take (words_for 𝓜.nodes) set') v
  same v l = sym (written.members v l)

  pub proves_written : (value : ℤ) → Proves 𝓜 c source sink value (flagged inside) → Proves 𝓜 c source sink value (member (take (words_for 𝓜.nodes) set'))
  proves_written value p = let r = ends_in 𝓜.nodes source sink two in proves_agrees range (flagged inside) (member words) same c r.0 r.1 value p

  -- a set around the source proves the value after its outward total
  pub next_proved : (v : ℤ) → AtSource source sink (flagged inside) → v ≡ cut 𝓜 c (flagged inside)
      → Proves 𝓜 c source sink (v +ℤ pos 1) (member (take (words_for 𝓜.nodes) set'))
  next_proved v side e =
      proves_written (v +ℤ pos 1)
      (subst (λ w. Proves 𝓜 c source sink (w +ℤ pos 1) (flagged inside)) (sym e) (source_proves_next 𝓜 c source sink (flagged inside) side))

  pub none_written : Beside source sink (flagged inside) → cut 𝓜 c (flagged inside) <ℤ pos 0
      → (member (take (words_for 𝓜.nodes) set') source ≡ member (take (words_for 𝓜.nodes) set') sink)
      × (cut 𝓜 c (member (take (words_for 𝓜.nodes) set')) <ℤ pos 0)
  none_written side low =
      let r = ends_in 𝓜.nodes source sink two in
      (sym (same source r.0) ∙ side ∙ same sink r.1, rw (sym (cut_agrees range (flagged inside) (member words) same c)) low)
