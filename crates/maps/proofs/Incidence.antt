-- Maps with labels in place of orbits, so that nodes and faces play the same part: `tail` is constant along `turn`, `left` along d ↦ turn (rev d),
-- every label has a dart, and a Boolean set of darts that rev and turn keep holds, with a dart, all darts of its component. The dual exchanges the two.
-- Both planar theorems are one theorem here.
use mathlib.Core.Path.{◌≡◌, sym, ◌∙◌, ap}
use mathlib.Core.Bool.{Bool}
use Prim.Native.Nat.{ℕ, ◌+◌, ◌*◌, ◌≤◌, ◌<◌}
use native.Mathlib.Omega.{arith}
use lib.Dec.{eqb}
use lib.IntN.{ℤ, pos, neg_ℤ, ◌+ℤ◌, ◌-ℤ◌, +ℤ_invr}
use Rattle.integers.specs.Sum.{Integers, sumℤ, when, count}
use Rattle.integers.proofs.Laws.{neg_sub}
use Rattle.integers.proofs.Sums.{sum_ext}
use Rattle.integers.proofs.Injections.{sum_reindex}
use Rattle.integers.proofs.IntegerSums.{sum_sub, when_neg, when_add}
use Rattle.maps.specs.Dart.{rev}
use Rattle.maps.proofs.Darts.{rev_even, rev_odd, rev_rev, rev_in, by_edge, rev_injective}
use Rattle.maps.proofs.Forest.{carried}
use Rattle.maps.proofs.TreeCotree.{TwoGraphs, closed_difference, euler_bound, part_bound}
use Rattle.maps.proofs.LabelSums.{sum_at, sum_over, over_edges, over_none}

-- ── differences of face values ──
pub difference_antisymmetric : (left : ℕ → ℕ) (ρ : ℕ → ℤ) (d : ℕ) → ρ (left (rev d)) -ℤ ρ (left (rev (rev d))) ≡ neg_ℤ (ρ (left d) -ℤ ρ (left (rev d)))
difference_antisymmetric left ρ d = rw (rev_rev d) (sym (neg_sub (ρ (left d)) (ρ (left (rev d)))))

-- left (turn d) = right d, so the sum of the differences around a node telescopes; of a set of nodes, likewise
module _ (n : ℕ) (turn tail left : ℕ → ℕ)
    (turn_in : (d : ℕ) → d < 2 * n → turn d < 2 * n) (turn_injective : (c d : ℕ) → c < 2 * n → d < 2 * n → turn c ≡ turn d → c ≡ d)
    (tail_turn : (d : ℕ) → d < 2 * n → tail (turn d) ≡ tail d) (left_turn : (d : ℕ) → d < 2 * n → left (turn d) ≡ left (rev d)) where
  pub difference_closed : (ρ : ℕ → ℤ) (S : ℕ → Bool) → sum_over n tail (λ d. ρ (left d) -ℤ ρ (left (rev d))) S ≡ pos 0
  difference_closed ρ S =
      sum_ext Integers (2 * n) (λ d. when (S (tail d)) (ρ (left d) -ℤ ρ (left (rev d)))) (λ d. f d -ℤ f (turn d)) point
      ∙ sum_sub (2 * n) f (λ d. f (turn d))
      ∙ ap (λ x. sumℤ (2 * n) f -ℤ x) (sum_reindex (2 * n) turn turn_in turn_injective Integers f)
      ∙ +ℤ_invr (sumℤ (2 * n) f)
    where
      f : ℕ → ℤ
      f d = when (S (tail d)) (ρ (left d))

      point : (d : ℕ) → d < 2 * n → when (S (tail d)) (ρ (left d) -ℤ ρ (left (rev d))) ≡ f d -ℤ f (turn d)
      point d l =
          rw (tail_turn d l, left_turn d l)
          (when_add (S (tail d)) (ρ (left d)) (neg_ℤ (ρ (left (rev d))))
          ∙ ap (λ x. when (S (tail d)) (ρ (left d)) +ℤ x) (when_neg (S (tail d)) (ρ (left (rev d)))))

pub record Incidence (n N F k : ℕ) (turn tail left part on_node on_face : ℕ → ℕ) : Type 0 where
  pub turn_in : (d : ℕ) → d < 2 * n → turn d < 2 * n
  pub turn_injective : (c d : ℕ) → c < 2 * n → d < 2 * n → turn c ≡ turn d → c ≡ d
  pub tail_in : (d : ℕ) → d < 2 * n → tail d < N
  pub left_in : (d : ℕ) → d < 2 * n → left d < F
  pub tail_turn : (d : ℕ) → d < 2 * n → tail (turn d) ≡ tail d
  pub left_turn : (d : ℕ) → d < 2 * n → left (turn d) ≡ left (rev d)
  pub on_node_in : (v : ℕ) → v < N → on_node v < 2 * n
  pub on_node_is : (v : ℕ) → v < N → tail (on_node v) ≡ v
  pub on_face_in : (f : ℕ) → f < F → on_face f < 2 * n
  pub on_face_is : (f : ℕ) → f < F → left (on_face f) ≡ f
  pub part_in : (d : ℕ) → d < 2 * n → part d < k
  pub part_rev : (d : ℕ) → d < 2 * n → part (rev d) ≡ part d
  pub part_tail : (c d : ℕ) → c < 2 * n → d < 2 * n → tail c ≡ tail d → part c ≡ part d
  pub part_left : (c d : ℕ) → c < 2 * n → d < 2 * n → left c ≡ left d → part c ≡ part d
  pub joined : (Q : ℕ → Bool) → ((d : ℕ) → d < 2 * n → Q (rev d) ≡ Q d) → ((d : ℕ) → d < 2 * n → Q (turn d) ≡ Q d)
      → (d c : ℕ) → d < 2 * n → c < 2 * n → part d ≡ part c → Q d ≡ Q c

pub dual : {n N F k : ℕ} {turn tail left part on_node on_face : ℕ → ℕ} → Incidence n N F k turn tail left part on_node on_face
    → Incidence n F N k (λ d. turn (rev d)) left tail part on_face on_node
dual {n} {turn = turn} {tail = tail} {left = left} 𝓘 = record {
  turn_in = λ d l. 𝓘.turn_in (rev d) (rev_in n d l);
  turn_injective = λ c d lc ld e. rev_injective c d (𝓘.turn_injective (rev c) (rev d) (rev_in n c lc) (rev_in n d ld) e);
  tail_in = 𝓘.left_in;
  left_in = 𝓘.tail_in;
  tail_turn = λ d l. 𝓘.left_turn (rev d) (rev_in n d l) ∙ ap left (rev_rev d);
  left_turn = λ d l. 𝓘.tail_turn (rev d) (rev_in n d l);
  on_node_in = 𝓘.on_face_in;
  on_node_is = 𝓘.on_face_is;
  on_face_in = 𝓘.on_node_in;
  on_face_is = 𝓘.on_node_is;
  part_in = 𝓘.part_in;
  part_rev = 𝓘.part_rev;
  part_tail = 𝓘.part_left;
  part_left = 𝓘.part_tail;
  joined = λ Q hr ht. 𝓘.joined Q hr (λ d l. ap Q (sym (ap turn (rev_rev d))) ∙ ht (rev d) (rev_in n d l) ∙ hr d l);
}

module _ {n N F k : ℕ} {turn tail left part on_node on_face : ℕ → ℕ} (𝓘 : Incidence n N F k turn tail left part on_node on_face) where
  as_graphs : TwoGraphs n N F k (λ e. tail (2 * e)) (λ e. tail (2 * e + 1)) (λ e. left (2 * e))
      (λ e. left (2 * e + 1)) (λ v. part (on_node v)) (λ f. part (on_face f)) (λ e. part (2 * e))
  as_graphs = record {
    s_in = λ e l. 𝓘.tail_in (2 * e) (omega arith);
    t_in = λ e l. 𝓘.tail_in (2 * e + 1) (omega arith);
    l_in = λ e l. 𝓘.left_in (2 * e) (omega arith);
    r_in = λ e l. 𝓘.left_in (2 * e + 1) (omega arith);
    part_n_in = λ v l. 𝓘.part_in (on_node v) (𝓘.on_node_in v l);
    part_f_in = λ f l. 𝓘.part_in (on_face f) (𝓘.on_face_in f l);
    s_part = λ e l. at_tail (2 * e) (omega arith);
    t_part = λ e l. at_tail (2 * e + 1) (omega arith) ∙ over e l;
    l_part = λ e l. at_left (2 * e) (omega arith);
    r_part = λ e l. at_left (2 * e + 1) (omega arith) ∙ over e l;
    joined_n = λ S h v w lv lw c.
        ap S (sym (𝓘.on_node_is v lv))
        ∙ 𝓘.joined (λ d. S (tail d)) (across tail S h) (λ d l. ap S (𝓘.tail_turn d l)) (on_node v) (on_node w) (𝓘.on_node_in v lv) (𝓘.on_node_in w lw) c
        ∙ ap S (𝓘.on_node_is w lw);
    joined_f = λ S h v w lv lw c.
        ap S (sym (𝓘.on_face_is v lv))
        ∙ 𝓘.joined (λ d. S (left d)) (across left S h) (λ d l. ap S (𝓘.left_turn d l) ∙ across left S h d l)
        (on_face v) (on_face w) (𝓘.on_face_in v lv) (𝓘.on_face_in w lw) c
        ∙ ap S (𝓘.on_face_is w lw);
    closed = λ ρ S.
        sum_ext Integers n
        (λ e. carried (S (tail (2 * e))) (S (tail (2 * e + 1))) (ρ (left (2 * e)) -ℤ ρ (left (2 * e + 1))))
        (λ e. carried (S (tail (2 * e))) (S (tail (2 * e + 1))) (ρ (left (2 * e)) -ℤ ρ (left (rev (2 * e)))))
        (λ e l. rw (rev_even e))
        ∙ over_edges n tail (λ d. ρ (left d) -ℤ ρ (left (rev d))) S (λ d l. difference_antisymmetric left ρ d)
        ∙ difference_closed n turn tail left 𝓘.turn_in 𝓘.turn_injective 𝓘.tail_turn 𝓘.left_turn ρ S;
  }
    where
      at_tail : (d : ℕ) → d < 2 * n → part (on_node (tail d)) ≡ part d
      at_tail d l = let v = 𝓘.tail_in d l in 𝓘.part_tail (on_node (tail d)) d (𝓘.on_node_in (tail d) v) l (𝓘.on_node_is (tail d) v)

      at_left : (d : ℕ) → d < 2 * n → part (on_face (left d)) ≡ part d
      at_left d l = let f = 𝓘.left_in d l in 𝓘.part_left (on_face (left d)) d (𝓘.on_face_in (left d) f) l (𝓘.on_face_is (left d) f)

      over : (e : ℕ) → e < n → part (2 * e + 1) ≡ part (2 * e)
      over e l = ap part (sym (rev_even e)) ∙ 𝓘.part_rev (2 * e) (omega arith)

      across : (g : ℕ → ℕ) (S : ℕ → Bool) → ((e : ℕ) → e < n → S (g (2 * e)) ≡ S (g (2 * e + 1))) → (d : ℕ) → d < 2 * n → S (g (rev d)) ≡ S (g d)
      across g S h = by_edge n (λ d. S (g (rev d)) ≡ S (g d)) (λ e l. rw (rev_even e) (sym (h e l))) (λ e l. rw (rev_odd e) (h e l))

  -- Euler's count is a bound in any case
  pub incidence_bound : N + F ≤ n + 2 * k
  incidence_bound = euler_bound as_graphs

  -- in each component
  pub incidence_part_bound : (c : ℕ) → count N (λ v. eqb c (part (on_node v))) + count F (λ f. eqb c (part (on_face f))) ≤ count n (λ e. eqb c (part (2 * e))) +
      2
  incidence_part_bound = part_bound as_graphs

  -- antisymmetric and zero at every node: a difference of face values
  pub planar : N + F ≡ n + 2 * k → (φ : ℕ → ℤ) → ((d : ℕ) → d < 2 * n → φ (rev d) ≡ neg_ℤ (φ d)) → ((v : ℕ) → v < N → sum_at n tail φ v ≡ pos 0)
      → (ρ : ℕ → ℤ) × ((d : ℕ) → d < 2 * n → φ d ≡ ρ (left d) -ℤ ρ (left (rev d)))
  planar euler φ anti zero_at = (p.0, by_edge n (λ d. φ d ≡ p.0 (left d) -ℤ p.0 (left (rev d))) even odd)
    where
      p : (ρ : ℕ → ℤ) × ((e : ℕ) → e < n → φ (2 * e) ≡ ρ (left (2 * e)) -ℤ ρ (left (2 * e + 1)))
      p = closed_difference as_graphs (omega (arith, euler)) (λ e. φ (2 * e)) (λ S. over_edges n tail φ S anti ∙ over_none n tail N φ 𝓘.tail_in zero_at S)

      even : (e : ℕ) → e < n → φ (2 * e) ≡ p.0 (left (2 * e)) -ℤ p.0 (left (rev (2 * e)))
      even e l = rw (rev_even e) (p.1 e l)

      odd : (e : ℕ) → e < n → φ (2 * e + 1) ≡ p.0 (left (2 * e + 1)) -ℤ p.0 (left (rev (2 * e + 1)))
      odd e l = rw (← rev_even e) (anti (2 * e) (omega arith) ∙ ap neg_ℤ (even e l) ∙ sym (difference_antisymmetric left p.0 (2 * e)))
