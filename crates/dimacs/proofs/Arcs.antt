-- The arcs of a drawing's problem are its darts: what leaves a node along them less what comes to it is the net flow of the darts.
use mathlib.Core.Path.{◌≡◌, refl, sym, ◌∙◌, ap, ap₂}
use mathlib.Core.Bool.{Bool, true, false, cond}
use Prim.Native.Nat.{ℕ, ◌+◌, ◌<◌}
use native.Mathlib.Omega.{arith}
use native.Mathlib.Decide.{ℕ_discrete}
use lib.Dec.{eqb}
use lib.ListN.{length}
use lib.IntN.{ℤ, pos, ◌-ℤ◌}
use Rattle.integers.specs.Sum.{Integers, sumℤ, sumℕ, when}
use Rattle.integers.proofs.Tests.{eqb_true, eqb_false}
use Rattle.integers.proofs.Sums.{sum_ext, sum_bijection}
use Rattle.integers.proofs.IntegerSums.{sum_sub, sum_pos}
use Rattle.maps.specs.Dart.{rev}
use Rattle.maps.specs.Map.{Map, darts}
use Rattle.maps.specs.Flow.{net}
use Rattle.maps.proofs.Darts.{rev_rev, rev_in}
use Rattle.arrays.proofs.Tabulate.{length_tabulate, get_d_tabulate}
use Rattle.dimacs.specs.Problem.{Problem, arc_at, in_flow, out_flow}
use Rattle.dimacs.specs.Drawn.{arc_of, drawn_problem}

-- numbers from 1 differ as those from 0 do
eqb_next : (v w : ℕ) → eqb (v + 1) (w + 1) ≡ eqb v w
eqb_next v w = go (ℕ_discrete v w)
  where
    go : Dec (v ≡ w) → eqb (v + 1) (w + 1) ≡ eqb v w
    go (yes e) = eqb_true (v + 1) (w + 1) (omega (arith, e)) ∙ sym (eqb_true v w e)
    go (no h) = eqb_false (v + 1) (w + 1) (λ e. h (omega (arith, e))) ∙ sym (eqb_false v w h)

pos_cond : (b : Bool) (n : ℕ) → pos (cond b n 0) ≡ when b (pos n)
pos_cond true n = refl
pos_cond false n = refl

when_sub : (b : Bool) (x y : ℤ) → when b (x -ℤ y) ≡ when b x -ℤ when b y
when_sub true x y = refl
when_sub false x y = refl

module _ (𝓜 : Map) (c : ℕ → ℤ) (s t : ℕ) where
  abbrev pub P : Problem
  P = drawn_problem 𝓜 c s t

  pub arcs_many : length P.arcs ≡ darts 𝓜
  arcs_many = length_tabulate (darts 𝓜) (arc_of 𝓜 c)

  pub arc_is : (d : ℕ) → d < darts 𝓜 → arc_at P d ≡ arc_of 𝓜 c d
  arc_is d l = get_d_tabulate (darts 𝓜) d (arc_of 𝓜 c) _ l

  -- sums over the arcs by their ends, as sums over the darts
  module _ (f : ℕ → ℕ) (v : ℕ) where
    pub out_darts : pos (out_flow P f (v + 1)) ≡ sumℤ (darts 𝓜) (λ d. when (eqb v (𝓜.tail d)) (pos (f d)))
    unfolding out_flow
    out_darts =
        ap (λ n. pos (sumℕ n term)) arcs_many
        ∙ sym (sum_pos (darts 𝓜) term)
        ∙ sum_ext Integers (darts 𝓜) (λ d. pos (term d)) (λ d. when (eqb v (𝓜.tail d)) (pos (f d)))
        (λ d l. ap (λ a. pos (cond (eqb (v + 1) a.start) (f d) 0)) (arc_is d l)
        ∙ ap (λ b. pos (cond b (f d) 0)) (eqb_next v (𝓜.tail d)) ∙ pos_cond (eqb v (𝓜.tail d)) (f d))
      where
        term : ℕ → ℕ
        term i = cond (eqb (v + 1) (arc_at P i).start) (f i) 0

    pub in-darts : pos (in_flow P f (v + 1)) ≡ sumℤ (darts 𝓜) (λ d. when (eqb v (𝓜.tail d)) (pos (f (rev d))))
    unfolding in_flow
    in-darts =
        ap (λ n. pos (sumℕ n term)) arcs_many
        ∙ sym (sum_pos (darts 𝓜) term)
        ∙ sum_ext Integers (darts 𝓜) (λ d. pos (term d)) (λ d. when (eqb v (𝓜.tail (rev d))) (pos (f d)))
        (λ d l. ap (λ a. pos (cond (eqb (v + 1) a.end) (f d) 0)) (arc_is d l)
        ∙ ap (λ b. pos (cond b (f d) 0)) (eqb_next v (𝓜.tail (rev d))) ∙ pos_cond (eqb v (𝓜.tail (rev d))) (f d))
        ∙ sym (sum_bijection Integers (darts 𝓜) rev rev (λ d. when (eqb v (𝓜.tail (rev d))) (pos (f d)))
        (rev_in 𝓜.edges) (rev_in 𝓜.edges) (λ d l. rev_rev d) (λ d l. rev_rev d))
        ∙ sum_ext Integers (darts 𝓜) (λ d. when (eqb v (𝓜.tail (rev (rev d)))) (pos (f (rev d)))) (λ d. when (eqb v (𝓜.tail d)) (pos (f (rev d))))
        (λ d l. ap (λ k. when (eqb v (𝓜.tail k)) (pos (f (rev d)))) (rev_rev d))
      where
        term : ℕ → ℕ
        term i = cond (eqb (v + 1) (arc_at P i).end) (f i) 0

  -- what leaves a node less what comes to it is the net flow of the darts
  pub net_of_arcs : (f : ℕ → ℕ) (φ : ℕ → ℤ) → ((d : ℕ) → d < darts 𝓜 → φ d ≡ pos (f d) -ℤ pos (f (rev d)))
      → (v : ℕ) → net 𝓜 φ v ≡ pos (out_flow P f (v + 1)) -ℤ pos (in_flow P f (v + 1))
  unfolding net
  net_of_arcs f φ h v =
      sum_ext Integers (darts 𝓜) (λ d. when (here d) (φ d)) (λ d. when (here d) (pos (f d)) -ℤ when (here d) (pos (f (rev d))))
      (λ d l. ap (when (here d)) (h d l) ∙ when_sub (here d) (pos (f d)) (pos (f (rev d))))
      ∙ sum_sub (darts 𝓜) (λ d. when (here d) (pos (f d))) (λ d. when (here d) (pos (f (rev d))))
      ∙ sym (ap₂ ◌-ℤ◌ (out_darts f v) (in-darts f v))
    where
      here : ℕ → Bool
      here d = eqb v (𝓜.tail d)
