-- The arrays at first: the proposed parents are taken, then the elements of the roots are stored; and what the search keeps true holds of them.
use mathlib.Core.Path.{◌≡◌, sym, ◌∙◌, ap}
use mathlib.Core.Logic.{◌⊎◌, inl, inr}
use mathlib.Core.Bool.{Bool, true, false, cond}
use mathlib.Core.List.{List}
use Prim.Native.Nat.{ℕ, ◌+◌, ◌≤◌, ◌<◌}
use native.Mathlib.Omega.{arith}
use native.Mathlib.Decide.{ℕ_discrete}
use lib.Dec.{eqb, ltb}
use lib.ListN.{length, set, take, length-set}
use lib.Seq.{get_or-take, length-take-le}
use lib.IntN.{ℤ, pos}
use Rattle.integers.proofs.Tests.{and_both, eqb_eq}
use Rattle.integers.proofs.Pigeonhole.{seek}
use Rattle.arrays.specs.At.{at, atℤ}
use Rattle.search.specs.Dual.{Dual, WellFormed, Joined}
use Rattle.search.specs.Level.{far}
use Rattle.search.specs.Queue.{face_at, Stands}
use Rattle.search.specs.Moves.{sensible, parent_from, Begun}
use Rattle.search.specs.Given.{Given, dual}
use Rattle.search.specs.Configuration.{tables_of}
use Rattle.search.specs.inner.Progress.{Line, Passing, height}
use Rattle.search.proofs.Change.{Changed, stored}
use Rattle.search.proofs.Heights.{sum_bounded, first_height}
use Rattle.search.proofs.Turning.{NoRoot, begin_state, begin_quiet, first_level}

-- what is taken of a proposal is no dart, or has the face on its left
pub sensible_left : (lefts : List ℕ) (darts f p : ℕ) → darts ≤ 1024 → cond (sensible lefts darts f p) p 1024 < darts
    → at lefts (cond (sensible lefts darts f p) p 1024) ≡ f
sensible_left lefts darts f p few = by (sensible lefts darts f p) mathlib.Core.Path.refl
  where
    by : (b : Bool) → sensible lefts darts f p ≡ b → cond b p 1024 < darts → at lefts (cond b p 1024) ≡ f
    by true e l = eqb_eq (at lefts p) f (and_both (ltb p darts) (eqb (at lefts p) f) e).1
    by false e l = absurd (omega arith)

module _ {lefts : List ℕ} {darts faces : ℕ} {proposal : List ℕ} where
  pub begun_none : {ρ : List ℤ} {parents waiting : List ℕ} (queue : List ℕ) → length ρ ≡ 1024 → length parents ≡ 1024 → length waiting ≡ 1024
      → ((f : ℕ) → f < 1024 → atℤ ρ f ≡ far) → ((f : ℕ) → f < faces → at parents f ≡ parent_from lefts darts proposal f)
      → ((f : ℕ) → faces ≤ f → at parents f ≡ at proposal f) → ((f : ℕ) → f < 1024 → at waiting f ≡ 0)
      → Begun lefts darts faces proposal ρ parents waiting queue 0
  begun_none queue p q r a b d c = record {
    size_potentials = p;
    size_parents = q;
    size_waiting = r;
    zero = λ m l. absurd (omega arith);
    others = λ f l n. a f l;
    none = λ m l. absurd (omega arith);
    proposed = λ f l n. b f l;
    beyond = λ f l m n. d f l;
    waits = λ m l. absurd (omega arith);
    rests = λ f l n. c f l;
  }

  -- one root more
  pub begun_more : {ρ : List ℤ} {parents waiting : List ℕ} (queue : List ℕ) {m : ℕ} (f : ℕ) → f ≡ at queue m → f < 1024
      → Begun lefts darts faces proposal ρ parents waiting queue m
      → Begun lefts darts faces proposal (set ρ f (pos 0)) (set parents f 1024) (set waiting f 1) queue (m + 1)
  begun_more {ρ} {parents} {waiting} queue {m} f e l b = record {
    size_potentials = simp length-set b.size_potentials;
    size_parents = simp length-set b.size_parents;
    size_waiting = simp length-set b.size_waiting;
    zero = λ i h. by i h (atℤ (set ρ f (pos 0))) (pos 0) (λ q. c_ρ.at (at queue i) q) (λ n k. c_ρ.off (at queue i) n ∙ b.zero i k);
    others = λ g h n. c_ρ.off g (other g n) ∙ b.others g h (λ i k. n i (omega arith));
    none = λ i h. by i h (at (set parents f 1024)) 1024 (λ q. c_parents.at (at queue i) q) (λ n k. c_parents.off (at queue i) n ∙ b.none i k);
    proposed = λ g h n. c_parents.off g (other g n) ∙ b.proposed g h (λ i k. n i (omega arith));
    beyond = λ g h k n. c_parents.off g (other g n) ∙ b.beyond g h k (λ i k. n i (omega arith));
    waits = λ i h. by i h (at (set waiting f 1)) 1 (λ q. c_waiting.at (at queue i) q) (λ n k. c_waiting.off (at queue i) n ∙ b.waits i k);
    rests = λ g h n. c_waiting.off g (other g n) ∙ b.rests g h (λ i k. n i (omega arith));
  }
    where
      c_ρ : Changed (atℤ ρ) (atℤ (set ρ f (pos 0))) f (pos 0)
      c_ρ = stored ρ f (pos 0) (pos 0) (omega (arith, b.size_potentials))

      c_parents : Changed (at parents) (at (set parents f 1024)) f 1024
      c_parents = stored parents f 1024 0 (omega (arith, b.size_parents))

      c_waiting : Changed (at waiting) (at (set waiting f 1)) f 1
      c_waiting = stored waiting f 1 0 (omega (arith, b.size_waiting))

      other : (g : ℕ) → ((i : ℕ) → i < m + 1 → at queue i ≡ g → ⊥) → g ≡ f → ⊥
      other g n q = n m (omega arith) (sym e ∙ sym q)

      earlier : (i : ℕ) → i < m + 1 → (at queue i ≡ f → ⊥) → i < m
      earlier i h n = omega (arith, ne)
        where
          ne : i ≡ m → ⊥
          ne q = n (ap (at queue) q ∙ sym e)

      -- of a root: the new one, or one before it
      by : {A : Type 0} (i : ℕ) → i < m + 1 → (value : ℕ → A) (v : A) → (at queue i ≡ f → value (at queue i) ≡ v)
          → ((at queue i ≡ f → ⊥) → i < m → value (at queue i) ≡ v) → value (at queue i) ≡ v
      by i h value v here there = go (ℕ_discrete (at queue i) f)
        where
          go : Dec (at queue i ≡ f) → value (at queue i) ≡ v
          go (yes q) = here q
          go (no n) = there n (earlier i h n)

-- ── the dual whose roots stand at the first places of the queue ──
module _ (G : Given) (queue : List ℕ) (roots : ℕ) (size : length queue ≡ 1024) (few : roots ≤ 1024) where
  pub count : length (take roots queue) ≡ roots
  count = length-take-le roots queue (omega (arith, size))

  pub root_is : (m : ℕ) → m < roots → at (take roots queue) m ≡ at queue m
  root_is m l = get_or-take roots queue m 0 l

  module _ (sound : WellFormed (dual G (take roots queue))) where
    pub root_face : (m : ℕ) → m < roots → at queue m < G.faces
    root_face m l = omega (arith, root_is m l, sound.root_in m (omega (arith, count)))

    module _ (joined : Joined (dual G (take roots queue))) {proposal : List ℕ} {ρ : List ℤ} {parents waiting : List ℕ}
        (b : Begun G.lefts G.darts G.faces proposal ρ parents waiting queue roots) where
      abbrev N : Dual
      N = dual G (take roots queue)

      -- each root once
      apart : (i j : ℕ) → i < j → j < roots → at queue i ≡ at queue j → ⊥
      apart i j l h e =
          omega (
            arith,
            joined.part_root i (omega (arith, count)),
            joined.part_root j (omega (arith, count)),
            ap joined.part (root_is i (omega arith) ∙ e ∙ sym (root_is j h)),
          )

      place_is : (i : ℕ) → i < roots → face_at queue i ≡ at queue i
      place_is i l = ap (at queue) (omega arith)

      line : Line G.faces waiting queue 0 roots
      line = record {
        inside = λ i a l. rw (place_is i l) (root_face i l);
        once = λ i j a m l e. apart i j m l (sym (place_is i (omega arith)) ∙ e ∙ place_is j l);
        flagged = λ i a l. ap (at waiting) (place_is i l) ∙ b.waits i l;
        stands = λ f l h. stands f l h (seek (at queue) f roots);
      }
        where
          stands : (f : ℕ) → f < G.faces → at waiting f ≡ 1
              → ((i : ℕ) × (i < roots) × (at queue i ≡ f)) ⊎ ((i : ℕ) → i < roots → at queue i ≡ f → ⊥) → Stands queue 0 roots f
          stands f l h (inl s) = (s.0, omega arith, s.1, place_is s.0 s.1 ∙ s.2)
          stands f l h (inr c) = absurd (omega (arith, b.rests f (omega (arith, sound.few_faces)) c))

      no_root : (f : ℕ) → NoRoot N f → (m : ℕ) → m < roots → at queue m ≡ f → ⊥
      no_root f c m l e = c m (omega (arith, count)) (root_is m l ∙ e)

      zero : (m : ℕ) → m < N.roots → atℤ ρ (N.root m) ≡ pos 0
      zero m l = ap (atℤ ρ) (root_is m (omega (arith, count))) ∙ b.zero m (omega (arith, count))

      others : (f : ℕ) → f < G.faces → NoRoot N f → atℤ ρ f ≡ far
      others f l c = b.others f (omega (arith, sound.few_faces)) (no_root f c)

      none : (m : ℕ) → m < N.roots → G.darts ≤ at parents (N.root m)
      none m l = omega (arith, ap (at parents) (root_is m (omega (arith, count))), b.none m (omega (arith, count)), sound.few_darts)

      left : (f : ℕ) → f < G.faces → at parents f < G.darts → at G.lefts (at parents f) ≡ f
      left f l p = by (seek (at queue) f roots)
        where
          by : ((i : ℕ) × (i < roots) × (at queue i ≡ f)) ⊎ ((i : ℕ) → i < roots → at queue i ≡ f → ⊥) → at G.lefts (at parents f) ≡ f
          by (inl s) = absurd (omega (arith, ap (at parents) s.2, b.none s.0 s.1, sound.few_darts))
          by (inr c) =
              let e = b.proposed f l c in
              ap (at G.lefts) e ∙ sensible_left G.lefts G.darts f (at proposal f) sound.few_darts (rw e at p)

      pub begun_passing : (bound : ℕ) → Passing (dual G (take roots queue)) (tables_of ρ parents waiting queue roots) 0 bound
      begun_passing bound = record {
        size_potentials = b.size_potentials;
        size_parents = b.size_parents;
        size_waiting = b.size_waiting;
        size_queue = size;
        ordered = omega arith;
        spent =
            omega (
              arith,
              sum_bounded G.faces 3600000000000000 (λ f. height (atℤ ρ f))
                  (λ f l. first_height (atℤ ρ f) (first_level N (atℤ ρ) (at parents) (at waiting) zero others none f l)),
              sound.few_faces,
            );
        state =
            begin_state N (atℤ ρ) (at parents) (at waiting) zero others none bound left
            (λ f l c h. omega (arith, b.rests f (omega (arith, sound.few_faces)) (no_root f c)));
        line = line;
        quiet =
            begin_quiet N (atℤ ρ) (at parents) (at waiting) zero others none sound
            (λ m l. ap (at waiting) (root_is m (omega (arith, count))) ∙ b.waits m (omega (arith, count)));
      }
