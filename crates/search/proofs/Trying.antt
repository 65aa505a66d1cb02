-- Within a look: the darts of the face are tried one after the other, and each move of the code is one lemma.
use mathlib.Core.Path.{◌≡◌, sym, ◌∙◌, ap}
use mathlib.Core.List.{List}
use Prim.Native.Nat.{ℕ, ◌+◌, ◌*◌, ◌≤◌, ◌<◌}
use native.Mathlib.Omega.{arith}
use lib.ListN.{set, length-set}
use lib.IntN.{◌+ℤ◌}
use lib.Signed.{mag, ◌≤ℤ◌, ◌<ℤ◌}
use Rattle.arrays.specs.At.{at, atℤ}
use Rattle.grouping.specs.Grouped.{end_of, Grouped}
use Rattle.search.specs.Dual.{Dual, WellFormed, longest}
use Rattle.search.specs.Level.{HasLevel}
use Rattle.search.specs.Queue.{face_at, Pushed}
use Rattle.search.specs.Configuration.{Tables}
use Rattle.search.specs.Look.{taken_up}
use Rattle.search.specs.inner.Progress.{Stage, Passing}
use Rattle.search.proofs.Order.{mag_add}
use Rattle.search.proofs.Change.{Changed, stored}
use Rattle.search.proofs.Line.{line_take}
use Rattle.search.proofs.Turning.{quiet_weaken, quiet_take, clear, widened}
use Rattle.search.proofs.Stages.{Fell, stage_weaken, stage_keep, stage_lower, stage_fell, has_stays}

-- the darts of a group that are still to be tried, from place j on
abbrev Todo : List ℕ → ℕ → ℕ → ℕ → Type 0
Todo order e j d = (m : ℕ) × (j ≤ m) × (m < e) × (at order m ≡ d)

-- the face i, which stood at place `first`, is looked at: its darts before place j of the order are tried
pub record Trying (N : Dual) (order starts : List ℕ) (t : Tables) (first b i j : ℕ) : Type 0 where
  pub i_in : i < N.faces
  pub from_start : at starts i ≤ j
  pub to_end : j ≤ end_of N.darts (at starts) i
  pub end_in : end_of N.darts (at starts) i ≤ 1024
  pub few : b + 1024 < 1600000
  pub has : HasLevel (atℤ t.potentials) i
  pub stage : Stage N t (first + 1) (b + j) (Todo order (end_of N.darts (at starts) i) j)

module _ {N : Dual} (sound : WellFormed N) {order starts : List ℕ} (g : Grouped N.right N.darts N.faces order starts) where
  -- where the groups end
  abbrev stop : ℕ → ℕ
  stop = end_of N.darts (at starts)

  -- ── the look begins ──
  module _ {t : Tables} {first b : ℕ} (r : Passing N t first b) (few : b + 1024 < 1600000) (some : first < t.last)
      (i : ℕ) (i-is : i ≡ face_at t.queue first) where
    pub looked_in : i < N.faces
    looked_in = rw i-is (r.line.inside first (omega arith) some)

    waits : at t.waiting i ≡ 1
    waits = rw i-is (r.line.flagged first (omega arith) some)

    pub off_flag : Changed (at t.waiting) (at (set t.waiting i 0)) i 0
    off_flag = stored t.waiting i 0 0 (omega (arith, looked_in, r.size_waiting, sound.few_faces))

    pub begin_trying : Trying N order starts (taken_up i t) first b i (at starts i)
    begin_trying = record {
      i_in = looked_in;
      from_start = omega arith;
      to_end = g.ordered i looked_in;
      end_in = omega (arith, g.ends_in i looked_in, sound.few_darts);
      few = few;
      has = r.state.waits i looked_in waits;
      stage = record {
        size_potentials = r.size_potentials;
        size_parents = r.size_parents;
        size_waiting = simp length-set r.size_waiting;
        size_queue = r.size_queue;
        ordered = omega (arith, some);
        spent = r.spent;
        state = widened (clear r.state i off_flag) (b + at starts i) (omega arith);
        line = line_take r.line some i i-is off_flag;
        quiet =
            quiet_weaken (λ d. N.right d ≡ i) (Todo order (stop i) (at starts i))
            (λ d b q. (g.place d, omega (arith, g.from_start d b, ap (at starts) q), omega (arith, g.before_end d b, ap stop q), g.stands d b))
            (quiet_take i 0 off_flag r.quiet);
      };
    }

  -- what is to be tried after the dart at j
  todo_next : (e j d : ℕ) → d ≡ at order j → (x : ℕ) → (Todo order e j x) × (x ≡ d → ⊥) → Todo order e (j + 1) x
  todo_next e j d p x t = (t.0.0, omega (arith, t.0.1, ne), t.0.2, t.0.3)
    where
      ne : t.0.0 ≡ j → ⊥
      ne q = t.1 (sym t.0.3 ∙ ap (at order) q ∙ sym p)

  -- ── the dart d at place j is tried ──
  module _ {t : Tables} {first b i j : ℕ} (r : Trying N order starts t first b i j) (d : ℕ) (more : j < stop i) (d-is : d ≡ at order j) where
    pub try_in : d < N.darts
    try_in = rw d-is (g.dart i j r.i_in r.from_start more)

    try_right : N.right d ≡ i
    try_right = rw d-is (g.right_is i j r.i_in r.from_start more)

    pub try_left : N.left d < N.faces
    try_left = sound.left_in d try_in

    near : mag (atℤ t.potentials i) ≤ (b + j) * longest
    near = (r.stage.state.reached i r.i_in r.has).0

    pub try_near : mag (atℤ t.potentials i) + mag (N.length d) + 1 < 9223372036854775808
    try_near = omega (arith, near, sound.short d try_in, r.few, r.end_in)

    next_near : mag (atℤ t.potentials i +ℤ N.length d) ≤ (b + (j + 1)) * longest
    next_near = omega (arith, near, mag_add (atℤ t.potentials i) (N.length d), sound.short d try_in)

    next_few : b + (j + 1) < 1600000
    next_few = omega (arith, r.few, r.end_in)

    on : {u : Tables} → HasLevel (atℤ u.potentials) i → Stage N u (first + 1) (b + (j + 1)) (λ e. (Todo order (stop i) j e) × (e ≡ d → ⊥))
        → Trying N order starts u first b i (j + 1)
    on h s = record {
      i_in = r.i_in;
      from_start = omega (arith, r.from_start);
      to_end = omega arith;
      end_in = r.end_in;
      few = r.few;
      has = h;
      stage =
          stage_weaken (λ e. (Todo order (stop i) j e) × (e ≡ d → ⊥)) (Todo order (stop i) (j + 1)) (b + (j + 1)) (omega arith)
          (λ x l q. todo_next (stop i) j d d-is x q) s;
    }

    -- it cannot lower
    pub try_keep : atℤ t.potentials (N.left d) ≤ℤ (atℤ t.potentials i +ℤ N.length d) → Trying N order starts t first b i (j + 1)
    try_keep le =
        on r.has
        (stage_weaken (λ e. (Todo order (stop i) j e) × (e ≡ d → ⊥)) (λ e. (Todo order (stop i) j e) × (e ≡ d → ⊥)) (b + (j + 1)) (omega arith)
        (λ x l q. q) (stage_keep sound r.stage d try_in i try_right le))

    -- it lowers
    module _ (u : Tables) (e-ρ : u.potentials ≡ set t.potentials (N.left d) (atℤ t.potentials i +ℤ N.length d))
        (e-parents : u.parents ≡ set t.parents (N.left d) d) (less : (atℤ t.potentials i +ℤ N.length d) <ℤ atℤ t.potentials (N.left d))
        (p : Pushed t.waiting t.queue u.waiting u.queue (N.left d) t.last u.last) where
      wider : b + j ≤ b + (j + 1)
      wider = omega arith

      pub try_lower : Trying N order starts u first b i (j + 1)
      try_lower =
          on (has_stays sound r.stage d try_in i try_right r.has (b + (j + 1)) wider next_few next_near u e-ρ e-parents less i r.has)
          (stage_lower sound r.stage d try_in i try_right r.has (b + (j + 1)) wider next_few next_near u e-ρ e-parents less p)

      pub try_fell : Fell N.faces (first + 1) t (N.left d) u
      try_fell = stage_fell sound r.stage d try_in i try_right r.has (b + (j + 1)) wider next_few next_near u e-ρ e-parents less p

  -- ── all its darts are tried ──
  pub tried : {t : Tables} {first b i j : ℕ} → Trying N order starts t first b i j → stop i ≤ j → Passing N t (first + 1) (b + 1024)
  tried {b = b} {i = i} {j = j} r all =
      stage_weaken (Todo order (stop i) j) (λ d. ⊥) (b + 1024) (omega (arith, r.to_end, r.end_in)) (λ d l q. omega (arith, q.1, q.2)) r.stage
