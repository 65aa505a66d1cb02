-- A stage of the search: a dart is crossed and lowers a face, which comes to wait, or cannot.
use mathlib.Core.Path.{◌≡◌, sym, ◌∙◌, ap, subst}
use mathlib.Core.Logic.{inl, inr}
use Prim.Native.Nat.{ℕ, ◌+◌, ◌*◌, ◌%◌, ◌≤◌, ◌<◌}
use native.Mathlib.Omega.{arith}
use lib.ListN.{length, set, length-set}
use lib.IntN.{ℤ, pos, ◌+ℤ◌}
use lib.Signed.{mag, ◌≤ℤ◌, ◌<ℤ◌}
use Rattle.arrays.specs.At.{at, atℤ}
use Rattle.search.specs.Dual.{Dual, WellFormed, longest}
use Rattle.search.specs.Level.{HasLevel}
use Rattle.search.specs.Queue.{face_at, Pushed}
use Rattle.search.specs.Configuration.{Tables}
use Rattle.search.specs.inner.Progress.{Line, Stage, heights}
use Rattle.search.proofs.Change.{Changed, changed, stored, unchanged}
use Rattle.search.proofs.Line.{line_push, push_old}
use Rattle.search.proofs.Heights.{heights_fall}
use Rattle.search.proofs.Lowering.{lower, set_stays, quiet_lower}
use Rattle.search.proofs.Turning.{quiet_weaken, quiet_keep, widened}

-- a face y fell and waits: its flag is up, who waited before stands where it stood, and there is less left to fall
pub record Fell (faces first : ℕ) (t : Tables) (y : ℕ) (u : Tables) : Type 0 where
  pub flag : Changed (at t.waiting) (at u.waiting) y 1
  pub longer : t.last ≤ u.last
  pub places : (m : ℕ) → first ≤ m → m < t.last → face_at u.queue m ≡ face_at t.queue m
  pub spends : u.last + heights faces u.potentials ≤ t.last + heights faces t.potentials

pub stage_weaken : {N : Dual} {t : Tables} {first b : ℕ} (todo todo' : ℕ → Type 0) (b' : ℕ) → b ≤ b' → ((d : ℕ) → d < N.darts → todo d → todo' d)
    → Stage N t first b todo → Stage N t first b' todo'
stage_weaken todo todo' b' l w r = record {
  size_potentials = r.size_potentials;
  size_parents = r.size_parents;
  size_waiting = r.size_waiting;
  size_queue = r.size_queue;
  ordered = r.ordered;
  spent = r.spent;
  state = widened r.state b' l;
  line = r.line;
  quiet = quiet_weaken todo todo' w r.quiet;
}

module _ {N : Dual} (sound : WellFormed N) {t : Tables} {first b : ℕ} {todo : ℕ → Type 0} (r : Stage N t first b todo) (d : ℕ) (d_in : d < N.darts)
    (i : ℕ) (i-is : N.right d ≡ i) where
  -- it cannot lower
  pub stage_keep : atℤ t.potentials (N.left d) ≤ℤ (atℤ t.potentials i +ℤ N.length d) → Stage N t first b (λ e. todo e × (e ≡ d → ⊥))
  stage_keep le = record {
    size_potentials = r.size_potentials;
    size_parents = r.size_parents;
    size_waiting = r.size_waiting;
    size_queue = r.size_queue;
    ordered = r.ordered;
    spent = r.spent;
    state = r.state;
    line = r.line;
    quiet =
        quiet_keep todo d (subst (λ u. atℤ t.potentials (N.left d) ≤ℤ (atℤ t.potentials u +ℤ N.length d)) (sym i-is) le) r.quiet;
  }

  -- it lowers
  module _ (has : HasLevel (atℤ t.potentials) i) (b' : ℕ) (wider : b ≤ b') (few : b' < 1600000)
      (near : mag (atℤ t.potentials i +ℤ N.length d) ≤ b' * longest) (u : Tables)
      (e-ρ : u.potentials ≡ set t.potentials (N.left d) (atℤ t.potentials i +ℤ N.length d))
      (e-parents : u.parents ≡ set t.parents (N.left d) d) (less : (atℤ t.potentials i +ℤ N.length d) <ℤ atℤ t.potentials (N.left d)) where
    v : ℤ
    v = atℤ t.potentials i +ℤ N.length d

    v_is : v ≡ atℤ t.potentials (N.right d) +ℤ N.length d
    unfolding v
    v_is = ap (λ x. atℤ t.potentials x +ℤ N.length d) (sym i-is)

    v_less : v <ℤ atℤ t.potentials (N.left d)
    unfolding v
    v_less = less

    v_near : mag v ≤ b' * longest
    unfolding v
    v_near = near

    left_in : N.left d < N.faces
    left_in = sound.left_in d d_in

    left_small : N.left d < 1024
    left_small = omega (arith, left_in, sound.few_faces)

    has' : HasLevel (atℤ t.potentials) (N.right d)
    has' h = has (ap (atℤ t.potentials) (sym i-is) ∙ h)

    c_ρ : Changed (atℤ t.potentials) (atℤ u.potentials) (N.left d) v
    unfolding v
    c_ρ = rw e-ρ (stored t.potentials (N.left d) (atℤ t.potentials i +ℤ N.length d) (pos 0) (omega (arith, left_small, r.size_potentials)))

    c_parents : Changed (at t.parents) (at u.parents) (N.left d) d
    c_parents = rw e-parents (stored t.parents (N.left d) d 0 (omega (arith, left_small, r.size_parents)))

    fallen : heights N.faces u.potentials + 1 ≤ heights N.faces t.potentials
    fallen = heights_fall N.faces t.potentials u.potentials (N.left d) v c_ρ left_in (omega (arith, v_near)) v_less

    pub has_stays : (x : ℕ) → HasLevel (atℤ t.potentials) x → HasLevel (atℤ u.potentials) x
    has_stays =
        set_stays sound r.state d d_in has' v v_is v_less b' wider v_near (omega arith) c_ρ c_parents
        (changed (at t.waiting) (N.left d) 1)

    -- the face that fell has come to wait
    module _ (c_waiting : Changed (at t.waiting) (at u.waiting) (N.left d) 1) (longer : t.last ≤ u.last) (by_one : u.last ≤ t.last + 1) where
      stage' : length u.waiting ≡ 1024 → length u.queue ≡ 1024
          → Line N.faces u.waiting u.queue first u.last → Stage N u first b' (λ e. todo e × (e ≡ d → ⊥))
      stage' size-w size-q line' = record {
        size_potentials = rw e-ρ (simp length-set r.size_potentials);
        size_parents = rw e-parents (simp length-set r.size_parents);
        size_waiting = size-w;
        size_queue = size-q;
        ordered = omega (arith, r.ordered);
        spent = omega (arith, r.spent, fallen);
        state = lower sound r.state d d_in has' v v_is v_less b' wider v_near (omega arith) c_ρ c_parents c_waiting;
        line = line';
        quiet = quiet_lower sound r.state d d_in has' v v_is v_less b' wider v_near (omega arith) c_ρ c_parents c_waiting todo r.quiet;
      }

    -- it waits already, or it comes to
    module _ (w : (at t.waiting (N.left d) ≡ 1) × (u.waiting ≡ t.waiting) × (u.queue ≡ t.queue) × (u.last ≡ t.last)) where
      same_flag : Changed (at t.waiting) (at u.waiting) (N.left d) 1
      same_flag = rw w.1 (unchanged (at t.waiting) (N.left d) 1 w.0)

      waited : Stage N u first b' (λ e. todo e × (e ≡ d → ⊥))
      waited =
          stage' same_flag (omega (arith, w.3)) (omega (arith, w.3)) (rw w.1 r.size_waiting) (rw w.2 r.size_queue)
          (rw (w.1, w.2, w.3) r.line)

    module _ (w : (at t.waiting (N.left d) ≡ 1 → ⊥) × (u.waiting ≡ set t.waiting (N.left d) 1)
        × (u.queue ≡ set t.queue (t.last % 1024) (N.left d)) × (u.last ≡ t.last + 1)) where
      new_flag : Changed (at t.waiting) (at u.waiting) (N.left d) 1
      new_flag = rw w.1 (stored t.waiting (N.left d) 1 0 (omega (arith, left_small, r.size_waiting)))

      new_place : Changed (at t.queue) (at u.queue) (t.last % 1024) (N.left d)
      new_place = rw w.2 (stored t.queue (t.last % 1024) (N.left d) 0 (omega (arith, r.size_queue)))

      came : Stage N u first b' (λ e. todo e × (e ≡ d → ⊥))
      came =
          stage' new_flag (omega (arith, w.3)) (omega (arith, w.3))
          (rw w.1 (simp length-set r.size_waiting)) (rw w.2 (simp length-set r.size_queue))
          (rw w.3 (line_push r.line r.ordered sound.few_faces u.waiting u.queue (N.left d) left_in w.0 new_flag new_place))

      old_places : (m : ℕ) → first ≤ m → m < t.last → face_at u.queue m ≡ face_at t.queue m
      old_places m a b =
          push_old r.line r.ordered sound.few_faces u.waiting u.queue (N.left d) left_in w.0 new_flag new_place m a b

    pub stage_lower : Pushed t.waiting t.queue u.waiting u.queue (N.left d) t.last u.last → Stage N u first b' (λ e. todo e × (e ≡ d → ⊥))
    stage_lower (inl w) = waited w
    stage_lower (inr w) = came w

    pub stage_fell : Pushed t.waiting t.queue u.waiting u.queue (N.left d) t.last u.last → Fell N.faces first t (N.left d) u
    stage_fell (inl w) = record {
      flag = same_flag w;
      longer = omega (arith, w.3);
      places = λ m a b. rw w.2;
      spends = omega (arith, w.3, fallen);
    }
    stage_fell (inr w) = record { flag = new_flag w; longer = omega (arith, w.3); places = old_places w; spends = omega (arith, w.3, fallen) }
