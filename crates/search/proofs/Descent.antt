-- The way down: each face of the ascent follows its parent, the last of them first.
use mathlib.Core.Path.{◌≡◌, refl, sym, ◌∙◌, ap, subst}
use mathlib.Core.Bool.{true}
use mathlib.Core.List.{List}
use Prim.Native.Nat.{ℕ, suc, ◌*◌, ◌≤◌, ◌<◌}
use native.Mathlib.Omega.{arith}
use native.Mathlib.Decide.{ℕ_discrete}
use lib.ListN.{set, length-set}
use lib.IntN.{ℤ, pos, ◌+ℤ◌}
use lib.Signed.{mag, ◌≤ℤ◌}
use Rattle.integers.proofs.Laws.{le_antisym}
use Rattle.maps.specs.Orbit.{iter}
use Rattle.arrays.specs.At.{at, atℤ}
use Rattle.arrays.specs.Maps.{right_of}
use Rattle.search.specs.Dual.{Dual, dual_of, WellFormed, longest}
use Rattle.search.specs.Level.{HasLevel, far}
use Rattle.search.specs.Queue.{Pushed}
use Rattle.search.specs.Moves.{Relaxed}
use Rattle.search.specs.Configuration.{Tables, tables_of}
use Rattle.search.specs.Straightening.{Follows, leaves, keeps, falls}
use Rattle.search.specs.inner.Progress.{Passing, Descending}
use Rattle.search.proofs.Order.{mag_add}
use Rattle.search.proofs.Change.{Changed, stored}
use Rattle.search.proofs.Turning.{orphaned}
use Rattle.search.proofs.Stages.{Fell, stage_weaken, stage_lower, stage_fell}

module _ (lefts : List ℕ) (lengths : List ℤ) (darts faces : ℕ) (roots : List ℕ) (sound : WellFormed (dual_of lefts lengths darts faces roots)) where
  abbrev N : Dual
  N = dual_of lefts lengths darts faces roots

  module _ {t : Tables} {first b : ℕ} (wide : 1024 ≤ b) (thin : b < 1600000) {g : ℕ → ℕ} {f k deep rest : ℕ}
      (h : Descending N t first b g f (suc k) deep rest) where
    -- the face that follows, its parent, and the face across that
    abbrev y : ℕ
    y = iter g k f

    abbrev p : ℕ
    p = at t.parents y

    abbrev w : ℕ
    w = right_of lefts p

    pub y_in : y < faces
    y_in = h.inside k (omega arith)

    pub p_in : p < darts
    p_in = h.onward k (omega arith)

    pub left_is : at lefts p ≡ y
    left_is = h.passing.state.left_is y y_in p_in

    w_is : w ≡ iter g (suc k) f
    w_is = h.across k (omega arith)

    pub w_in : w < faces
    w_in = sound.right_in p p_in

    pub w_near : HasLevel (atℤ t.potentials) w → mag (atℤ t.potentials w) ≤ deep * longest
    w_near has = subst (λ x. mag (atℤ t.potentials x) ≤ deep * longest) (sym w_is) (h.near (λ e. has (ap (atℤ t.potentials) w_is ∙ e)))

    v_near : HasLevel (atℤ t.potentials) w → mag (atℤ t.potentials w +ℤ atℤ lengths p) ≤ suc deep * longest
    v_near has = omega (arith, w_near has, mag_add (atℤ t.potentials w) (atℤ lengths p), sound.short p p_in)

    -- a face other than y, before it in the ascent
    before : (j : ℕ) → j < k → iter g j f ≡ y → ⊥
    before j l = h.apart j k l (omega arith)

    -- ── the face across has no level ──
    module _ (e : atℤ t.potentials w ≡ far) where
      none : HasLevel (atℤ t.potentials) y → ⊥
      none has = h.passing.state.above y y_in p_in has e

      c_parents : Changed (at t.parents) (at (set t.parents y 1024)) y 1024
      c_parents = stored t.parents y 1024 0 (omega (arith, y_in, sound.few_faces, h.passing.size_parents))

      pub leaves_on : Descending N (tables_of t.potentials (set t.parents y 1024) t.waiting t.queue t.last) first b g f k (suc deep) rest
      leaves_on = record {
        passing = record {
          size_potentials = h.passing.size_potentials;
          size_parents = simp length-set h.passing.size_parents;
          size_waiting = h.passing.size_waiting;
          size_queue = h.passing.size_queue;
          ordered = h.passing.ordered;
          spent = h.passing.spent;
          state = orphaned h.passing.state y 1024 sound.few_darts none c_parents;
          line = h.passing.line;
          quiet = h.passing.quiet;
        };
        inside = λ j l. h.inside j (omega arith);
        onward = λ j l. rw (c_parents.off (iter g j f) (before j l)) (h.onward j (omega arith));
        across = λ j l. ap (right_of lefts) (c_parents.off (iter g j f) (before j l)) ∙ h.across j (omega arith);
        apart = λ i j l m. h.apart i j l (omega arith);
        near = λ has. absurd (none has);
        room = omega (arith, h.room);
      }

      pub leaves_parents : (x : ℕ) → darts ≤ at t.parents x → darts ≤ at (set t.parents y 1024) x
      leaves_parents x l = by (ℕ_discrete x y)
        where
          by : Dec (x ≡ y) → darts ≤ at (set t.parents y 1024) x
          by (yes q) = omega (arith, c_parents.at x q, sound.few_darts)
          by (no q) = rw (c_parents.off x q) l

    -- ── y is there already ──
    module _ (has : HasLevel (atℤ t.potentials) w) (le : atℤ t.potentials (at lefts p) ≤ℤ (atℤ t.potentials w +ℤ atℤ lengths p)) where
      level_is : HasLevel (atℤ t.potentials) y → atℤ t.potentials y ≡ atℤ t.potentials w +ℤ atℤ lengths p
      level_is hy =
          le_antisym
          (subst (λ x. atℤ t.potentials x ≤ℤ (atℤ t.potentials w +ℤ atℤ lengths p)) left_is le) (h.passing.state.low y y_in p_in hy)

      pub keeps_on : Descending N t first b g f k (suc deep) rest
      keeps_on = record {
        passing = h.passing;
        inside = λ j l. h.inside j (omega arith);
        onward = λ j l. h.onward j (omega arith);
        across = λ j l. h.across j (omega arith);
        apart = λ i j l m. h.apart i j l (omega arith);
        near = λ hy. rw (level_is hy) (v_near has);
        room = omega (arith, h.room);
      }

    -- ── y falls ──
    module _ (has : HasLevel (atℤ t.potentials) w) (u : Tables)
        (r : Relaxed lefts lengths t.potentials t.parents u.potentials u.parents w p true)
        (q : Pushed t.waiting t.queue u.waiting u.queue y t.last u.last) where
      near' : mag (atℤ t.potentials w +ℤ atℤ lengths p) ≤ b * longest
      near' = omega (arith, v_near has, h.room, sound.few_faces)

      q' : Pushed t.waiting t.queue u.waiting u.queue (at lefts p) t.last u.last
      q' = subst (λ x. Pushed t.waiting t.queue u.waiting u.queue x t.last u.last) (sym left_is) q

      passing' : Passing N u first b
      passing' =
          stage_weaken (λ e. ⊥ × (e ≡ p → ⊥)) (λ e. ⊥) b (omega arith) (λ d l e. e.0)
          (stage_lower sound h.passing p p_in w refl has b (omega arith) thin near' u r.0 r.1 r.2 q')

      pub falls_fell : Fell faces first t y u
      falls_fell =
          subst (λ x. Fell faces first t x u) left_is
          (stage_fell sound h.passing p p_in w refl has b (omega arith) thin near' u r.0 r.1 r.2 q')

      -- the parents are as they were
      same : (x : ℕ) → at u.parents x ≡ at t.parents x
      same x = rw r.1 (by (ℕ_discrete x y))
        where
          c : Changed (at t.parents) (at (set t.parents (at lefts p) p)) (at lefts p) p
          c = stored t.parents (at lefts p) p 0 (omega (arith, left_is, y_in, sound.few_faces, h.passing.size_parents))

          by : Dec (x ≡ y) → at (set t.parents (at lefts p) p) x ≡ at t.parents x
          by (yes e) = c.at x (e ∙ sym left_is) ∙ ap (at t.parents) (sym e)
          by (no n) = c.off x (λ e. n (e ∙ left_is))

      c_ρ : Changed (atℤ t.potentials) (atℤ u.potentials) y (atℤ t.potentials w +ℤ atℤ lengths p)
      c_ρ =
          rw r.0
          (subst (λ x. Changed (atℤ t.potentials) (atℤ (set t.potentials (at lefts p) (atℤ t.potentials w +ℤ atℤ lengths p))) x
          (atℤ t.potentials w +ℤ atℤ lengths p)) left_is
          (stored t.potentials (at lefts p) (atℤ t.potentials w +ℤ atℤ lengths p) (pos 0)
          (omega (arith, left_is, y_in, sound.few_faces, h.passing.size_potentials))))

      pub falls_on : Descending N u first b g f k (suc deep) rest
      falls_on = record {
        passing = passing';
        inside = λ j l. h.inside j (omega arith);
        onward = λ j l. rw (same (iter g j f)) (h.onward j (omega arith));
        across = λ j l. ap (right_of lefts) (same (iter g j f)) ∙ h.across j (omega arith);
        apart = λ i j l m. h.apart i j l (omega arith);
        near = λ hy. rw (c_ρ.at y refl) (v_near has);
        room = omega (arith, h.room);
      }

      pub falls_parents : (x : ℕ) → darts ≤ at t.parents x → darts ≤ at u.parents x
      falls_parents x l = rw (same x) l

      -- another face has the level that it had
      pub falls_others : (x : ℕ) → (x ≡ y → ⊥) → atℤ u.potentials x ≡ atℤ t.potentials x
      falls_others x n = c_ρ.off x n

    -- ── whichever it is ──
    pub follow_on : {u : Tables} → Follows lefts lengths y t u → Descending N u first b g f k (suc deep) rest
    follow_on (leaves e) = leaves_on e
    follow_on (keeps has r) = keeps_on has r.2
    follow_on {u} (falls has r q) = falls_on has u r q

    pub follow_parents : {u : Tables} → Follows lefts lengths y t u → (x : ℕ) → darts ≤ at t.parents x → darts ≤ at u.parents x
    follow_parents (leaves e) x l = leaves_parents e x l
    follow_parents (keeps has r) x l = l
    follow_parents {u} (falls has r q) x l = falls_parents has u r q x l

    pub follow_others : {u : Tables} → Follows lefts lengths y t u → (x : ℕ) → (x ≡ y → ⊥) → atℤ u.potentials x ≡ atℤ t.potentials x
    follow_others (leaves e) x n = refl
    follow_others (keeps has r) x n = refl
    follow_others {u} (falls has r q) x n = falls_others has u r q x n
