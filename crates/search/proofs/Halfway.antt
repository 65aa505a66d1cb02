-- Where a look has come to: its darts before place j are tried, and what comes of the rest comes of the whole.
use mathlib.Core.Path.{◌≡◌, refl, ap, subst}
use mathlib.Core.Bool.{Bool, true, false}
use mathlib.Core.List.{List}
use Prim.Native.Nat.{ℕ, ◌+◌, ◌≤◌, ◌<◌}
use lib.IntN.{ℤ}
use Rattle.arrays.specs.At.{at}
use Rattle.search.specs.Dual.{WellFormed}
use Rattle.search.specs.Queue.{Pushed}
use Rattle.search.specs.Moves.{Relaxed}
use Rattle.search.specs.Given.{Given, dual, InGroups, end_at}
use Rattle.search.specs.Configuration.{Tables, tables_of}
use Rattle.search.specs.Look.{Crosses, done, keep, lower, taken_up}
use Rattle.search.specs.inner.Progress.{Looking}
use Rattle.search.proofs.Trying.{Trying, begin_trying, try_keep, try_lower}

pub record Halfway (G : Given) (start : Tables) (i s j : ℕ) (now : Tables) : Type 0 where
  pub roots : List ℕ
  pub sound : WellFormed (dual G roots)
  pub first : ℕ
  pub bound : ℕ
  pub trying : Trying (dual G roots) G.order G.starts now first bound i j
  pub back : (u : Tables) → Crosses G i (end_at G i) j now u → Crosses G i (end_at G i) s start u

module _ (G : Given) (g : InGroups G) where
  pub look_begins : {t : Tables} (i s : ℕ) → Looking (dual G) t i → s ≡ at G.starts i
      → Halfway G (taken_up i t) i s s (taken_up i t)
  look_begins i s h s-is = record {
    roots = h.roots;
    sound = h.sound;
    first = h.first;
    bound = h.bound;
    trying = rw s-is (begin_trying h.sound g h.passing h.few h.some i h.front_is);
    back = λ u q. q;
  }

  -- the dart at place j is crossed: it could not lower, or it did, and its left face was pushed
  module _ {start now : Tables} {i s j : ℕ} (h : Halfway G start i s j now) (d : ℕ) (l : j < end_at G i) (d-is : d ≡ at G.order j) where
    pub look_keeps : (ρ : List ℤ) (parents : List ℕ) (b : Bool) → b ≡ false → Relaxed G.lefts G.lengths now.potentials now.parents ρ parents i d b
        → Halfway G start i s (j + 1) (tables_of ρ parents now.waiting now.queue now.last)
    look_keeps ρ parents b e r = rw (kept.0, kept.1) again
      where
        kept : Relaxed G.lefts G.lengths now.potentials now.parents ρ parents i d false
        kept = subst (Relaxed G.lefts G.lengths now.potentials now.parents ρ parents i d) e r

        again : Halfway G start i s (j + 1) now
        again = record {
          roots = h.roots;
          sound = h.sound;
          first = h.first;
          bound = h.bound;
          trying = try_keep h.sound g h.trying d l d-is kept.2;
          back = λ u q.
              h.back u
              (keep l
              (subst (λ x. Relaxed G.lefts G.lengths now.potentials now.parents now.potentials now.parents i x false) d-is
              (refl, refl, kept.2)) q);
        }

    pub look_lowers : (v : Tables) (f : ℕ) → f ≡ at G.lefts d
        → (b : Bool) → b ≡ true → Relaxed G.lefts G.lengths now.potentials now.parents v.potentials v.parents i d b
        → Pushed now.waiting now.queue v.waiting v.queue f now.last v.last
        → Halfway G start i s (j + 1) v
    look_lowers v f f-is b e r p = record {
      roots = h.roots;
      sound = h.sound;
      first = h.first;
      bound = h.bound;
      trying = try_lower h.sound g h.trying d l d-is v lowered.0 lowered.1 lowered.2 pushed;
      back = λ u q.
          h.back u
          (lower l (subst (λ x. Relaxed G.lefts G.lengths now.potentials now.parents v.potentials v.parents i x true) d-is lowered)
          (subst (λ x. Pushed now.waiting now.queue v.waiting v.queue x now.last v.last) (ap (at G.lefts) d-is) pushed) q);
    }
      where
        lowered : Relaxed G.lefts G.lengths now.potentials now.parents v.potentials v.parents i d true
        lowered = subst (Relaxed G.lefts G.lengths now.potentials now.parents v.potentials v.parents i d) e r

        pushed : Pushed now.waiting now.queue v.waiting v.queue (at G.lefts d) now.last v.last
        pushed = subst (λ x. Pushed now.waiting now.queue v.waiting v.queue x now.last v.last) f-is p

  pub look_ends : {start now : Tables} {i s j : ℕ} → Halfway G start i s j now → end_at G i ≤ j → s ≡ at G.starts i
      → Crosses G i (end_at G i) (at G.starts i) start now
  look_ends {start} {now} {i = i} h l s-is = subst (λ x. Crosses G i (end_at G i) x start now) s-is (h.back now (done l))
