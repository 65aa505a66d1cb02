-- A straightening, as the code comes by it: what comes of the faces from f on comes of the whole.
use mathlib.Core.Path.{◌≡◌, refl, sym, ◌∙◌, ap, subst}
use mathlib.Core.Logic.{◌⊎◌, inl, inr}
use mathlib.Core.List.{List}
use Prim.Native.Nat.{ℕ, ◌+◌, ◌-◌, ◌≤◌, ◌<◌}
use native.Mathlib.Omega.{arith}
use native.Mathlib.Decide.{ℕ_discrete}
use lib.ListN.{length}
use lib.ListN.{get_or-replicate}
use lib.IntN.{ℤ}
use Rattle.maps.specs.Orbit.{iter}
use Rattle.arrays.specs.At.{at, atℤ}
use Rattle.search.specs.Dual.{dual_of, WellFormed}
use Rattle.search.specs.Level.{HasLevel}
use Rattle.search.specs.Configuration.{Tables}
use Rattle.search.specs.Straightening.{unmarked, marked, Descends, done, upward_of, Closes, Straightens, end, ring, next}
use Rattle.search.specs.inner.Progress.{Lowering, Straightening}
use Rattle.search.specs.inner.Ascending.{Matched, Ascended, Unlinked}
use Rattle.search.proofs.Heights.{fresh}
use Rattle.search.proofs.Marking.{marked_cases, marked_new, marked_size, ascent_inside}
use Rattle.search.proofs.Sweeping.{Swept, swept_none, begins, swept_more}
use Rattle.std.proofs.Common.{Ok, Result}
use Rattle.search.specs.Outcome.{closed_by}
use Rattle.search.specs.declared.Ring.{Ring}

pub record Pass (lefts : List ℕ) (lengths : List ℤ) (darts faces : ℕ) (start : Tables) (f : ℕ) (links : List ℕ) (now : Tables) : Type 0 where
  pub roots : List ℕ
  pub sound : WellFormed (dual_of lefts lengths darts faces roots)
  pub first : ℕ
  pub bound : ℕ
  pub wide : 1024 ≤ bound
  pub few : bound < 1600000
  pub deep : ℕ
  pub upto : f ≤ faces
  -- no array holds the marks: the links tell them
  pub marks : List ℕ
  pub size_links : length links ≡ 1024
  pub matched : Matched marks links
  pub swept : Swept lefts lengths darts faces roots sound now first bound f marks deep
  pub back : (u : Tables) (r : Result ℕ Ring) → Straightens lefts lengths darts faces f marks now u r
      → Straightens lefts lengths darts faces 0 unmarked start u r

module _ {lefts : List ℕ} {lengths : List ℤ} {darts faces : ℕ} {start : Tables} where
  pub pass_first : Straightening (dual_of lefts lengths darts faces) start → Pass lefts lengths darts faces start 0 unmarked start
  pass_first h = record {
    roots = h.roots;
    sound = h.sound;
    first = h.first;
    bound = h.bound;
    wide = h.wide;
    few = h.few;
    deep = 0;
    upto = omega arith;
    marks = unmarked;
    size_links = refl;
    matched = record { size = refl; unmet = λ x l e. e; met = λ x l n. absurd (n (get_or-replicate 1024 x 1024 0 l)) };
    swept = swept_none lefts lengths darts faces h.roots h.sound h.passing;
    back = λ u r q. q;
  }

  pub pass_last : {f : ℕ} {links : List ℕ} {now : Tables} (last : ℕ) → Pass lefts lengths darts faces start f links now → faces ≤ f → last ≡ now.last
      → Straightens lefts lengths darts faces 0 unmarked start now (Ok last)
  pass_last last h l e = h.back _ (Ok last) (end l e)

  -- a face of which the link is that of before is not on the way
  off_way : {f x : ℕ} {links : List ℕ} {now : Tables} → Pass lefts lengths darts faces start f links now → x < faces → at links x < 1024 → ⊥
  off_way {f} {x} {links} {now} h l m = by (ℕ_discrete (at h.marks x) 1024)
    where
      small : x < 1024
      small = omega (arith, h.sound.few_faces)

      by : Dec (at h.marks x ≡ 1024) → ⊥
      by (yes e) = omega (arith, h.matched.unmet x small e)
      by (no n) = omega (arith, h.matched.met x small n)

  module _ {f : ℕ} {links links' : List ℕ} {now : Tables} (h : Pass lefts lengths darts faces start f links now) (f-in : f < faces)
      {count last top : ℕ} (a : Ascended (upward_of lefts now) darts faces now.parents f h.marks links links' count last top) where
    abbrev g : ℕ → ℕ
    g = upward_of lefts now

    abbrev marks' : List ℕ
    marks' = marked g f count h.marks

    inside : (k : ℕ) → k ≤ count → iter g k f < faces
    inside = ascent_inside faces h.sound.right_in h.sound.few_faces f-in h.matched.size a.ascent

    new_mark : (k : ℕ) → k < count → at marks' (iter g k f) ≡ f
    new_mark k l = marked_new g f h.marks h.matched.size count k l (omega (arith, inside k (omega arith), h.sound.few_faces))

    -- whether it has come round, as it is tested
    on_way : at links' top < 1024 → Dec (at marks' (iter g count f) ≡ f) → at marks' (iter g count f) ≡ f
    on_way m (yes q) = q
    on_way m (no n) =
        let same : at links' top ≡ at links top = a.others top (λ k l q. n (ap (at marks') (sym (q ∙ a.top_is)) ∙ new_mark k l)) in
        absurd (off_way h a.top_in (omega (arith, m, same)))

    closes_at : at links' top < 1024 → HasLevel (atℤ now.potentials) top → Closes f (iter g count f) marks' now
    closes_at m has = (on_way m (ℕ_discrete (at marks' (iter g count f)) f), λ e. has (ap (atℤ now.potentials) a.top_is ∙ e))

    linked_below : at marks' (iter g count f) ≡ f
        → (at marks' (iter g count f) ≡ at h.marks (iter g count f)) ⊎ ((j : ℕ) × (j < count) × (iter g j f ≡ iter g count f)) → at links' top < 1024
    linked_below m (inl q) =
        let e : at h.marks (iter g count f) ≡ f = sym q ∙ m in
        absurd (omega (arith, e, h.swept.low (iter g count f) (inside count (omega arith)) (λ z. omega (arith, e, z, f-in, h.sound.few_faces))))
    linked_below m (inr q) =
        omega (
          arith,
          ap (at links') (a.top_is ∙ sym q.2) ∙ a.linked q.0 q.1,
          inside (q.0 - 1) (omega (arith, q.1)),
          h.sound.few_faces,
        )

    closes_tested : Closes f (iter g count f) marks' now → (at links' top < 1024) × HasLevel (atℤ now.potentials) top
    closes_tested c = (
      linked_below c.0 (marked_cases g f h.marks count (iter g count f)),
      λ e. c.1 (ap (atℤ now.potentials) (sym a.top_is) ∙ e),
    )

    pub pass_ring : at links' top < 1024 → HasLevel (atℤ now.potentials) top → (d : ℕ) → d ≡ at now.parents top
        → Straightens lefts lengths darts faces 0 unmarked start now (closed_by d)
    pass_ring m has d e =
        h.back now (closed_by d) (ring count f-in a.ascent (closes_at m has) (e ∙ ap (at now.parents) a.top_is))

    module _ (not_round : at links' top < 1024 → HasLevel (atℤ now.potentials) top → ⊥) where
      open' : Closes f (iter g count f) marks' now → ⊥
      open' c = let t = closes_tested c in not_round t.0 t.1

      pub pass_down : Lowering (dual_of lefts lengths darts faces) now f count last links'
      pass_down = record {
        roots = h.roots;
        sound = h.sound;
        first = h.first;
        bound = h.bound;
        wide = h.wide;
        few = h.few;
        deep = h.deep;
        rest = fresh faces marks';
        descending = begins lefts lengths darts faces h.roots h.sound h.swept f-in a.ascent open';
        size_links = a.size_links;
        linked = a.linked;
        from_is = a.last_is;
      }

      -- f and what was met above it is done
      module _ {links'' : List ℕ} (w : Unlinked g f 0 count links' links'') where
        all_unmet : (x : ℕ) → x < 1024 → at marks' x ≡ 1024
            → (at marks' x ≡ at h.marks x) ⊎ ((j : ℕ) × (j < count) × (iter g j f ≡ x)) → at links'' x ≡ 1024
        all_unmet x l e c = w.others x off ∙ a.others x off ∙ h.matched.unmet x l (by c)
          where
            off : (j : ℕ) → j < count → iter g j f ≡ x → ⊥
            off j m q = omega (arith, new_mark j m, ap (at marks') q, e, f-in, h.sound.few_faces)

            by : (at marks' x ≡ at h.marks x) ⊎ ((j : ℕ) × (j < count) × (iter g j f ≡ x)) → at h.marks x ≡ 1024
            by (inl q) = sym q ∙ e
            by (inr q) = absurd (off q.0 q.1 q.2)

        all_met : (x : ℕ) → x < 1024 → (at marks' x ≡ 1024 → ⊥)
            → (at marks' x ≡ at h.marks x) ⊎ ((j : ℕ) × (j < count) × (iter g j f ≡ x)) → at links'' x ≡ 1025
        all_met x l n (inl q) =
            let old : at links x ≡ 1025 = h.matched.met x l (λ z. n (q ∙ z)) in
            let off : (j : ℕ) → j < count → iter g j f ≡ x → ⊥ = λ j m s. omega (arith, a.unmet j m, ap (at links) s, old) in
            w.others x off ∙ a.others x off ∙ old
        all_met x l n (inr q) = ap (at links'') (sym q.2) ∙ w.gone q.0 (omega arith) q.1

        pub pass_next : {u : Tables} → Descends lefts lengths g f count now u → Pass lefts lengths darts faces start (f + 1) links'' u
        pass_next {u} q = record {
          roots = h.roots;
          sound = h.sound;
          first = h.first;
          bound = h.bound;
          wide = h.wide;
          few = h.few;
          deep = h.deep + count;
          upto = omega arith;
          marks = marks';
          size_links = w.size_links;
          matched = record {
            size = marked_size g f h.marks count ∙ h.matched.size;
            unmet = λ x l e. all_unmet x l e (marked_cases g f h.marks count x);
            met = λ x l n. all_met x l n (marked_cases g f h.marks count x);
          };
          swept = swept_more lefts lengths darts faces h.roots h.sound h.swept f-in a.ascent open' h.wide h.few q;
          back = λ v r s. h.back v r (next count f-in a.ascent open' q s);
        }

    -- where the ascent goes through no face it has not come round: all links are as before
    pub pass_none : count ≡ 0 → Pass lefts lengths darts faces start (f + 1) links' now
    pass_none e =
        pass_next (λ m has. off_way h a.top_in (omega (arith, m, a.others top (λ k l q. omega (arith, e, l)))))
        (record {
          size_links = a.size_links;
          gone = λ j l m. absurd (omega (arith, e, m));
          still = λ j l. absurd (omega arith);
          others = λ x n. refl;
        })
        (subst (λ k. Descends lefts lengths g f k now now) (sym e) done)
