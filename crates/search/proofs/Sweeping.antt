-- A whole straightening: after each ascent and its way down the faces that were met have levels of bounded length; at its end every face has one, or lacks it.
use mathlib.Core.Path.{◌≡◌, refl, sym, ◌∙◌, ap, subst}
use mathlib.Core.Logic.{◌⊎◌, inl, inr}
use mathlib.Core.List.{List}
use Prim.Native.Nat.{ℕ, suc, ◌+◌, ◌-◌, ◌*◌, ◌≤◌, ◌<◌}
use native.Mathlib.Omega.{arith}
use native.Mathlib.Decide.{ℕ_discrete, dec_lt}
use lib.ListN.{length, get_or-replicate}
use lib.IntN.{ℤ}
use lib.Signed.{mag}
use Rattle.maps.specs.Orbit.{iter}
use Rattle.maps.proofs.Orbits.{iter_zero, iter_suc, iter_add}
use Rattle.arrays.specs.At.{at, atℤ}
use Rattle.search.specs.Dual.{Dual, dual_of, WellFormed, longest}
use Rattle.search.specs.inner.Walk.{Ring}
use Rattle.search.specs.Parents.{ParentRing}
use Rattle.search.specs.Level.{HasLevel}
use Rattle.search.specs.Configuration.{Tables}
use Rattle.search.specs.Straightening.{unmarked, marked, Ascent, Follows, Descends, done, down, upward_of, Closes, Straightens, end, ring, next}
use Rattle.search.specs.inner.Progress.{Passing, Descending}
use Rattle.search.proofs.Turning.{bounded}
use Rattle.search.proofs.Heights.{fresh, fresh_few}
use Rattle.search.proofs.Chains.{ring_of, parent_ring}
use Rattle.search.proofs.Marking.{marked_size, marked_cases, marked_new, marked_stays, ascent_inside, ascent_apart, ascent_few}
use Rattle.search.proofs.Descent.{follow_on, follow_parents, follow_others}
use Rattle.std.proofs.Common.{Ok}
use Rattle.search.specs.Outcome.{closed_by}

module _ (lefts : List ℕ) (lengths : List ℤ) (darts faces : ℕ) (roots : List ℕ) (sound : WellFormed (dual_of lefts lengths darts faces roots)) where
  abbrev N : Dual
  N = dual_of lefts lengths darts faces roots

  -- the faces before f are gone through: a face that is marked is no more than `deep` darts long
  pub record Swept (t : Tables) (first b f : ℕ) (marks : List ℕ) (deep : ℕ) : Type 0 where
    pub passing : Passing N t first b
    pub size : length marks ≡ 1024
    pub low : (x : ℕ) → x < faces → (at marks x ≡ 1024 → ⊥) → at marks x < f
    pub near : (x : ℕ) → x < faces → (at marks x ≡ 1024 → ⊥) → HasLevel (atℤ t.potentials) x → mag (atℤ t.potentials x) ≤ deep * longest
    pub room : deep + fresh faces marks ≤ faces
    pub gone : (x : ℕ) → x < faces → x < f → (at marks x ≡ 1024 → ⊥) ⊎ (darts ≤ at t.parents x)

  pub swept_none : {t : Tables} {first b : ℕ} → Passing N t first b → Swept t first b 0 unmarked 0
  swept_none r = record {
    passing = r;
    size = refl;
    low = λ x l n. absurd (n (none_at x l));
    near = λ x l n. absurd (n (none_at x l));
    room = omega (arith, fresh_few faces unmarked);
    gone = λ x l m. absurd (omega arith);
  }
    where
      none_at : (x : ℕ) → x < faces → at unmarked x ≡ 1024
      none_at x l = get_or-replicate 1024 x 1024 0 (omega (arith, sound.few_faces))

  -- all are gone through
  pub swept_all : {t : Tables} {first b f deep : ℕ} {marks : List ℕ} → Swept t first b f marks deep → faces ≤ f → Passing N t first 1024
  swept_all {t} {first} {b} {deep = deep} {marks} s l = record {
    size_potentials = r.size_potentials;
    size_parents = r.size_parents;
    size_waiting = r.size_waiting;
    size_queue = r.size_queue;
    ordered = r.ordered;
    spent = r.spent;
    state = bounded r.state 1024 (λ x m h. by x m h (s.gone x m (omega arith)));
    line = r.line;
    quiet = r.quiet;
  }
    where
      r : Passing N t first b
      r = s.passing

      by : (x : ℕ) → x < faces → HasLevel (atℤ t.potentials) x → (at marks x ≡ 1024 → ⊥) ⊎ (darts ≤ at t.parents x)
          → mag (atℤ t.potentials x) ≤ 1024 * longest
      by x m h (inl n) = omega (arith, s.near x m n h, s.room, sound.few_faces)
      by x m h (inr n) = omega (arith, ap mag (r.state.orphan x m n h))

  -- ── one ascent ──
  module _ {t : Tables} {first b f deep : ℕ} {marks : List ℕ} (s : Swept t first b f marks deep) (f-in : f < faces) {count : ℕ}
      (a : Ascent (upward_of lefts t) darts t.parents marks f count) where
    abbrev g : ℕ → ℕ
    g = upward_of lefts t

    abbrev marks' : List ℕ
    marks' = marked (upward_of lefts t) f count marks

    pub inside : (k : ℕ) → k ≤ count → iter g k f < faces
    inside = ascent_inside faces sound.right_in sound.few_faces f-in s.size a

    apart : (i j : ℕ) → i < j → j < count → iter g i f ≡ iter g j f → ⊥
    apart = ascent_apart faces sound.right_in sound.few_faces f-in s.size a

    left_over : fresh faces marks' + count ≡ fresh faces marks
    left_over = ascent_few faces sound.right_in sound.few_faces f-in s.size a count (omega arith)

    small : (k : ℕ) → k ≤ count → iter g k f < 1024
    small k l = omega (arith, inside k l, sound.few_faces)

    pub count_few : count ≤ faces
    count_few = omega (arith, left_over, fresh_few faces marks)

    met : (x : ℕ) (j : ℕ) → j < count → iter g j f ≡ x → at marks' x ≡ f
    met x j l e = subst (λ y. at marks' y ≡ f) e (marked_new g f marks s.size count j l (small j (omega arith)))

    -- it has come round
    module _ (c : Closes f (iter g count f) marks' t) where
      abbrev y : ℕ
      y = iter g count f

      -- where in the ascent the face was met
      place : (j : ℕ) × (j < count) × (iter g j f ≡ y)
      place = by (marked_cases g f marks count y)
        where
          by : (at marks' y ≡ at marks y) ⊎ ((j : ℕ) × (j < count) × (iter g j f ≡ y)) → (j : ℕ) × (j < count) × (iter g j f ≡ y)
          by (inl e) =
              absurd (omega (arith, e, c.0, s.low y (inside count (omega arith)) (λ z. omega (arith, e, c.0, f-in, sound.few_faces))))
          by (inr r) = r

      abbrev j : ℕ
      j = place.0

      from_there : (i : ℕ) → iter g i y ≡ iter g (i + j) f
      from_there i = ap (iter g i) (sym place.2) ∙ sym (iter_add g i j f)

      back : iter g (count - j) y ≡ y
      back = from_there (count - j) ∙ ap (λ m. iter g m f) whole
        where
          whole : count - j + j ≡ count
          whole = omega (arith, place.1)

      steps : (i : ℕ) → i < count - j → at t.parents (iter g i y) < darts
      steps i l = rw (from_there i) (a.onward (i + j) (omega (arith, place.1))).0

      pub round : ParentRing N (at t.parents) y
      round =
          parent_ring sound s.passing.state y (inside count (omega arith)) c.1 (count - j) (omega (arith, place.1))
          (omega (arith, count_few)) back steps

    -- it has not: the way down begins
    module _ (open' : Closes f (iter g count f) marks' t → ⊥) where
      pub begins : Descending N t first b g f count deep (fresh faces marks')
      begins = record {
        passing = s.passing;
        inside = inside;
        onward = λ j l. (a.onward j l).0;
        across = λ j l. sym (iter_suc g j f);
        apart = apart;
        near = λ has. by has (dec_lt (at t.parents (iter g count f)) darts);
        room = omega (arith, s.room, left_over);
      }
        where
          top : ℕ
          top = iter g count f

          at_top : HasLevel (atℤ t.potentials) (iter g count f) → at t.parents (iter g count f) < darts
              → (at marks' (iter g count f) ≡ at marks (iter g count f)) ⊎ ((j : ℕ) × (j < count) × (iter g j f ≡ iter g count f))
              → mag (atℤ t.potentials (iter g count f)) ≤ deep * longest
          at_top has l (inl e) = s.near (iter g count f) (inside count (omega arith)) (λ z. a.stops l (e ∙ z)) has
          at_top has l (inr r) = absurd (open' (met (iter g count f) r.0 r.1 r.2, has))

          by : HasLevel (atℤ t.potentials) (iter g count f) → Dec (at t.parents (iter g count f) < darts)
              → mag (atℤ t.potentials (iter g count f)) ≤ deep * longest
          by has (yes l) = at_top has l (marked_cases g f marks count (iter g count f))
          by has (no n) = omega (arith, ap mag (s.passing.state.orphan (iter g count f) (inside count (omega arith)) (omega (arith, n)) has))

      module _ (wide : 1024 ≤ b) (thin : b < 1600000) where
        -- a face that was marked before, or has followed its parent
        Done : ℕ → ℕ → Type 0
        Done k x = (at marks x ≡ 1024 → ⊥) ⊎ ((j : ℕ) × (k ≤ j) × (j < count) × (iter g j f ≡ x))

        -- on the way down, the faces from place k on have followed
        record Falling (u : Tables) (k deep' : ℕ) : Type 0 where
          descending : Descending N u first b g f k deep' (fresh faces marks')
          upto : k ≤ count
          deeper : deep' + k ≡ deep + count
          near : (x : ℕ) → x < faces → Done k x → HasLevel (atℤ u.potentials) x → mag (atℤ u.potentials x) ≤ deep' * longest
          parentless : (x : ℕ) → darts ≤ at t.parents x → darts ≤ at u.parents x

        falling_first : Falling t count deep
        unfolding Done
        falling_first = record {
          descending = begins;
          upto = omega arith;
          deeper = omega arith;
          near = λ x l d. near' x l d;
          parentless = λ x l. l;
        }
          where
            near' : (x : ℕ) → x < faces → (at marks x ≡ 1024 → ⊥) ⊎ ((j : ℕ) × (count ≤ j) × (j < count) × (iter g j f ≡ x))
                → HasLevel (atℤ t.potentials) x → mag (atℤ t.potentials x) ≤ deep * longest
            near' x l (inl n) = s.near x l n
            near' x l (inr r) = absurd (omega (arith, r.1, r.2))

        falling_on : {u v : Tables} {k deep' : ℕ} → Falling u (suc k) deep' → Follows lefts lengths (iter g k f) u v → Falling v k (suc deep')
        unfolding Done
        falling_on {u} {v} {k} {deep'} h w = record {
          descending = below;
          upto = omega (arith, h.upto);
          deeper = omega (arith, h.deeper);
          near = λ x l d has. near' x l d has (ℕ_discrete x (iter g k f));
          parentless = λ x l. follow_parents lefts lengths darts faces roots sound wide thin h.descending w x (h.parentless x l);
        }
          where
            below : Descending N v first b g f k (suc deep') (fresh faces marks')
            below = follow_on lefts lengths darts faces roots sound wide thin h.descending w

            same : (x : ℕ) → (x ≡ iter g k f → ⊥) → atℤ v.potentials x ≡ atℤ u.potentials x
            same = follow_others lefts lengths darts faces roots sound wide thin h.descending w

            earlier : (x : ℕ) → (x ≡ iter g k f → ⊥) → (at marks x ≡ 1024 → ⊥) ⊎ ((j : ℕ) × (k ≤ j) × (j < count) × (iter g j f ≡ x))
                → (at marks x ≡ 1024 → ⊥) ⊎ ((j : ℕ) × (suc k ≤ j) × (j < count) × (iter g j f ≡ x))
            earlier x n (inl m) = inl m
            earlier x n (inr r) = inr (r.0, omega (arith, r.1, other), r.2, r.3)
              where
                other : r.0 ≡ k → ⊥
                other e = n (sym r.3 ∙ ap (λ m. iter g m f) e)

            near' : (x : ℕ) → x < faces → (at marks x ≡ 1024 → ⊥) ⊎ ((j : ℕ) × (k ≤ j) × (j < count) × (iter g j f ≡ x))
                → HasLevel (atℤ v.potentials) x → Dec (x ≡ iter g k f) → mag (atℤ v.potentials x) ≤ suc deep' * longest
            near' x l d has (yes e) =
                subst (λ z. mag (atℤ v.potentials z) ≤ suc deep' * longest) (sym e) (below.near (λ z. has (ap (atℤ v.potentials) e ∙ z)))
            near' x l d has (no n) = rw (same x n) (omega (arith, h.near x l (earlier x n d) (λ z. has (same x n ∙ z))))

        falling_last : {u v : Tables} {k deep' : ℕ} → Falling u k deep' → Descends lefts lengths g f k u v → Falling v 0 (deep + count)
        falling_last {u} {deep' = deep'} h done = let e : deep' ≡ deep + count = omega (arith, h.deeper) in subst (Falling u 0) e h
        falling_last h (down w q) = falling_last (falling_on h w) q

        pub swept_more : {u : Tables} → Descends lefts lengths g f count t u → Swept u first b (f + 1) marks' (deep + count)
        unfolding Done
        swept_more {u} q = record {
          passing = h.descending.passing;
          size = marked_size g f marks count ∙ s.size;
          low = λ x l n. low' x l n (marked_cases g f marks count x);
          near = λ x l n. h.near x l (done_at x n (marked_cases g f marks count x));
          room = omega (arith, s.room, left_over);
          gone = λ x l m. gone' x l (dec_lt x f) m;
        }
          where
            h : Falling u 0 (deep + count)
            h = falling_last falling_first q

            low' : (x : ℕ) → x < faces → (at marks' x ≡ 1024 → ⊥) → (at marks' x ≡ at marks x) ⊎ ((j : ℕ) × (j < count) × (iter g j f ≡ x))
                → at marks' x < f + 1
            low' x l n (inl e) = omega (arith, s.low x l (λ z. n (e ∙ z)))
            low' x l n (inr r) = omega (arith, met x r.0 r.1 r.2)

            done_at : (x : ℕ) → (at marks' x ≡ 1024 → ⊥) → (at marks' x ≡ at marks x) ⊎ ((j : ℕ) × (j < count) × (iter g j f ≡ x))
                → (at marks x ≡ 1024 → ⊥) ⊎ ((j : ℕ) × (0 ≤ j) × (j < count) × (iter g j f ≡ x))
            done_at x n (inl e) = inl (λ z. n (e ∙ z))
            done_at x n (inr r) = inr (r.0, omega arith, r.1, r.2)

            kept : (x : ℕ) → x < faces → (at marks x ≡ 1024 → ⊥) ⊎ (darts ≤ at t.parents x) → (at marks' x ≡ 1024 → ⊥) ⊎ (darts ≤ at u.parents x)
            kept x l (inl n) = inl (marked_stays g f marks s.size (omega (arith, f-in, sound.few_faces)) count x (omega (arith, sound.few_faces)) n)
            kept x l (inr n) = inr (h.parentless x n)

            -- the face f itself: it was met, or the ascent stopped there
            itself : Dec (0 < count) → Dec (at t.parents f < darts) → (at marks' f ≡ 1024 → ⊥) ⊎ (darts ≤ at u.parents f)
            itself (yes some) p = inl (λ z. omega (arith, met f 0 some (iter_zero g f), z, f-in, sound.few_faces))
            itself (no n) (no p) = inr (h.parentless f (omega (arith, p)))
            itself (no n) (yes p) = inl (λ z. a.stops (rw (top_is) p) (ap (at marks') top_is ∙ z))
              where
                top_is : iter g count f ≡ f
                top_is = ap (λ m. iter g m f) (omega (arith, n)) ∙ iter_zero g f

            gone' : (x : ℕ) → x < faces → Dec (x < f) → x < f + 1 → (at marks' x ≡ 1024 → ⊥) ⊎ (darts ≤ at u.parents x)
            gone' x l (yes m) _ = kept x l (s.gone x l m)
            gone' x l (no m) o =
                subst (λ z. (at marks' z ≡ 1024 → ⊥) ⊎ (darts ≤ at u.parents z)) (omega (arith, m))
                (itself (dec_lt 0 count) (dec_lt (at t.parents f) darts))

  -- ── the whole ──
  first_left : {parent : ℕ → ℕ} {y : ℕ} → ParentRing N parent y → at lefts (parent y) ≡ y
  unfolding iter
  first_left r = r.left_is 0

  first_dart : {parent : ℕ → ℕ} {y : ℕ} → ParentRing N parent y → parent y < darts
  unfolding iter
  first_dart r = r.dart 0

  module _ {first b : ℕ} (wide : 1024 ≤ b) (thin : b < 1600000) where
    pub swept_straight : {t u : Tables} {f deep last : ℕ} {marks : List ℕ} → Swept t first b f marks deep
        → Straightens lefts lengths darts faces f marks t u (Ok last) → (last ≡ u.last) × Passing N u first 1024
    swept_straight s (end l e) = (e, swept_all s l)
    swept_straight s (next count l a c q w) = swept_straight (swept_more s l a c wide thin q) w

    -- what a ring is answered with
    pub swept_ring : {t u : Tables} {f deep d : ℕ} {marks : List ℕ} → Swept t first b f marks deep
        → Straightens lefts lengths darts faces f marks t u (closed_by d)
        → (d < darts) × (at u.parents (at lefts d) ≡ d) × ParentRing N (at u.parents) (at lefts d) × Ring N (at lefts d)
    swept_ring {t} {f = f} {d = d} s (ring count l a c e) =
        let r = round s l a c in
        let left : at lefts d ≡ iter (upward_of lefts t) count f =
        ap (at lefts) e ∙ first_left r in (
          rw e (first_dart r),
          ap (at t.parents) left ∙ sym e,
          subst (ParentRing N (at t.parents)) (sym left) r,
          subst (Ring N) (sym left) (ring_of r),
        )
    swept_ring s (next count l a c q w) = swept_ring (swept_more s l a c wide thin q) w
