-- What is given to a search matters on its darts and faces only: on arrays that agree there the same search goes. So two such searches have one end.
use mathlib.Core.Path.{◌≡◌, refl, sym, ◌∙◌, ap, ap₂, subst}
use mathlib.Core.Bool.{Bool, true, false, cond, ◌&&◌}
use mathlib.Core.List.{List}
use Prim.Native.Nat.{ℕ, zero, suc, ◌+◌, ◌≤◌, ◌<◌}
use native.Mathlib.Omega.{arith}
use native.Mathlib.Decide.{dec_lt}
use lib.Dec.{eqb, ltb}
use lib.ListN.{length, take, set}
use lib.IntN.{ℤ, ◌+ℤ◌}
use lib.Signed.{◌≤ℤ◌, ◌<ℤ◌}
use Rattle.integers.specs.Sum.{Naturals, bit}
use Rattle.integers.proofs.Sums.{sum_ext}
use Rattle.integers.proofs.Tests.{ltb_false}
use Rattle.maps.specs.Orbit.{iter}
use Rattle.maps.proofs.Orbits.{iter_zero, iter_suc}
use Rattle.arrays.specs.At.{at, atℤ}
use Rattle.arrays.specs.Maps.{right_of}
use Rattle.grouping.specs.Grouped.{end_of}
use Rattle.search.specs.Dual.{dual_of, WellFormed, Joined}
use Rattle.search.specs.Parents.{up}
use Rattle.search.specs.Level.{HasLevel}
use Rattle.search.specs.Queue.{Pushed}
use Rattle.search.specs.Moves.{sensible, Begun, Relaxed}
use Rattle.search.specs.Given.{Given, given, dual, InGroups}
use Rattle.search.specs.Configuration.{Tables, tables_of, Configuration, configuration, front}
use Rattle.search.specs.Look.{Crosses, done, keep, lower, LookAt}
use Rattle.search.specs.Straightening.{marked, Ascent, Follows, leaves, keeps, falls, Descends, down, upward_of, Straightens, end, ring, next}
use Rattle.search.specs.Straightening as straightening
use Rattle.search.specs.Trace.{Step, look, straighten, Goes, stay, go, Ends, first_looks, start, Searches}
use Rattle.search.specs.inner.Progress.{Descending}
use Rattle.search.proofs.Descent.{p_in, follow_on}
use Rattle.search.proofs.Sweeping.{Swept, swept_none, begins, swept_more}
use Rattle.search.proofs.Run.{PassingAt, bound_wide, bound_few, step_passing, goes_passing}
use Rattle.search.proofs.Ending.{start_passing}
use Rattle.search.proofs.Determined.{searches_one}
use Rattle.std.proofs.Common.{Ok, Err, Result}
use Rattle.search.specs.Outcome.{Outcome}
use Rattle.search.specs.declared.Ring.{Ring}

-- ── one dart ──
module _ (lefts lefts' : List ℕ) (lengths lengths' : List ℤ) (d d' : ℕ) (same : d ≡ d')
    (e : at lefts d ≡ at lefts' d') (g : atℤ lengths d ≡ atℤ lengths' d') where
  relaxed_alike : (ρ ρ' : List ℤ) (parents parents' : List ℕ) (i : ℕ) (b : Bool)
      → Relaxed lefts lengths ρ parents ρ' parents' i d b → Relaxed lefts' lengths' ρ parents ρ' parents' i d' b
  relaxed_alike ρ ρ' parents parents' i true a = (
    a.0 ∙ ap₂ (λ f z. set ρ f (atℤ ρ i +ℤ z)) e g,
    a.1 ∙ ap₂ (λ f x. set parents f x) e same,
    subst (λ f. (atℤ ρ i +ℤ atℤ lengths' d') <ℤ atℤ ρ f) e (subst (λ z. (atℤ ρ i +ℤ z) <ℤ atℤ ρ (at lefts d)) g a.2),
  )
  relaxed_alike ρ ρ' parents parents' i false a = (
    a.0,
    a.1,
    subst (λ f. atℤ ρ f ≤ℤ (atℤ ρ i +ℤ atℤ lengths' d')) e (subst (λ z. atℤ ρ (at lefts d) ≤ℤ (atℤ ρ i +ℤ z)) g a.2),
  )

-- ── an ascent ──
module _ (right right' : ℕ → ℕ) (darts : ℕ) (same : (d : ℕ) → d < darts → right d ≡ right' d) (parents marks : List ℕ) (f : ℕ) where
  steps_alike : (k : ℕ) → ((a : ℕ) → a < k → at parents (iter (up right (at parents)) a f) < darts)
      → iter (up right (at parents)) k f ≡ iter (up right' (at parents)) k f
  steps_alike zero h = iter_zero (up right (at parents)) f ∙ sym (iter_zero (up right' (at parents)) f)
  steps_alike (suc k) h =
      iter_suc (up right (at parents)) k f
      ∙ same (at parents (iter (up right (at parents)) k f)) (h k (omega arith))
      ∙ ap (λ y. right' (at parents y)) (steps_alike k (λ a l. h a (omega (arith, l))))
      ∙ sym (iter_suc (up right' (at parents)) k f)

  module _ {count : ℕ} (a : Ascent (up right (at parents)) darts parents marks f count) where
    faces_alike : (k : ℕ) → k ≤ count → iter (up right (at parents)) k f ≡ iter (up right' (at parents)) k f
    faces_alike k l = steps_alike k (λ j m. (a.onward j (omega arith)).0)

    marks_alike : (k : ℕ) → k ≤ count → marked (up right (at parents)) f k marks ≡ marked (up right' (at parents)) f k marks
    unfolding marked
    marks_alike zero l = refl
    marks_alike (suc k) l = ap₂ (λ m y. set m y f) (marks_alike k (omega arith)) (faces_alike k (omega arith))

    mark_alike : (k : ℕ) → k ≤ count → at (marked (up right (at parents)) f k marks) (iter (up right (at parents)) k f)
        ≡ at (marked (up right' (at parents)) f k marks) (iter (up right' (at parents)) k f)
    mark_alike k l = ap₂ at (marks_alike k l) (faces_alike k l)

    ascent_alike : Ascent (up right' (at parents)) darts parents marks f count
    ascent_alike = record {
      onward = λ k l.
          let o = a.onward k l in
          (subst (λ y. at parents y < darts) (faces_alike k (omega arith)) o.0, sym (mark_alike k (omega arith)) ∙ o.1);
      stops = λ l e.
          a.stops (subst (λ y. at parents y < darts) (sym (faces_alike count (omega arith))) l) (mark_alike count (omega arith) ∙ e);
    }

-- ── a run ──
-- two arrays of each kind that agree as far as they matter
pub record Alike (darts faces : ℕ) (lefts lefts' : List ℕ) (lengths lengths' : List ℤ) (order order' starts starts' : List ℕ) : Type 0 where
  pub same_lefts : (d : ℕ) → d < darts → at lefts d ≡ at lefts' d
  pub same_rights : (d : ℕ) → d < darts → right_of lefts d ≡ right_of lefts' d
  pub same_lengths : (d : ℕ) → d < darts → atℤ lengths d ≡ atℤ lengths' d
  pub same_starts : (f : ℕ) → f < faces → at starts f ≡ at starts' f
  pub same_order : (f j : ℕ) → f < faces → at starts f ≤ j → j < end_of darts (at starts) f → at order j ≡ at order' j

module _ {darts faces : ℕ} {lefts lefts' : List ℕ} {lengths lengths' : List ℤ} {order order' starts starts' : List ℕ}
    (α : Alike darts faces lefts lefts' lengths lengths' order order' starts starts') where
  abbrev G : Given
  G = given lefts lengths order starts darts faces

  abbrev G' : Given
  G' = given lefts' lengths' order' starts' darts faces

  -- ── the beginning ──
  sensible_alike : (f p : ℕ) → sensible lefts darts f p ≡ sensible lefts' darts f p
  sensible_alike f p = by (dec_lt p darts)
    where
      by : Dec (p < darts) → (ltb p darts && eqb (at lefts p) f) ≡ (ltb p darts && eqb (at lefts' p) f)
      by (yes l) = ap (λ x. ltb p darts && eqb x f) (α.same_lefts p l)
      by (no n) = rw (ltb_false p darts (omega (arith, n)))

  start_alike : (proposal : List ℕ) (ρ : List ℤ) (parents waiting queue : List ℕ) (roots : ℕ)
      → start G proposal ρ parents waiting queue roots ≡ start G' proposal ρ parents waiting queue roots
  start_alike proposal ρ parents waiting queue roots =
      ap (λ n. configuration (tables_of ρ parents waiting queue roots) 0 (first_looks faces n))
      (sum_ext Naturals faces (λ f. bit (sensible lefts darts f (at proposal f))) (λ f. bit (sensible lefts' darts f (at proposal f)))
      (λ f l. ap bit (sensible_alike f (at proposal f))))

  begun_alike : {proposal : List ℕ} {ρ : List ℤ} {parents waiting queue : List ℕ} {roots : ℕ} → Begun lefts darts faces proposal ρ parents waiting queue roots
      → Begun lefts' darts faces proposal ρ parents waiting queue roots
  begun_alike {proposal} b = record {
    size_potentials = b.size_potentials;
    size_parents = b.size_parents;
    size_waiting = b.size_waiting;
    zero = b.zero;
    others = b.others;
    none = b.none;
    proposed = λ f l n. b.proposed f l n ∙ ap (λ t. cond t (at proposal f) 1024) (sensible_alike f (at proposal f));
    beyond = b.beyond;
    waits = b.waits;
    rests = b.rests;
  }

  -- ── a straightening ──
  follows_alike : {y y' : ℕ} {t u : Tables} → y ≡ y' → at t.parents y < darts → Follows lefts lengths y t u → Follows lefts' lengths' y' t u
  follows_alike {y} {y'} {t} {u} e l w = subst (λ x. Follows lefts' lengths' x t u) e (by w)
    where
      across : right_of lefts (at t.parents y) ≡ right_of lefts' (at t.parents y)
      across = α.same_rights (at t.parents y) l

      has : HasLevel (atℤ t.potentials) (right_of lefts (at t.parents y)) → HasLevel (atℤ t.potentials) (right_of lefts' (at t.parents y))
      has h q = h (ap (atℤ t.potentials) across ∙ q)

      there : (v : Tables) (c : Bool)
          → Relaxed lefts lengths t.potentials t.parents v.potentials v.parents (right_of lefts (at t.parents y)) (at t.parents y) c
          → Relaxed lefts' lengths' t.potentials t.parents v.potentials v.parents (right_of lefts' (at t.parents y)) (at t.parents y) c
      there v c r =
          subst (λ x. Relaxed lefts' lengths' t.potentials t.parents v.potentials v.parents x (at t.parents y) c) across
          (relaxed_alike lefts lefts' lengths lengths' (at t.parents y) (at t.parents y) refl (α.same_lefts (at t.parents y) l)
          (α.same_lengths (at t.parents y) l) t.potentials v.potentials t.parents v.parents (right_of lefts (at t.parents y)) c r)

      by : {v : Tables} → Follows lefts lengths y t v → Follows lefts' lengths' y t v
      by (leaves q) = leaves (ap (atℤ t.potentials) (sym across) ∙ q)
      by (keeps h r) = keeps (has h) (there t false r)
      by {v} (falls h r p) = falls (has h) (there v true r) p

  module _ (roots : List ℕ) (sound : WellFormed (dual_of lefts lengths darts faces roots)) {first b : ℕ} (wide : 1024 ≤ b) (thin : b < 1600000) where
    descends_alike : {g g' : ℕ → ℕ} {f k deep rest : ℕ} {t u : Tables} → Descending (dual_of lefts lengths darts faces roots) t first b g f k deep rest
        → ((j : ℕ) → j < k → iter g j f ≡ iter g' j f) → Descends lefts lengths g f k t u → Descends lefts' lengths' g' f k t u
    descends_alike h same straightening.done = straightening.done
    descends_alike h same (down {k = k} w q) =
        down (follows_alike (same k (omega arith)) (p_in lefts lengths darts faces roots sound wide thin h) w)
        (descends_alike (follow_on lefts lengths darts faces roots sound wide thin h w) (λ j l. same j (omega (arith, l))) q)

    straightens_alike : {f deep : ℕ} {marks : List ℕ} {t u : Tables} {r : Result ℕ Ring} → Swept lefts lengths darts faces roots sound t first b f marks deep
        → Straightens lefts lengths darts faces f marks t u r → Straightens lefts' lengths' darts faces f marks t u r
    straightens_alike s (end l e) = end l e
    straightens_alike {f} {marks = marks} {t} s (ring count l a c e) =
        let right = right_of lefts in
        let right' = right_of lefts' in
        let to : iter (upward_of lefts t) count f ≡ iter (upward_of lefts' t) count f =
        faces_alike right right' darts α.same_rights t.parents marks f a count (omega arith) in
        ring count l (ascent_alike right right' darts α.same_rights t.parents marks f a) (
          sym (mark_alike right right' darts α.same_rights t.parents marks f a count (omega arith)) ∙ c.0,
          λ q. c.1 (ap (atℤ t.potentials) to ∙ q),
        )
        (e ∙ ap (at t.parents) to)
    straightens_alike {f} {marks = marks} {t} {u = v} {r} s (next {u = u} count l a c q w) =
        let right = right_of lefts in
        let right' = right_of lefts' in
        let to : iter (upward_of lefts t) count f ≡ iter (upward_of lefts' t) count f =
        faces_alike right right' darts α.same_rights t.parents marks f a count (omega arith) in
        next count l (ascent_alike right right' darts α.same_rights t.parents marks f a)
        (λ h. c (
          mark_alike right right' darts α.same_rights t.parents marks f a count (omega arith) ∙ h.0,
          λ z. h.1 (ap (atℤ t.potentials) (sym to) ∙ z),
        ))
        (descends_alike (begins lefts lengths darts faces roots sound s l a c)
        (λ j m. faces_alike right right' darts α.same_rights t.parents marks f a j (omega arith)) q)
        (subst (λ m. Straightens lefts' lengths' darts faces (f + 1) m u v r)
        (marks_alike right right' darts α.same_rights t.parents marks f a count (omega arith))
        (straightens_alike (swept_more lefts lengths darts faces roots sound s l a c wide thin q) w))

  -- ── looks ──
  module _ (γ : InGroups G) where
    crosses_alike : (i j : ℕ) {t u : Tables} → i < faces → at starts i ≤ j → Crosses G i (end_of darts (at starts) i) j t u
        → Crosses G' i (end_of darts (at starts) i) j t u
    crosses_alike i j l m (done k) = done k
    crosses_alike i j {t} l m (keep k a q) =
        let e = α.same_order i j l m k in
        let b = γ.dart i j l m k in
        keep k (relaxed_alike lefts lefts' lengths lengths' (at order j) (at order' j) e (α.same_lefts (at order j) b ∙ ap (at lefts') e)
        (α.same_lengths (at order j) b ∙ ap (atℤ lengths') e) t.potentials t.potentials t.parents t.parents i false a)
        (crosses_alike i (j + 1) l (omega (arith, m)) q)
    crosses_alike i j {t} l m (lower {u = v} k a p q) =
        let e = α.same_order i j l m k in
        let b = γ.dart i j l m k in
        let f = α.same_lefts (at order j) b ∙ ap (at lefts') e in
        lower k (relaxed_alike lefts lefts' lengths lengths' (at order j) (at order' j) e f
        (α.same_lengths (at order j) b ∙ ap (atℤ lengths') e) t.potentials v.potentials t.parents v.parents i true a)
        (subst (λ x. Pushed t.waiting t.queue v.waiting v.queue x t.last v.last) f p)
        (crosses_alike i (j + 1) l (omega (arith, m)) q)

    same_ends : (f : ℕ) → f < faces → end_of darts (at starts) f ≡ end_of darts (at starts') f
    same_ends zero l = refl
    same_ends (suc f) l = α.same_starts f (omega (arith, l))

    look_alike : (i : ℕ) (t u : Tables) → i < faces → LookAt G i t u → LookAt G' i t u
    look_alike i t u l q =
        rw (sym (α.same_starts i l)) (rw (sym (same_ends i l)) (crosses_alike i (at starts i) l (omega arith) q))

    module _ (roots : List ℕ) (sound : WellFormed (dual G roots)) where
      -- the straightening that begins at c
      whole_alike : (c : Configuration) {u : Tables} {r : Result ℕ Ring} → PassingAt (dual G roots) c
          → Straightens lefts lengths darts faces 0 straightening.unmarked c.tables u r
          → Straightens lefts' lengths' darts faces 0 straightening.unmarked c.tables u r
      whole_alike c r w =
          straightens_alike roots sound (bound_wide faces c.left) (bound_few faces c.left sound.few_faces)
          (swept_none lefts lengths darts faces roots sound r.passing) w

      step_alike : {c d : Configuration} → PassingAt (dual G roots) c → Step G c d → Step G' c d
      step_alike {c} r (look {u = u} l m q) =
          look l m (look_alike (front c) c.tables u (r.passing.line.inside c.first (omega arith) m) q)
      step_alike {c} r (straighten l w) = straighten l (whole_alike c r w)

      goes_alike : {c d : Configuration} → PassingAt (dual G roots) c → Goes G c d → Goes G' c d
      goes_alike r stay = stay
      goes_alike r (go s p) = go (step_alike r s) (goes_alike (step_passing G roots sound γ r s) p)

      ends_alike : (c : Configuration) → PassingAt (dual G roots) c → (u : Tables) (o : Outcome) → Ends G c u o → Ends G' c u o
      ends_alike c r u (Ok _) h = h
      ends_alike c r u (Err x) h = (h.0, whole_alike c r h.1)

    module _ (queue : List ℕ) (roots : ℕ) (size : length queue ≡ 1024) (few : roots ≤ 1024)
        (sound : WellFormed (dual G (take roots queue))) (joined : Joined (dual G (take roots queue))) where
      pub searches_alike : {proposal : List ℕ} {ρ : List ℤ} {parents : List ℕ} {o : Outcome} → Searches G queue roots proposal ρ parents o
          → Searches G' queue roots proposal ρ parents o
      searches_alike {proposal} {o = o} s =
          let r = start_passing G queue roots size few sound joined γ s.begun in
          record {
            first_potentials = s.first_potentials;
            first_parents = s.first_parents;
            first_waiting = s.first_waiting;
            begun = begun_alike s.begun;
            end = s.end;
            run = subst (λ c. Goes G' c s.end) (start_alike proposal s.first_potentials s.first_parents s.first_waiting queue roots)
                (goes_alike (take roots queue) sound r s.run);
            left = s.left;
            ended = ends_alike (take roots queue) sound s.end (goes_passing G (take roots queue) sound γ r s.run) s.left o s.ended;
            potentials_are = s.potentials_are;
            parents_are = s.parents_are;
          }

      -- the same answer, and the same parents
      pub alike_one : {proposal : List ℕ} {ρ ρ' : List ℤ} {parents parents' : List ℕ} {o p : Outcome} → Searches G queue roots proposal ρ parents o
          → Searches G' queue roots proposal ρ' parents' p → (o ≡ p) × (parents ≡ parents')
      alike_one s t = let r = searches_one (searches_alike s) t in (r.0, r.2)
