-- Between the looks of a run: the flags tell who fell since it was last looked at, and who waits keeps its place.
use mathlib.Core.Path.{◌≡◌, refl, sym, ◌∙◌, ap, subst}
use mathlib.Core.Logic.{◌⊎◌, inl, inr}
use mathlib.Core.List.{List, ◌∷◌}
use Prim.Native.Nat.{ℕ, zero, suc, ◌+◌, ◌≤◌, ◌<◌}
use native.Mathlib.Omega.{arith}
use native.Mathlib.Decide.{ℕ_discrete, dec_lt}
use lib.IntN.{ℤ}
use Rattle.integers.proofs.Laws.{lt_le_clash}
use Rattle.integers.proofs.Pigeonhole.{seek}
use Rattle.maps.specs.Orbit.{iter}
use Rattle.arrays.specs.At.{at, atℤ}
use Rattle.search.specs.Dual.{dual_of, WellFormed}
use Rattle.search.specs.Level.{CanLower}
use Rattle.search.specs.Queue.{face_at}
use Rattle.search.specs.Moves.{Begun}
use Rattle.search.specs.Given.{Given, dual, InGroups, end_at}
use Rattle.search.specs.Configuration.{Tables, Configuration, configuration, front}
use Rattle.search.specs.Look.{Crosses, done, keep, lower}
use Rattle.search.specs.Straightening.{Follows, leaves, keeps, falls, Descends, down, Straightens, end, ring, next}
use Rattle.search.specs.Straightening.{Sinks, sink, Within, before, under_way, later}
use Rattle.search.specs.Straightening as straightening
use Rattle.search.specs.Trace.{Step, look, straighten, Goes, stay, go}
use Rattle.search.specs.History.{Event, fell, looked, crossed, followed, descended, straight, stepped, history, first_levels}
use Rattle.search.specs.History.{FellSince, now, before_fall, before_look}
use Rattle.search.specs.Waiting.{WaitsAt, Waits}
use Rattle.search.specs.inner.Progress.{Passing, Descending, heights}
use Rattle.search.proofs.Change.{Changed}
use Rattle.search.proofs.Stages.{Fell}
use Rattle.search.proofs.Trying.{Trying, off_flag, try_left, try_keep, try_lower, try_fell}
use Rattle.search.proofs.Descent.{y_in, follow_on, falls_fell}
use Rattle.search.proofs.Sweeping.{Swept, swept_none, begins, swept_more}
use Rattle.search.proofs.Run.{PassingAt, bound, bound_wide, bound_few, bound_look, look_trying, step_passing}
use Rattle.search.specs.declared.Ring.{Ring}
use Rattle.std.proofs.Common.{Result}

-- ── the flags tell who fell since it was last looked at ──
pub record Told (faces : ℕ) (waiting : List ℕ) (past : List Event) : Type 0 where
  fallen : (f : ℕ) → f < faces → at waiting f ≡ 1 → FellSince f past
  flagged : (f : ℕ) → FellSince f past → (f < faces) × (at waiting f ≡ 1)

module _ {faces : ℕ} {waiting waiting' : List ℕ} {past : List Event} (t : Told faces waiting past) where
  told_fall : (f : ℕ) → f < faces → Changed (at waiting) (at waiting') f 1 → Told faces waiting' (fell f ∷ past)
  told_fall f l c = record { fallen = λ x b h. fallen' x b h (ℕ_discrete f x); flagged = flagged' }
    where
      fallen' : (x : ℕ) → x < faces → at waiting' x ≡ 1 → Dec (f ≡ x) → FellSince x (fell f ∷ past)
      fallen' x b h (yes e) = now e
      fallen' x b h (no q) = before_fall (t.fallen x b (sym (c.off x (λ e. q (sym e))) ∙ h))

      up : (x : ℕ) → at waiting x ≡ 1 → Dec (x ≡ f) → at waiting' x ≡ 1
      up x h (yes e) = c.at x e
      up x h (no q) = c.off x q ∙ h

      flagged' : (x : ℕ) → FellSince x (fell f ∷ past) → (x < faces) × (at waiting' x ≡ 1)
      flagged' x (now e) = (omega (arith, e), c.at x (sym e))
      flagged' x (before_fall h) = let w = t.flagged x h in (w.0, up x w.1 (ℕ_discrete x f))

  told_look : (i : ℕ) → Changed (at waiting) (at waiting') i 0 → Told faces waiting' (looked i ∷ past)
  told_look i c = record { fallen = λ x b h. fallen' x b h (ℕ_discrete i x); flagged = flagged' }
    where
      fallen' : (x : ℕ) → x < faces → at waiting' x ≡ 1 → Dec (i ≡ x) → FellSince x (looked i ∷ past)
      fallen' x b h (yes e) = absurd (omega (arith, c.at x (sym e)))
      fallen' x b h (no q) = before_look q (t.fallen x b (sym (c.off x (λ e. q (sym e))) ∙ h))

      flagged' : (x : ℕ) → FellSince x (looked i ∷ past) → (x < faces) × (at waiting' x ≡ 1)
      flagged' x (before_look q h) = let w = t.flagged x h in (w.0, c.off x (λ e. q (sym e)) ∙ w.1)

-- ── at first ──
root_fell : (queue : List ℕ) (roots i : ℕ) → i < roots → FellSince (at queue i) (first_levels queue roots)
unfolding first_levels
root_fell queue zero i l = absurd (omega arith)
root_fell queue (suc m) i l = by (ℕ_discrete i m) (root_fell queue m i)
  where
    by : Dec (i ≡ m) → (i < m → FellSince (at queue i) (first_levels queue m)) → FellSince (at queue i) (fell (at queue m) ∷ first_levels queue m)
    by (yes e) h = now (ap (at queue) (sym e))
    by (no q) h = before_fall (h (omega (arith, q)))

fell_root : (queue : List ℕ) (roots f : ℕ) → FellSince f (first_levels queue roots) → (i : ℕ) × (i < roots) × (at queue i ≡ f)
unfolding first_levels
fell_root queue zero f x' = elim x' [ ]
fell_root queue (suc m) f (now e) = (m, omega arith, e)
fell_root queue (suc m) f (before_fall h) = let r = fell_root queue m f h in (r.0, omega (arith, r.1), r.2)

pub begun_told : {lefts : List ℕ} {darts faces : ℕ} {proposal : List ℕ} {ρ : List ℤ} {parents waiting : List ℕ} (queue : List ℕ) (roots : ℕ)
    → faces ≤ 1024 → ((m : ℕ) → m < roots → at queue m < faces)
    → Begun lefts darts faces proposal ρ parents waiting queue roots → Told faces waiting (first_levels queue roots)
begun_told {faces = faces} {waiting = waiting} queue roots few inside b = record {
  fallen = λ f l h. by f l h (seek (at queue) f roots);
  flagged = flagged';
}
  where
    by : (f : ℕ) → f < faces → at waiting f ≡ 1 → ((i : ℕ) × (i < roots) × (at queue i ≡ f)) ⊎ ((i : ℕ) → i < roots → at queue i ≡ f → ⊥)
        → FellSince f (first_levels queue roots)
    by f l h (inl s) = subst (λ x. FellSince x (first_levels queue roots)) s.2 (root_fell queue roots s.0 s.1)
    by f l h (inr c) = absurd (omega (arith, b.rests f (omega arith) c))

    flagged' : (f : ℕ) → FellSince f (first_levels queue roots) → (f < faces) × (at waiting f ≡ 1)
    flagged' f h = let r = fell_root queue roots f h in (omega (arith, inside r.0 r.1, r.2), ap (at waiting) (sym r.2) ∙ b.waits r.0 r.1)

-- who waits from place `first` on stands where it stood, none comes before it, and there is no more left to fall
pub record Kept (faces first : ℕ) (t u : Tables) : Type 0 where
  pub longer : t.last ≤ u.last
  pub places : (m : ℕ) → first ≤ m → m < t.last → face_at u.queue m ≡ face_at t.queue m
  pub spends : u.last + heights faces u.potentials ≤ t.last + heights faces t.potentials

kept_all : {faces first : ℕ} {t : Tables} → Kept faces first t t
kept_all = record { longer = omega arith; places = λ m a b. refl; spends = omega arith }

kept_fell : {faces first y : ℕ} {t u : Tables} → Fell faces first t y u → Kept faces first t u
kept_fell r = record { longer = r.longer; places = r.places; spends = r.spends }

kept_then : {faces first first' : ℕ} {t u v : Tables} → first ≤ first' → Kept faces first t u → Kept faces first' u v → Kept faces first' t v
kept_then l h k = record {
  longer = omega (arith, h.longer, k.longer);
  places = λ m a b. k.places m a (omega (arith, h.longer)) ∙ h.places m (omega arith) b;
  spends = omega (arith, h.spends, k.spends);
}

-- ── within a straightening ──
module _ (lefts : List ℕ) (lengths : List ℤ) (darts faces : ℕ) (roots : List ℕ) (sound : WellFormed (dual_of lefts lengths darts faces roots))
    {first b : ℕ} (wide : 1024 ≤ b) (thin : b < 1600000) where
  module _ {g : ℕ → ℕ} {f k deep rest : ℕ} {t : Tables} (h : Descending (dual_of lefts lengths darts faces roots) t first b g f (suc k) deep rest) where
    follows_told : {u : Tables} (past : List Event) (w : Follows lefts lengths (iter g k f) t u) → Told faces t.waiting past
        → Told faces u.waiting (followed w past)
    unfolding followed
    follows_told past (leaves e) told = told
    follows_told past (keeps has r) told = told
    follows_told {u} past (falls has r q) told =
        told_fall told (iter g k f) (y_in lefts lengths darts faces roots sound wide thin h)
        (falls_fell lefts lengths darts faces roots sound wide thin h has u r q).flag

    follows_kept : {u : Tables} → Follows lefts lengths (iter g k f) t u → Kept faces first t u
    follows_kept (leaves e) = record { longer = omega arith; places = λ m a c. refl; spends = omega arith }
    follows_kept (keeps has r) = kept_all
    follows_kept {u} (falls has r q) = kept_fell (falls_fell lefts lengths darts faces roots sound wide thin h has u r q)

  descends_told : {g : ℕ → ℕ} {f k deep rest : ℕ} {t u : Tables} (past : List Event)
      → Descending (dual_of lefts lengths darts faces roots) t first b g f k deep rest → (q : Descends lefts lengths g f k t u)
      → Told faces t.waiting past → Told faces u.waiting (descended q past)
  unfolding descended
  descends_told past h straightening.done told = told
  descends_told past h (down w q) told =
      descends_told (followed w past) (follow_on lefts lengths darts faces roots sound wide thin h w) q (follows_told h past w told)

  descends_kept : {g : ℕ → ℕ} {f k deep rest : ℕ} {t u : Tables} → Descending (dual_of lefts lengths darts faces roots) t first b g f k deep rest
      → Descends lefts lengths g f k t u → Kept faces first t u
  descends_kept h straightening.done = kept_all
  descends_kept h (down w q) =
      kept_then (omega arith) (follows_kept h w) (descends_kept (follow_on lefts lengths darts faces roots sound wide thin h w) q)

  straightens_told : {f deep : ℕ} {marks : List ℕ} {t u : Tables} {r : Result ℕ Ring} (past : List Event)
      → Swept lefts lengths darts faces roots sound t first b f marks deep → (w : Straightens lefts lengths darts faces f marks t u r)
      → Told faces t.waiting past → Told faces u.waiting (straight w past)
  unfolding straight
  straightens_told past s (end l e) told = told
  straightens_told past s (ring count l a c e) told = told
  straightens_told past s (next count l a c q w) told =
      straightens_told (descended q past) (swept_more lefts lengths darts faces roots sound s l a c wide thin q) w
      (descends_told past (begins lefts lengths darts faces roots sound s l a c) q told)

  pub straightens_kept : {f deep : ℕ} {marks : List ℕ} {t u : Tables} {r : Result ℕ Ring}
      → Swept lefts lengths darts faces roots sound t first b f marks deep → Straightens lefts lengths darts faces f marks t u r → Kept faces first t u
  straightens_kept s (end l e) = kept_all
  straightens_kept s (ring count l a c e) = kept_all
  straightens_kept s (next count l a c q w) =
      kept_then (omega arith) (descends_kept (begins lefts lengths darts faces roots sound s l a c) q)
      (straightens_kept (swept_more lefts lengths darts faces roots sound s l a c wide thin q) w)

  -- at each moment of it
  sinks_passing : {g : ℕ → ℕ} {f k deep rest : ℕ} {t u : Tables} → Descending (dual_of lefts lengths darts faces roots) t first b g f k deep rest
      → Sinks lefts lengths g f k t u → Passing (dual_of lefts lengths darts faces roots) u first b × Kept faces first t u
  sinks_passing h straightening.stay = (h.passing, kept_all)
  sinks_passing h (sink s q) =
      let r = sinks_passing (follow_on lefts lengths darts faces roots sound wide thin h s) q in
      (r.0, kept_then (omega arith) (follows_kept h s) r.1)

  within_passing : {f deep : ℕ} {marks : List ℕ} {t u : Tables} → Swept lefts lengths darts faces roots sound t first b f marks deep
      → Within lefts lengths darts faces f marks t u → Passing (dual_of lefts lengths darts faces roots) u first b × Kept faces first t u
  within_passing s before = (s.passing, kept_all)
  within_passing s (under_way count l a c q) = sinks_passing (begins lefts lengths darts faces roots sound s l a c) q
  within_passing s (later count l a c q w) =
      let r = within_passing (swept_more lefts lengths darts faces roots sound s l a c wide thin q) w in
      (r.0, kept_then (omega arith) (descends_kept (begins lefts lengths darts faces roots sound s l a c) q) r.1)

module _ (G : Given) (roots : List ℕ) (sound : WellFormed (dual G roots)) (g : InGroups G) where
  -- ── within a look ──
  crosses_told : {first b i j : ℕ} {t u : Tables} (past : List Event) → Trying (dual G roots) G.order G.starts t first b i j
      → (q : Crosses G i (end_at G i) j t u) → Told G.faces t.waiting past → Told G.faces u.waiting (crossed q past)
  unfolding crossed
  crosses_told past r (done l) h = h
  crosses_told {j = j} past r (keep l a q) h = crosses_told past (try_keep sound g r (at G.order j) l refl a.2) q h
  crosses_told {j = j} past r (lower {u = v} l a p q) h =
      let d = at G.order j in
      crosses_told (fell (at G.lefts d) ∷ past) (try_lower sound g r d l refl v a.0 a.1 a.2 p) q
      (told_fall h (at G.lefts d) (try_left sound g r d l refl) (try_fell sound g r d l refl v a.0 a.1 a.2 p).flag)

  crosses_kept : {first b i j : ℕ} {t u : Tables} → Trying (dual G roots) G.order G.starts t first b i j
      → Crosses G i (end_at G i) j t u → Kept G.faces (first + 1) t u
  crosses_kept r (done l) = kept_all
  crosses_kept {j = j} r (keep l a q) = crosses_kept (try_keep sound g r (at G.order j) l refl a.2) q
  crosses_kept {j = j} r (lower {u = v} l a p q) =
      let d = at G.order j in
      kept_then (omega arith) (kept_fell (try_fell sound g r d l refl v a.0 a.1 a.2 p))
      (crosses_kept (try_lower sound g r d l refl v a.0 a.1 a.2 p) q)

  -- ── from one configuration to the next ──
  swept_at : (c : Configuration) (r : PassingAt (dual G roots) c)
      → Swept G.lefts G.lengths G.darts G.faces roots sound c.tables c.first (bound G.faces c.left) 0 straightening.unmarked 0
  swept_at c r = swept_none G.lefts G.lengths G.darts G.faces roots sound r.passing

  -- within a straightening that begins at c
  pub within_at : (c : Configuration) → PassingAt (dual G roots) c → c.left ≡ 0 → (u : Tables)
      → Within G.lefts G.lengths G.darts G.faces 0 straightening.unmarked c.tables u
      → PassingAt (dual G roots) (configuration u c.first 0) × Kept G.faces c.first c.tables u
  within_at c r none u w =
      let p =
      within_passing G.lefts G.lengths G.darts G.faces roots sound (bound_wide G.faces c.left)
      (bound_few G.faces c.left sound.few_faces) (swept_at c r) w in (
        record { in-period = omega arith; passing = subst (λ n. Passing (dual G roots) u c.first (bound G.faces n)) none p.0 },
        p.1,
      )

  step_told : {c d : Configuration} (past : List Event) → PassingAt (dual G roots) c → (s : Step G c d) → Told G.faces c.tables.waiting past
      → Told G.faces d.tables.waiting (stepped s past)
  unfolding stepped
  step_told {c} past r (look l m q) h =
      crosses_told (looked (front c) ∷ past) (look_trying G roots sound g c r l m) q
      (told_look h (front c)
      (off_flag sound g r.passing (bound_look G.faces c.left sound.few_faces l r.in-period) m (front c) refl))
  step_told {c} past r (straighten l w) h =
      straightens_told G.lefts G.lengths G.darts G.faces roots sound (bound_wide G.faces c.left)
      (bound_few G.faces c.left sound.few_faces) past (swept_at c r) w h

  pub step_kept : {c d : Configuration} → PassingAt (dual G roots) c → Step G c d
      → (c.first ≤ d.first) × Kept G.faces d.first c.tables d.tables
  step_kept {c} r (look l m q) =
      let more : c.first ≤ c.first + 1 = omega arith in
      let k = crosses_kept (look_trying G roots sound g c r l m) q in
      (more, record { longer = k.longer; places = k.places; spends = k.spends })
  step_kept {c} r (straighten l w) =
      let same : c.first ≤ c.first = omega arith in (
        same,
        straightens_kept G.lefts G.lengths G.darts G.faces roots sound (bound_wide G.faces c.left)
            (bound_few G.faces c.left sound.few_faces) (swept_at c r) w,
      )

  -- ── along a run ──
  pub goes_told : {c d : Configuration} (past : List Event) → PassingAt (dual G roots) c → (p : Goes G c d) → Told G.faces c.tables.waiting past
      → Told G.faces d.tables.waiting (history p past)
  unfolding history
  goes_told past r stay h = h
  goes_told past r (go s p) h = goes_told (stepped s past) (step_passing G roots sound g r s) p (step_told past r s h)

  pub goes_kept : {c d : Configuration} → PassingAt (dual G roots) c → Goes G c d
      → (c.first ≤ d.first) × Kept G.faces d.first c.tables d.tables
  goes_kept r stay = (omega arith, kept_all)
  goes_kept r (go s p) =
      let k = step_kept r s in
      let h = goes_kept (step_passing G roots sound g r s) p in
      (omega (arith, k.0, h.0), kept_then h.0 k.1 h.1)

  -- ── what is true between looks, in the words of the statements ──
  module _ (c : Configuration) (r : PassingAt (dual G roots) c) where
    pub once : (i j f : ℕ) → WaitsAt c i f → WaitsAt c j f → i ≡ j
    once i j f a b = by (dec_lt i j) (dec_lt j i)
      where
        by : Dec (i < j) → Dec (j < i) → i ≡ j
        by (yes l) m = absurd (r.passing.line.once i j a.0 l b.1 (a.2 ∙ sym b.2))
        by (no l) (yes m) = absurd (r.passing.line.once j i b.0 m a.1 (b.2 ∙ sym a.2))
        by (no l) (no m) = omega (arith, l, m)

    place : (f : ℕ) → f < G.faces → at c.tables.waiting f ≡ 1 → Waits c f
    place f l e = let s = r.passing.line.stands f l e in (s.0, (s.1, s.2, s.3))

    pub only_waiting : (d : ℕ) → d < G.darts → CanLower (dual G roots) (atℤ c.tables.potentials) d → Waits c ((dual G roots).right d)
    only_waiting d l can = by (ℕ_discrete (at c.tables.waiting ((dual G roots).right d)) 1)
      where
        by : Dec (at c.tables.waiting ((dual G roots).right d) ≡ 1) → Waits c ((dual G roots).right d)
        by (yes e) = place ((dual G roots).right d) (sound.right_in d l) e
        by (no n) = absurd (lt_le_clash can.1 (r.passing.quiet.quiet d l (λ a. a) n can.0))

    pub waits_fell : {past : List Event} → Told G.faces c.tables.waiting past → (f : ℕ) → Waits c f → FellSince f past
    waits_fell {past} h f w =
        let i = w.0 in
        let l = w.1 in
        subst (λ x. FellSince x past) l.2
        (h.fallen (face_at c.tables.queue i) (r.passing.line.inside i l.0 l.1) (r.passing.line.flagged i l.0 l.1))

    pub fell_waits : {past : List Event} → Told G.faces c.tables.waiting past → (f : ℕ) → FellSince f past → Waits c f
    fell_waits h f e = let w = h.flagged f e in place f w.0 w.1

    pub front_waits : c.first < c.tables.last → Waits c (front c)
    front_waits l = (c.first, (omega arith, l, refl))

    pub kept_place : {d : Configuration} → Goes G c d → (i f : ℕ) → WaitsAt c i f → d.first ≤ i → WaitsAt d i f
    kept_place p i f w l = let k = goes_kept r p in (l, omega (arith, w.1, k.1.longer), k.1.places i l w.1 ∙ w.2)

    pub came_behind : {d : Configuration} → Goes G c d → (i f : ℕ) → WaitsAt d i f → WaitsAt c i f ⊎ (c.tables.last ≤ i)
    came_behind {d} p i f w = by (dec_lt i c.tables.last)
      where
        by : Dec (i < c.tables.last) → WaitsAt c i f ⊎ (c.tables.last ≤ i)
        by (yes l) = let k = goes_kept r p in inl (omega (arith, k.0, w.0), l, sym (k.1.places i w.0 l) ∙ w.2)
        by (no n) = inr (omega (arith, n))
