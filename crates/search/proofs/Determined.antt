-- What the search leaves follows from what it is given: each configuration has one step or is an end, and there is one beginning.
use mathlib.Core.Path.{◌≡◌, refl, sym, ◌∙◌, ap, subst}
use mathlib.Core.Logic.{◌⊎◌, inl, inr}
use mathlib.Core.List.{List}
use Prim.Native.Nat.{ℕ, ◌+◌, ◌-◌, ◌≤◌, ◌<◌}
use native.Mathlib.Omega.{arith}
use native.Mathlib.Decide.{dec_lt}
use lib.Seq.{ext_get_or}
use lib.IntN.{ℤ, pos}
use Rattle.integers.proofs.Laws.{lt_le_clash}
use Rattle.integers.proofs.Pigeonhole.{seek}
use Rattle.maps.specs.Orbit.{iter}
use Rattle.arrays.specs.At.{at, atℤ}
use Rattle.search.specs.Queue.{Pushed}
use Rattle.search.specs.Moves.{Begun}
use Rattle.search.specs.Given.{Given}
use Rattle.search.specs.Configuration.{Tables, tables_of, Configuration, configuration}
use Rattle.search.specs.Look.{Crosses, done, keep, lower}
use Rattle.search.specs.Straightening.{marked, Ascent, Follows, leaves, keeps, falls, Descends, down, upward_of, Straightens, end, ring, next}
use Rattle.search.specs.Straightening as straightening
use Rattle.search.specs.Trace.{period, Step, look, straighten, Goes, stay, go, Ends, start, Searches}
use Rattle.std.proofs.Common.{Ok, Err, Result}
use Rattle.search.specs.declared.Ring.{Ring}
use Rattle.search.specs.Outcome.{Outcome, closed_by}

-- ── one look ──
same_tables : (t u : Tables) → t.potentials ≡ u.potentials → t.parents ≡ u.parents → t.waiting ≡ u.waiting → t.queue ≡ u.queue
    → t.last ≡ u.last → t ≡ u
same_tables t u p q r s n =
    ap (λ x. tables_of x t.parents t.waiting t.queue t.last) p
    ∙ ap (λ x. tables_of u.potentials x t.waiting t.queue t.last) q
    ∙ ap (λ x. tables_of u.potentials u.parents x t.queue t.last) r
    ∙ ap (λ x. tables_of u.potentials u.parents u.waiting x t.last) s
    ∙ ap (λ x. tables_of u.potentials u.parents u.waiting u.queue x) n

module _ (waiting queue w q w' q' : List ℕ) (f last l l' : ℕ) where
  pushed_one : Pushed waiting queue w q f last l → Pushed waiting queue w' q' f last l' → (w ≡ w') × (q ≡ q') × (l ≡ l')
  pushed_one (inl a) (inl b) = (a.1 ∙ sym b.1, a.2 ∙ sym b.2, a.3 ∙ sym b.3)
  pushed_one (inl a) (inr b) = absurd (b.0 a.0)
  pushed_one (inr a) (inl b) = absurd (a.0 b.0)
  pushed_one (inr a) (inr b) = (a.1 ∙ sym b.1, a.2 ∙ sym b.2, a.3 ∙ sym b.3)

crosses_one : {G : Given} {i e j : ℕ} {t u v : Tables} → Crosses G i e j t u → Crosses G i e j t v → u ≡ v
crosses_one (done l) (done m) = refl
crosses_one (done l) (keep m a q) = absurd (omega arith)
crosses_one (done l) (lower m a w q) = absurd (omega arith)
crosses_one (keep l a p) (done n) = absurd (omega arith)
crosses_one (keep l a p) (keep m b q) = crosses_one p q
crosses_one (keep l a p) (lower m b w q) = absurd (lt_le_clash b.2 a.2)
crosses_one (lower l a w p) (done n) = absurd (omega arith)
crosses_one (lower l a w p) (keep n b q) = absurd (lt_le_clash a.2 b.2)
crosses_one {G} {i} {e} {j} {t} {v = z} (lower {u = u} l a w p) (lower {u = v} k b x q) =
    let f = at G.lefts (at G.order j) in
    let r = pushed_one t.waiting t.queue u.waiting u.queue v.waiting v.queue f t.last u.last v.last w x in
    let same = same_tables u v (a.0 ∙ sym b.0) (a.1 ∙ sym b.1) r.0 r.1 r.2 in
    crosses_one p (subst (λ y. Crosses G i e (j + 1) y z) (sym same) q)

-- ── one straightening ──
ascent_one : {upward : ℕ → ℕ} {darts : ℕ} {parents marks : List ℕ} {f count count' : ℕ} → Ascent upward darts parents marks f count
    → Ascent upward darts parents marks f count' → count ≡ count'
ascent_one {count = count} {count'} a b = by (dec_lt count count') (dec_lt count' count)
  where
    by : Dec (count < count') → Dec (count' < count) → count ≡ count'
    by (yes l) m = let o = b.onward count l in absurd (a.stops o.0 o.1)
    by (no l) (yes m) = let o = a.onward count' m in absurd (b.stops o.0 o.1)
    by (no l) (no m) = omega (arith, l, m)

follows_one : {lefts : List ℕ} {lengths : List ℤ} {y : ℕ} {t u v : Tables} → Follows lefts lengths y t u → Follows lefts lengths y t v → u ≡ v
follows_one (leaves e) (leaves e') = refl
follows_one (leaves e) (keeps h a) = absurd (h e)
follows_one (leaves e) (falls h a p) = absurd (h e)
follows_one (keeps h a) (leaves e) = absurd (h e)
follows_one (keeps h a) (keeps k b) = refl
follows_one (keeps h a) (falls k b p) = absurd (lt_le_clash b.2 a.2)
follows_one (falls h a p) (leaves e) = absurd (h e)
follows_one (falls h a p) (keeps k b) = absurd (lt_le_clash a.2 b.2)
follows_one {y = y} {t} {u} {v} (falls h a p) (falls k b q) =
    let r = pushed_one t.waiting t.queue u.waiting u.queue v.waiting v.queue y t.last u.last v.last p q in
    same_tables u v (a.0 ∙ sym b.0) (a.1 ∙ sym b.1) r.0 r.1 r.2

descends_one : {lefts : List ℕ} {lengths : List ℤ} {upward : ℕ → ℕ} {f k : ℕ} {t u v : Tables} → Descends lefts lengths upward f k t u
    → Descends lefts lengths upward f k t v → u ≡ v
descends_one straightening.done straightening.done = refl
descends_one {lefts} {lengths} {upward} {f} {v = z} (down {k = k} s p) (down w q) =
    descends_one p (subst (λ x. Descends lefts lengths upward f k x z) (sym (follows_one s w)) q)

straightens_one : {lefts : List ℕ} {lengths : List ℤ} {darts faces f : ℕ} {marks : List ℕ} {t u v : Tables} {r o : Result ℕ Ring}
    → Straightens lefts lengths darts faces f marks t u r → Straightens lefts lengths darts faces f marks t v o → (r ≡ o) × (u ≡ v)
straightens_one (end l e) (end m g) = (ap Ok (e ∙ sym g), refl)
straightens_one (end l e) (ring count m a c d) = absurd (omega arith)
straightens_one (end l e) (next count m a c q s) = absurd (omega arith)
straightens_one (ring count l a c e) (end m g) = absurd (omega arith)
straightens_one {lefts} {f = f} {t = t} (ring count l a c e) (ring count' m b d h) =
    (ap closed_by (e ∙ ap (λ k. at t.parents (iter (upward_of lefts t) k f)) (ascent_one a b) ∙ sym h), refl)
straightens_one {lefts} {f = f} {marks} {t} (ring count l a c e) (next count' m b d q s) =
    absurd (d (subst (λ k. straightening.Closes f (iter (upward_of lefts t) k f) (marked (upward_of lefts t) f k marks) t)
    (ascent_one a b) c))
straightens_one (next count l a c p r) (end m g) = absurd (omega arith)
straightens_one {lefts} {f = f} {marks} {t} (next count l a c p r) (ring count' m b d e) =
    absurd (c (subst (λ k. straightening.Closes f (iter (upward_of lefts t) k f) (marked (upward_of lefts t) f k marks) t)
    (ascent_one b a) d))
straightens_one {lefts} {lengths} {darts} {faces} {f} {marks} {t} {v = z} {o = o} (next {u = u} count l a c p r) (next {u = v} count' m b d q s) =
    let same = ascent_one a b in
    let there = descends_one p (subst (λ k. Descends lefts lengths (upward_of lefts t) f k t v) (sym same) q) in
    straightens_one r
    (subst (λ x. Straightens lefts lengths darts faces (f + 1) (marked (upward_of lefts t) f count marks) x z o) (sym there)
    (subst (λ k. Straightens lefts lengths darts faces (f + 1) (marked (upward_of lefts t) f k marks) v z o) (sym same) s))

-- ── one step, or an end ──
not_both : {last : ℕ} {r : Ring} → ◌≡◌ {A = Result ℕ Ring} (Ok last) (Err r) → ⊥
not_both e = let z : ◌≡◌ {A = ℕ} 0 1 = cc in omega arith

module _ (G : Given) (c : Configuration) where
  ends_one : (u v : Tables) (o p : Outcome) → Ends G c u o → Ends G c v p → (o ≡ p) × (u ≡ v)
  ends_one u v (Ok _) (Ok _) h k = (refl, h.2 ∙ sym k.2)
  ends_one u v (Ok _) (Err y) h k = absurd (omega (arith, h.0, k.0))
  ends_one u v (Err y) (Ok _) h k = absurd (omega (arith, h.0, k.0))
  ends_one u v (Err x) (Err y) h k = let r = straightens_one h.1 k.1 in (let q = r.0 in cc, r.1)

-- at an end there is no step on
ends_stop : {G : Given} {c d : Configuration} (u : Tables) (o : Outcome) → Ends G c u o → Step G c d → ⊥
ends_stop u (Ok _) h (look l m q) = omega (arith, h.1)
ends_stop u (Err x) h (look l m q) = omega (arith, h.0)
ends_stop u (Ok _) h (straighten l s) = omega (arith, h.0)
ends_stop u (Err x) h (straighten l s) = not_both (straightens_one s h.1).0

step_one : {G : Given} {c d e : Configuration} → Step G c d → Step G c e → d ≡ e
step_one {G} {c} (look l m q) (look l' m' q') = ap (λ t. configuration t (c.first + 1) (c.left - 1)) (crosses_one q q')
step_one (look l m q) (straighten l' s) = absurd (omega arith)
step_one (straighten l s) (look l' m q) = absurd (omega arith)
step_one {G} {c} (straighten l s) (straighten l' s') = ap (λ t. configuration t c.first (period G.faces)) (straightens_one s s').1

-- ── one end ──
goes_one : {G : Given} {c d e : Configuration} (u v : Tables) (o p : Outcome) → Goes G c d → Ends G d u o → Goes G c e → Ends G e v p → (o ≡ p) × (u ≡ v)
goes_one {G} {c} u v o p stay h stay k = ends_one G c u v o p h k
goes_one u v o p stay h (go s q) k = absurd (ends_stop u o h s)
goes_one u v o p (go s q) h stay k = absurd (ends_stop v p k s)
goes_one {G} {e = e} u v o p (go s q) h (go s' q') k = goes_one u v o p q h (subst (λ x. Goes G x e) (sym (step_one s s')) q') k

-- ── one beginning ──
module _ {lefts : List ℕ} {darts faces : ℕ} {proposal queue : List ℕ} {roots : ℕ} {ρ ρ' : List ℤ} {parents parents' waiting waiting' : List ℕ}
    (b : Begun lefts darts faces proposal ρ parents waiting queue roots) (c : Begun lefts darts faces proposal ρ' parents' waiting' queue roots) where
  -- what holds of the roots and of the others holds of all
  split : (P : ℕ → Type 0) → ((m : ℕ) → m < roots → P (at queue m)) → ((f : ℕ) → f < 1024 → ((m : ℕ) → m < roots → at queue m ≡ f → ⊥) → P f)
      → (f : ℕ) → f < 1024 → P f
  split P p q f l = by (seek (at queue) f roots)
    where
      by : ((i : ℕ) × (i < roots) × (at queue i ≡ f)) ⊎ ((i : ℕ) → i < roots → at queue i ≡ f → ⊥) → P f
      by (inl s) = subst P s.2 (p s.0 s.1)
      by (inr n) = q f l n

  begun_potentials : ρ ≡ ρ'
  begun_potentials =
      ext_get_or (pos 0) ρ ρ' (b.size_potentials ∙ sym c.size_potentials)
      (λ f l. split (λ f. atℤ ρ f ≡ atℤ ρ' f) (λ m k. b.zero m k ∙ sym (c.zero m k)) (λ f k n. b.others f k n ∙ sym (c.others f k n)) f
      (omega (arith, b.size_potentials)))

  begun_waiting : waiting ≡ waiting'
  begun_waiting =
      ext_get_or 0 waiting waiting' (b.size_waiting ∙ sym c.size_waiting)
      (λ f l. split (λ f. at waiting f ≡ at waiting' f) (λ m k. b.waits m k ∙ sym (c.waits m k)) (λ f k n. b.rests f k n ∙ sym (c.rests f k n)) f
      (omega (arith, b.size_waiting)))

  begun_parents : parents ≡ parents'
  begun_parents =
      ext_get_or 0 parents parents' (b.size_parents ∙ sym c.size_parents)
      (λ f l. split (λ f. at parents f ≡ at parents' f) (λ m k. b.none m k ∙ sym (c.none m k)) (λ f k n. by f k n (dec_lt f faces)) f
      (omega (arith, b.size_parents)))
    where
      by : (f : ℕ) → f < 1024 → ((m : ℕ) → m < roots → at queue m ≡ f → ⊥) → Dec (f < faces) → at parents f ≡ at parents' f
      by f k n (yes l) = b.proposed f l n ∙ sym (c.proposed f l n)
      by f k n (no l) = let m : faces ≤ f = omega (arith, l) in b.beyond f m k n ∙ sym (c.beyond f m k n)

  begun_one : (G : Given) → start G proposal ρ parents waiting queue roots ≡ start G proposal ρ' parents' waiting' queue roots
  begun_one G =
      ap (λ x. start G proposal x parents waiting queue roots) begun_potentials
      ∙ ap (λ x. start G proposal ρ' x waiting queue roots) begun_parents
      ∙ ap (λ x. start G proposal ρ' parents' x queue roots) begun_waiting

-- the same given, the same roots and proposal: the same answer, and the same potentials and parents left
pub searches_one : {G : Given} {queue : List ℕ} {roots : ℕ} {proposal : List ℕ} {ρ ρ' : List ℤ} {parents parents' : List ℕ} {o p : Outcome}
    → Searches G queue roots proposal ρ parents o → Searches G queue roots proposal ρ' parents' p → (o ≡ p) × (ρ ≡ ρ') × (parents ≡ parents')
searches_one {G} {o = o} {p = p} a b =
    let r =
    goes_one a.left b.left o p a.run a.ended (subst (λ c. Goes G c b.end) (sym (begun_one a.begun b.begun G)) b.run) b.ended in (
      r.0,
      sym a.potentials_are ∙ ap (λ t. t.potentials) r.1 ∙ b.potentials_are,
      sym a.parents_are ∙ ap (λ t. t.parents) r.1 ∙ b.parents_are,
    )
