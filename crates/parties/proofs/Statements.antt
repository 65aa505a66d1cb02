-- Document 02, Jobs 11 and 12: the statements of specs/Statements.antt but isolation.
use Prim.Native.Nat.{ℕ, ◌*◌, ◌≤◌, ◌<◌}
use mathlib.Core.Path.{◌≡◌, refl, sym, ◌∙◌, ap, subst}
use mathlib.Core.Logic.{◌≢◌, ◌↔◌}
use mathlib.Core.Bool.{Bool, true, false, cond}
use mathlib.Core.List.{List, [], ◌∷◌}
use native.Mathlib.Omega.{arith}
use native.Mathlib.Decide.{ℕ_discrete}
use lib.Dec.{eqb}
use lib.IntN.{ℤ, pos, ◌+ℤ◌, ◌-ℤ◌}
use Rattle.std.specs.Prelude.{Result, Ok, Err}
use Rattle.integers.proofs.Omega.{atoms₂, parts, equal}
use Rattle.refusals.specs.Order.{◌when◌, NoneOf}
use Rattle.refusals.proofs.Order.{first_none}
use Rattle.refusals.specs.declared.Refusal.{Refusal}
use Rattle.refusals.specs.Refused.{refused}
use Rattle.maps.specs.Dart.{rev}
use Rattle.maps.proofs.Darts.{rev_in}
use Rattle.flows.specs.Settings.{on_darts}
use Rattle.flows.specs.Highest.{Highest}
use Rattle.flows.specs.ProvingSet.{member}
use Rattle.flows.proofs.Exact.{proves_excludes}
use Rattle.flows.proofs.Agreement.{highest_agrees}
use Rattle.flows.proofs.OnDarts.{on_darts_antisymmetric}
use Rattle.arrays.specs.At.{atℤ}
use Rattle.arrays.specs.Filled.{filled}
use Rattle.arrays.proofs.FillLoops.{filled_front}
use Rattle.records.specs.Sheet.{nodes_of, edges_of, outer_of, capacity_of, sheet_map, sheet_drawing}
use Rattle.questions.specs.Solve.{question_checks, Solved}
use Rattle.questions.specs.declared.Solution.{Solution}
use Rattle.questions.specs.declared.Solution.TheVariants.{Can, Cannot}
use Rattle.questions.proofs.Asked.{ends_in, ends_differ}
use Rattle.questions.proofs.Asked as questions
use Rattle.questions.proofs.After.{solved_after}
use Rattle.sheets.specs.Open.{sheet_checks}
use Rattle.analyser.specs.Solve.{solve_checks, Solves}
use Rattle.analyser.proofs.SheetPlane.{plane}
use Rattle.sessions.proofs.Asking.{solved_same}
use Rattle.parties.specs.Shared.{idle, offered, stale, committed, Shared, shared_drawing, put, staled, flows_of}
use Rattle.parties.specs.Calls.{after_ask, Asks, Commits}
use Rattle.parties.specs.Seen.{Event, clears, Step, ask_step, commit_step, clear_step}
use Rattle.parties.specs.Reached.{Reached}
use Rattle.parties.specs.Statements.{DeliversLeft, MayAsk, Sessions, OthersKept, AnyValue}
use Rattle.parties.proofs.Views.{own, other}
use Rattle.parties.proofs.Taking.{edge-flow, has_committed, no_offer, staled_other}
use Rattle.parties.proofs.Account.{Above, Kept, left_lowered, sums_kept, left_range, drawing_is, kept_fit, kept_lowerable}
use Rattle.parties.proofs.Standings.{two_at_most, nobody_yet}
use Rattle.parties.proofs.Onward.{asked_may, reached_invariant, reached_clear, barred_bare}
use Rattle.parties.proofs.Answers.{
  told,
  ask_committed,
  ask_unfit,
  ask_empty,
  ask_29,
  party_same,
  behind,
  none_in_front,
  solved_behind,
  verdict_is,
  commit_29,
  exactly,
}

pub reached_kept : {s : List ℕ} {S : Shared} {fs : List (List ℤ)} → Reached s S fs → Kept s S fs
reached_kept r = (reached_invariant r).kept

-- ── what is answered, of the sheet's drawing with the limits left ──
module _ (s : List ℕ) (S : Shared) (fs : List (List ℤ)) (r : Reached s S fs) (p source sink : ℕ) (value : ℤ) (flows flows' : List ℤ) (set set' : List ℕ) where
  pub answered : (S' : Shared) (answer : Result Solution Refusal) → Asks S p source sink value flows flows' set set' S' answer
      → Solved (record { map = sheet_map s; capacity = atℤ S.left; outer = outer_of s })
      ((29 when 2 ≤ p) ∷ (30 when S.standing p ≡ committed) ∷ question_checks (nodes_of s) (edges_of s) source sink value flows set)
      source sink value flows flows' set set' answer
  answered S' answer a =
      let k = reached_kept r in
      subst (λ 𝓓. Solved 𝓓 ((29 when 2 ≤ p) ∷ (30 when S.standing p ≡ committed)
      ∷ question_checks 𝓓.map.nodes 𝓓.map.edges source sink value flows set) source sink value flows flows' set set' answer)
      (drawing_is k)
      (solved_same (shared_drawing S) _ _ (party_same (shared_drawing S) (S.standing p) p source sink value flows set (kept_fit k))
      source sink value flows flows' set set' answer a.solved)

  pub asked_of : NoneOf ((29 when 2 ≤ p) ∷ (30 when S.standing p ≡ committed) ∷ question_checks (nodes_of s) (edges_of s) source sink value flows set)
      → NoneOf (question_checks (nodes_of s) (edges_of s) source sink value flows set)
  asked_of = behind (S.standing p) p (question_checks (nodes_of s) (edges_of s) source sink value flows set)

  highest : (S' : Shared) → Asks S p source sink value flows flows' set set' S' (Ok Can) → Highest (sheet_map s) (outer_of s) (atℤ S.left) source sink value
      (atℤ flows')
  highest S' a =
      let h = answered S' (Ok Can) a in
      let x = h.1.0 in
      highest_agrees (sheet_map s) x (atℤ flows') (λ e l. sym (filled_front (pos 0) (edges_of s) x flows flows' h.1.2 e l)) h.1.1

  cannot_only : (S' : Shared) (answer : Result Solution Refusal) → Asks S p source sink value flows flows' set set' S' answer
      → (n : ℕ) × (answer ≡ Ok (Cannot n)) → (x : ℕ → ℤ) → DeliversLeft s S source sink value x → ⊥
  cannot_only S' answer a (n, e) =
      let h = answered S' (Ok (Cannot n)) (subst (Asks S p source sink value flows flows' set set' S') e a) in
      let two = (questions.accepted (nodes_of s) (edges_of s) source sink flows set value (asked_of h.0)).ends_two in
      let i = ends_in (nodes_of s) source sink two in
      proves_excludes (plane s (reached_kept r).sheet).sound.range i.0 i.1 (ends_differ (nodes_of s) source sink two)
      (atℤ S.left) value (member h.1.0) h.1.2

  module _ (may : MayAsk S p) (asked : NoneOf (question_checks (nodes_of s) (edges_of s) source sink value flows set)) where
    not_refused : (S' : Shared) (r : Refusal) → Asks S p source sink value flows flows' set set' S' (Err r) → ⊥
    not_refused S' r a = first_none _ r.number r.place (answered S' (Err r) a).0 (none_in_front (S.standing p) p _ may.0 may.1 asked)

    can_where : (S' : Shared) (answer : Result Solution Refusal) → Asks S p source sink value flows flows' set set' S' answer
        → (x : ℕ → ℤ) → DeliversLeft s S source sink value x → answer ≡ Ok Can
    can_where S' (Ok Can) a x d = refl
    can_where S' (Ok (Cannot n)) a x d = absurd (cannot_only S' (Ok (Cannot n)) a (n, refl) x d)
    can_where S' (Err r) a x d = absurd (not_refused S' r a)

    cannot_where : (S' : Shared) (answer : Result Solution Refusal) → Asks S p source sink value flows flows' set set' S' answer
        → ((x : ℕ → ℤ) → DeliversLeft s S source sink value x → ⊥) → (n : ℕ) × (answer ≡ Ok (Cannot n))
    cannot_where S' (Ok Can) a none = absurd (none (atℤ flows') (highest S' a).carries)
    cannot_where S' (Ok (Cannot n)) a none = (n, refl)
    cannot_where S' (Err r) a none = absurd (not_refused S' r a)

-- before the first commit the limits left are the sheet's
first_solves : (s : List ℕ) (S S' : Shared) (p source sink : ℕ) (value : ℤ) (flows flows' : List ℤ) (set set' : List ℕ) (answer : Result Solution Refusal)
    → Reached s S [] → p < 2 → Asks S p source sink value flows flows' set set' S' answer → Solves s source sink value flows flows' set set' answer
unfolding solve_checks
first_solves s S S' p source sink value flows flows' set set' answer r l a =
    let i = reached_invariant r in
    let left : atℤ S.left ≡ capacity_of s = ap atℤ (i.kept.untouched refl) ∙ i.kept.limits_are in
    solved_after (sheet_checks s) i.kept.sheet (sheet_drawing s) _ source sink value flows flows' set set' answer
    (subst (λ c. Solved (record { map = sheet_map s; capacity = c; outer = outer_of s }) (question_checks (nodes_of s) (edges_of s) source sink value flows set)
    source sink value flows flows' set set' answer) left
    (solved_behind (S.standing p) p _ l (nobody_yet i.stands p l) _ source sink value flows flows' set set' answer
    (answered s S [] r p source sink value flows flows' set set' S' answer a)))

-- ── what a commit says ──
commit_says : (s : List ℕ) (S S' : Shared) (fs : List (List ℤ)) (p : ℕ) (answer : Result Unit Refusal)
    → Reached s S fs → p < 2 → Commits S p S' answer
    → ((answer ≡ refused 28 0) ↔ (S.standing p ≡ idle)) × ((answer ≡ Ok tt) ↔ (S.standing p ≡ offered))
    × ((answer ≡ refused 31 0) ↔ (S.standing p ≡ stale)) × ((answer ≡ refused 30 0) ↔ (S.standing p ≡ committed))
commit_says s S S' fs p answer r l c =
    let i = reached_invariant r in
    let by = exactly S p l (kept_lowerable i.kept p) (i.stands.stood p) S' answer c in
    (by idle (omega arith), by offered (omega arith), by stale (omega arith), by committed (omega arith))

pub sessions : Sessions
unfolding Above
sessions = record {
  account = λ s S fs r. (reached_kept r).account;
  drawing_kept = λ s S fs r. ((reached_kept r).map_is, (reached_kept r).outer_is);
  limits_kept = λ s S fs r. (reached_kept r).limits_are;
  pairs_kept = λ s S fs r. sums_kept (reached_kept r);
  limits_reach = λ s S fs r. left_range (reached_kept r);
  limits_met = λ s S xs fs r. (reached_kept r).above;
  clear_restores = λ s S fs r. (reached_clear r, (reached_kept r).limits_are);
  once_each = λ s S fs r. two_at_most (reached_invariant r).stands;
  none_yet = λ s S p r. nobody_yet (reached_invariant r).stands p;
  first_solves = first_solves;
  ask_refused = λ s S S' fs p source sink value flows flows' set set' q r a.
      (answered s S fs r p source sink value flows flows' set set' S' (Err q) a).0;
  can_highest = λ s S S' fs p source sink value flows flows' set set' r a. highest s S fs r p source sink value flows flows' set set' S' a;
  can_carries = λ s S S' fs p source sink value flows flows' set set' r a. (highest s S fs r p source sink value flows flows' set set' S' a).carries;
  cannot_proves = λ s S S' fs p source sink value flows flows' set set' n r a.
      (answered s S fs r p source sink value flows flows' set set' S' (Ok (Cannot n)) a).1;
  cannot_exactly = λ s S S' fs p source sink value flows flows' set set' answer r may asked a. (
    cannot_only s S fs r p source sink value flows flows' set set' S' answer a,
    cannot_where s S fs r p source sink value flows flows' set set' may asked S' answer a,
  );
  can_exactly = λ s S S' fs p source sink value flows flows' set set' answer r may asked a. (
    (λ e. let b = subst (Asks S p source sink value flows flows' set set' S') e a in
        (atℤ flows', (highest s S fs r p source sink value flows flows' set set' S' b).carries)),
    (λ h. can_where s S fs r p source sink value flows flows' set set' may asked S' answer a h.0 h.1),
  );
  offer_within = λ s S fs p r. (reached_kept r).fresh p;
  commit_exactly = λ s S S' fs p answer r l c. (commit_says s S S' fs p answer r l c).1;
  commit_30 = λ s S S' fs p answer r l c. (commit_says s S S' fs p answer r l c).3;
  commit_28 = λ s S S' fs p answer r l c. (commit_says s S S' fs p answer r l c).0;
  commit_31 = λ s S S' fs p answer r l c. (commit_says s S S' fs p answer r l c).2;
  barred_empty = λ s S fs r. let b = barred_bare r in (b.no_nodes, b.no_edges, b.no_offer, b.no-flows);
  barred_13 = λ s S S' fs p source sink value flows flows' set set' answer r l a.
      let b = barred_bare r in
      told S p source sink value flows set flows' set' S' answer 13 0
      (ask_empty S p source sink value flows set l (λ e. absurd (omega (arith, b.no_offer p, e))) b.no_nodes) a;
  barred_28 = λ s S S' fs p answer r l c.
      let i = (barred_bare r).no_offer p in
      verdict_is S p S' answer (refused 28 0)
      (no_offer S p (λ m. absurd (omega (arith, l, m))) (λ e. absurd (omega (arith, i, e))) (λ e. absurd (omega (arith, i, e)))
      (λ e. absurd (omega (arith, i, e)))) c;
}

-- ── every value ──
put_others : (S S' : Shared) (p a : ℕ) (xs : List ℤ) → S' ≡ put S p a xs → OthersKept S S' p
put_others S S' p a xs e = record {
  left_kept = ap (λ (T : Shared). T.left) e;
  standing_kept = λ q h. ap (λ (T : Shared). T.standing q) e ∙ other q p a (S.standing q) (λ g. h (sym g));
  offer_kept = λ q h. ap (λ (T : Shared). T.offer q) e ∙ other q p xs (S.offer q) (λ g. h (sym g));
}

put_stands : (S S' : Shared) (p a : ℕ) (xs : List ℤ) → S' ≡ put S p a xs → S'.standing p ≡ a
put_stands S S' p a xs e = ap (λ (T : Shared). T.standing p) e ∙ own p a (S.standing p)

lowers : (S S' : Shared) (p : ℕ) → Commits S p S' (Ok tt) → (d : ℕ) → d < 2 * S.edges
    → (atℤ S'.left d ≡ atℤ S.left d -ℤ on_darts (atℤ (S.offer p)) d)
    × (atℤ S'.left (rev d) ≡ atℤ S.left (rev d) +ℤ on_darts (atℤ (S.offer p)) d)
lowers S S' p c d l = (once d l, once (rev d) (rev_in S.edges d l) ∙ back)
  where
    once : (d : ℕ) → d < 2 * S.edges → atℤ S'.left d ≡ atℤ S.left d -ℤ on_darts (atℤ (S.offer p)) d
    once d l =
        ap (λ (T : Shared). atℤ T.left d) c.1 ∙ left_lowered S.edges S.left (flows_of S p) d l
        ∙ ap (λ x. atℤ S.left d -ℤ x) (sym (edge-flow S.edges (S.offer p) d l))

    back : atℤ S.left (rev d) -ℤ on_darts (atℤ (S.offer p)) (rev d) ≡ atℤ S.left (rev d) +ℤ on_darts (atℤ (S.offer p)) d
    back =
        ap (λ z. atℤ S.left (rev d) -ℤ z) (on_darts_antisymmetric (shared_drawing S).map (atℤ (S.offer p)) d l)
        ∙ (let a = atoms₂ (atℤ S.left (rev d)) (on_darts (atℤ (S.offer p)) d) in equal (search parts) (omega arith))

-- where another party stands after a commit
stands_beside : (S S' : Shared) (p q : ℕ) → Commits S p S' (Ok tt) → q ≢ p → S'.standing q ≡ staled (S.standing q)
stands_beside S S' p q c h = ap (λ (T : Shared). T.standing q) c.1 ∙ other q p committed (staled (S.standing q)) (λ g. h (sym g))

-- who has committed has until a clear
ask_stays : (S : Shared) (p o : ℕ) (flows' : List ℤ) (r : Result Solution Refusal) → S.standing p ≡ committed
    → ((p ≡ o) → r ≢ Ok Can) → ((p ≡ o) → (n : ℕ) → r ≢ Ok (Cannot n)) → (after_ask S o flows' r).standing p ≡ committed
ask_stays S p o flows' (Ok Can) e can cannot = by (ℕ_discrete p o)
  where
    by : Dec (p ≡ o) → cond (eqb p o) offered (S.standing p) ≡ committed
    by (yes h) = absurd (can h refl)
    by (no h) = other p o offered (S.standing p) (λ g. h (sym g)) ∙ e
ask_stays S p o flows' (Ok (Cannot n)) e can cannot = by (ℕ_discrete p o)
  where
    by : Dec (p ≡ o) → cond (eqb p o) idle (S.standing p) ≡ committed
    by (yes h) = absurd (cannot h n refl)
    by (no h) = other p o idle (S.standing p) (λ g. h (sym g)) ∙ e
ask_stays S p o flows' (Err r) e can cannot = e

still : (t : Bool) (a : ℕ) → a ≡ committed → cond t committed (staled a) ≡ committed
still true a e = refl
still false a e = ap staled e

stays : (S S' : Shared) (e : Event) (p : ℕ) → Step S e S' → e ≢ clears → S.standing p ≡ committed → S'.standing p ≡ committed
stays S S' e p (ask_step o k flows' set' r a) h c =
    ap (λ (T : Shared). T.standing p) a.after ∙ ask_stays S p o flows' r c
    (λ g f. asked_may S o k.source k.sink k.value k.flows k.set
    (subst (Asks S o k.source k.sink k.value k.flows flows' k.set set' S') f a).solved.0 (subst (λ b. S.standing b ≡ committed) g c))
    (λ g n f. asked_may S o k.source k.sink k.value k.flows k.set
    (subst (Asks S o k.source k.sink k.value k.flows flows' k.set set' S') f a).solved.0 (subst (λ b. S.standing b ≡ committed) g c))
stays S S' e p (commit_step o (Ok done) a) h c = ap (λ (T : Shared). T.standing p) a.1 ∙ still (eqb p o) (S.standing p) c
stays S S' e p (commit_step o (Err r) a) h c = ap (λ (T : Shared). T.standing p) a.1 ∙ c
stays S S' e p clear_step h c = absurd (h refl)

pub any_value : AnyValue
any_value = record {
  can_offers = λ S S' p source sink value flows flows' set set' a.
      let xs = filled S.edges (atℤ flows') (S.offer p) in (
        put_stands S S' p offered xs a.after,
        (λ e l. ap (λ (T : Shared). atℤ (T.offer p) e) a.after ∙ ap (λ (ys : List ℤ). atℤ ys e) (own p xs (S.offer p))
            ∙ filled_front (pos 0) S.edges (atℤ flows') (S.offer p) xs refl e l),
        put_others S S' p offered xs a.after,
      );
  cannot_clears = λ S S' p source sink value flows flows' set set' n a.
      (put_stands S S' p idle (S.offer p) a.after, put_others S S' p idle (S.offer p) a.after);
  commit_lowers = lowers;
  commit_stands = λ S S' p c. ap (λ (T : Shared). T.standing p) c.1 ∙ own p committed (staled (S.standing p));
  commit_stales = λ S S' p q c h e. stands_beside S S' p q c h ∙ ap staled e;
  commit_leaves = λ S S' p q c h e. stands_beside S S' p q c h ∙ sym (staled_other (S.standing q) e);
  clear_removes = λ S. (refl, λ q. refl);
  committed_ask = λ S S' p source sink value flows flows' set set' answer l e a.
      told S p source sink value flows set flows' set' S' answer 30 0 (ask_committed S p source sink value flows set l e) a;
  committed_commit = λ S S' p answer l e c. verdict_is S p S' answer (refused 30 0) (has_committed S p (λ m. absurd (omega (arith, l, m))) e) c;
  committed_stays = stays;
  ask_29 = λ S S' p source sink value flows flows' set set' answer a. ask_29 S p source sink value flows set flows' set' S' answer a;
  commit_29 = λ S S' p answer c. commit_29 S p S' answer c;
  ask_keeps = λ S S' p source sink value flows flows' set set' r a. (a.after, a.solved.1, a.solved.2);
  commit_keeps = λ S S' p r c. c.1;
  unfit_13 = λ S S' p source sink value flows flows' set set' answer unfit may a.
      told S p source sink value flows set flows' set' S' answer 13 0 (ask_unfit S p source sink value flows set may.0 may.1 unfit) a;
}
