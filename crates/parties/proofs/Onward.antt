-- What holds at the start and is kept by every call holds at every moment.
use Prim.Native.Nat.{ℕ, ◌≤◌, ◌<◌}
use mathlib.Core.Path.{◌≡◌, refl, sym, subst}
use mathlib.Core.Logic.{◌≢◌, inl}
use mathlib.Core.List.{List, [], ◌∷◌, ◌++◌}
use native.Mathlib.Omega.{arith}
use native.Mathlib.Decide.{ℕ_discrete}
use lib.IntN.{ℤ}
use Rattle.std.specs.Prelude.{Result, Ok, Err}
use Rattle.refusals.specs.Order.{NoneOf}
use Rattle.refusals.specs.declared.Refusal.{Refusal}
use Rattle.questions.specs.declared.Solution.{Solution}
use Rattle.questions.specs.declared.Solution.TheVariants.{Can, Cannot}
use Rattle.sessions.specs.Ask as ask
use Rattle.parties.specs.Shared.{idle, offered, committed, Shared, shared_drawing, flows_of, cleared}
use Rattle.parties.specs.Start.{started}
use Rattle.parties.specs.Calls.{ask_checks, commit_checks, Asks}
use Rattle.parties.specs.Seen.{Event, clears, Step, ask_step, commit_step, clear_step, Run, end, next}
use Rattle.parties.specs.Reached.{booked, since, Reached, Barred}
use Rattle.parties.proofs.Account.{Kept, start_kept, clear_kept, ask_kept, commit_kept}
use Rattle.parties.proofs.Standings.{Standings, put_stands, let_in_stands, idle_stands}

-- ── what was not refused ──
-- a commit: there is such a party, and it had an offer that was not stale
pub committed_offer : (S : Shared) (p : ℕ) → NoneOf (commit_checks S p) → (p < 2) × (S.standing p ≡ offered)
unfolding NoneOf commit_checks
committed_offer S p h = (let known : 2 ≤ p → ⊥ = h.0 in omega (arith, known), by (ℕ_discrete (S.standing p) offered))
  where
    by : Dec (S.standing p ≡ offered) → S.standing p ≡ offered
    by (yes e) = e
    by (no e) = absurd (h.1.1.0 (e, λ s. h.1.1.1.0 (inl s)))

-- a question: its party had not committed, and there is a node
module _ (S : Shared) (p source sink : ℕ) (value : ℤ) (flows : List ℤ) (set : List ℕ)
    (asked : NoneOf (ask_checks (shared_drawing S) (S.standing p) p source sink value flows set)) where
  pub asked_may : S.standing p ≢ committed
  unfolding NoneOf ask_checks
  asked_may = asked.1.0

  asked_node : S.nodes ≢ 0
  unfolding NoneOf ask_checks ask.ask_checks
  asked_node e = asked.1.1.0 (inl (omega (arith, e)))

-- ── from an accepted start ──
ask_stands : {S : Shared} {fs : List (List ℤ)} (p source sink : ℕ) (value : ℤ) (flows flows' : List ℤ) (set set' : List ℕ) (S' : Shared)
    (answer : Result Solution Refusal)
    → Asks S p source sink value flows flows' set set' S' answer → Standings S fs → Standings S' fs
ask_stands {S} {fs} p source sink value flows flows' set set' S' (Ok Can) a k =
    subst (λ T. Standings T fs) (sym a.after)
    (put_stands S p offered _ (omega arith) (λ e. absurd (omega (arith, e))) (asked_may S p source sink value flows set a.solved.0) k)
ask_stands {S} {fs} p source sink value flows flows' set set' S' (Ok (Cannot n)) a k =
    subst (λ T. Standings T fs) (sym a.after)
    (put_stands S p idle _ (omega arith) (λ e. absurd (omega (arith, e))) (asked_may S p source sink value flows set a.solved.0) k)
ask_stands {S} {fs} p source sink value flows flows' set set' S' (Err r) a k = subst (λ T. Standings T fs) (sym a.after) k

pub record Invariant (s : List ℕ) (S : Shared) (fs : List (List ℤ)) : Type 0 where
  pub kept : Kept s S fs
  pub stands : Standings S fs

step_kept : {s : List ℕ} {S T : Shared} {fs : List (List ℤ)} {e : Event} → Step S e T → Invariant s S fs → Invariant s T (booked fs e)
unfolding booked
step_kept {T = T} (ask_step p k flows' set' r a) h = record {
  kept = ask_kept p k.source k.sink k.value k.flows flows' k.set set' T r a h.kept;
  stands = ask_stands p k.source k.sink k.value k.flows flows' k.set set' T r a h.stands;
}
step_kept {s} {S} {fs = fs} (commit_step p (Ok done) c) h =
    let o = committed_offer S p c.0 in
    subst (λ T. Invariant s T (flows_of S p ∷ fs)) (sym c.1) (record {
      kept = commit_kept p o.1 h.kept;
      stands = let_in_stands S p o.0 (λ e. absurd (omega (arith, o.1, e))) (flows_of S p) h.stands;
    })
step_kept {s} {fs = fs} (commit_step p (Err r) c) h = subst (λ T. Invariant s T fs) (sym c.1) h
step_kept {S = S} clear_step h = record { kept = clear_kept h.kept; stands = idle_stands (cleared S) (λ q. refl) }

run_kept : {s : List ℕ} {S U : Shared} {fs : List (List ℤ)} {es : List Event} → Run S es U → Invariant s S fs → Invariant s U (since fs es)
unfolding since
run_kept end h = h
run_kept (next st r) h = run_kept r (step_kept st h)

pub reached_invariant : {s : List ℕ} {S : Shared} {fs : List (List ℤ)} → Reached s S fs → Invariant s S fs
reached_invariant {s} {S} r =
    subst (Invariant s S) (sym r.flows_are)
    (run_kept r.run
    (subst (λ T. Invariant s T []) (sym r.starts.1) (record { kept = start_kept s r.starts.0; stands = idle_stands (started s) (λ q. refl) })))

-- a clear after a run: nothing is let in since
and_clear : {S U : Shared} {es : List Event} → Run S es U → Run S (es ++ (clears ∷ [])) (cleared U)
and_clear end = next clear_step end
and_clear (next st r) = next st (and_clear r)

since_clear : (fs : List (List ℤ)) (es : List Event) → since fs (es ++ (clears ∷ [])) ≡ []
unfolding since booked
since_clear fs [] = refl
since_clear fs (e ∷ es) = since_clear (booked fs e) es

pub reached_clear : {s : List ℕ} {S : Shared} {fs : List (List ℤ)} → Reached s S fs → Reached s (cleared S) []
reached_clear r = record {
  first = r.first;
  starts = r.starts;
  events = r.events ++ (clears ∷ []);
  run = and_clear r.run;
  flows_are = sym (since_clear [] r.events);
}

-- ── from a start that was refused: a session of no nodes and no edges stays one ──
pub record Bare (S : Shared) (fs : List (List ℤ)) : Type 0 where
  pub no_nodes : S.nodes ≡ 0
  pub no_edges : S.edges ≡ 0
  pub no_offer : (q : ℕ) → S.standing q ≡ idle
  pub no-flows : fs ≡ []

ask_bare : {S : Shared} {fs : List (List ℤ)} (p source sink : ℕ) (value : ℤ) (flows flows' : List ℤ) (set set' : List ℕ) (S' : Shared)
    (answer : Result Solution Refusal)
    → Asks S p source sink value flows flows' set set' S' answer → Bare S fs → Bare S' fs
ask_bare {S} p source sink value flows flows' set set' S' (Ok Can) a b = absurd (asked_node S p source sink value flows set a.solved.0 b.no_nodes)
ask_bare {S} p source sink value flows flows' set set' S' (Ok (Cannot n)) a b = absurd (asked_node S p source sink value flows set a.solved.0 b.no_nodes)
ask_bare {S} {fs} p source sink value flows flows' set set' S' (Err r) a b = subst (λ T. Bare T fs) (sym a.after) b

step_bare : {S T : Shared} {fs : List (List ℤ)} {e : Event} → Step S e T → Bare S fs → Bare T (booked fs e)
unfolding booked
step_bare {T = T} (ask_step p k flows' set' r a) b = ask_bare p k.source k.sink k.value k.flows flows' k.set set' T r a b
step_bare {S} (commit_step p (Ok done) c) b = absurd (omega (arith, b.no_offer p, (committed_offer S p c.0).1))
step_bare {fs = fs} (commit_step p (Err r) c) b = subst (λ T. Bare T fs) (sym c.1) b
step_bare clear_step b = record { no_nodes = b.no_nodes; no_edges = b.no_edges; no_offer = λ q. refl; no-flows = refl }

run_bare : {S U : Shared} {fs : List (List ℤ)} {es : List Event} → Run S es U → Bare S fs → Bare U (since fs es)
unfolding since
run_bare end b = b
run_bare (next st r) b = run_bare r (step_bare st b)

pub barred_bare : {s : List ℕ} {S : Shared} {fs : List (List ℤ)} → Barred s S fs → Bare S fs
barred_bare {s} {S} r =
    subst (Bare S) (sym r.flows_are)
    (run_bare r.run
    (subst (λ T. Bare T []) (sym r.starts.1) (record { no_nodes = refl; no_edges = refl; no_offer = λ q. refl; no-flows = refl })))
