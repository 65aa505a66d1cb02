-- What document 02, Jobs 11 and 12, says of sessions, as records: a field for each statement, its words above it. All that a field knows of a call is its
-- definition, `Starts`, `Asks`, `Commits` or `cleared`. `Sessions` is of those begun by a start and passed on only through the calls (Reached.antt),
-- `AnyValue` of every value, `TwoParties` of every two runs from starts of one sheet. The proofs are in proofs/Statements.antt and proofs/Isolation.antt.
use Rattle.std.specs.Prelude.{ℕ, ◌*◌, ◌≤◌, ◌<◌, ◌≡◌, ◌≢◌, ◌↔◌, List, [], ◌∷◌, ℤ, pos, negsuc, ◌+ℤ◌, ◌-ℤ◌, length, ◌≤ℤ◌, Result, Ok, Err}
use Rattle.refusals.specs.Order.{◌when◌, NoneOf, FirstOf}
use Rattle.refusals.specs.declared.Refusal.{Refusal}
use Rattle.refusals.specs.Refused.{refused}
use Rattle.maps.specs.Dart.{rev}
use Rattle.flows.specs.Settings.{on_darts, Within, Carries}
use Rattle.flows.specs.Highest.{Highest}
use Rattle.flows.specs.ProvingSet.{Proves, member, size}
use Rattle.arrays.specs.At.{atℤ}
use Rattle.records.specs.Sheet.{nodes_of, edges_of, outer_of, capacity_of, sheet_map}
use Rattle.questions.specs.Question.{SetWritten}
use Rattle.questions.specs.Solve.{question_checks}
use Rattle.questions.specs.declared.Solution.{Solution}
use Rattle.questions.specs.declared.Solution.TheVariants.{Can, Cannot}
use Rattle.analyser.specs.Solve.{Solves}
use Rattle.sessions.specs.Fit.{Fit}
use Rattle.parties.specs.Shared.{idle, offered, stale, committed, Shared, shared_drawing, cleared}
use Rattle.parties.specs.Start.{Starts}
use Rattle.parties.specs.Calls.{Asks, Commits}
use Rattle.parties.specs.Seen.{Event, clears, Step, Run, all_seen, gifts}
use Rattle.parties.specs.Reached.{total, Reached, Barred}

-- the settings x keep the limits left, balance at every node but source and sink, and carry the delivery, on the sheet's drawing
abbrev pub DeliversLeft : List ℕ → Shared → (source sink : ℕ) → ℤ → (ℕ → ℤ) → Type 0
DeliversLeft s S source sink value x = Carries (sheet_map s) (atℤ S.left) source sink value x

-- party p may ask: there is such a party, and it has not committed
abbrev pub MayAsk : Shared → ℕ → Type 0
MayAsk S p = (p < 2) × (S.standing p ≢ committed)

pub record Sessions : Type 0 where
  -- ── "For a session begun by a start and passed on only through these calls, at every moment, limit left plus the flow of all commits since the start equals
  -- the sheet's limit on each dart."; "Clearing counts among the calls of Job 11, whose account now sums both parties' flows since the last clear." ──
  pub account : (s : List ℕ) (S : Shared) (fs : List (List ℤ)) → Reached s S fs
      → (d : ℕ) → d < 2 * edges_of s → atℤ S.left d +ℤ total fs d ≡ capacity_of s d
  -- its drawing and its outer dart are the sheet's (Jobs 6 and 8), so are the limits that a clear restores, ..
  pub drawing_kept : (s : List ℕ) (S : Shared) (fs : List (List ℤ)) → Reached s S fs → ((shared_drawing S).map ≡ sheet_map s) × (S.outer ≡ outer_of s)
  pub limits_kept : (s : List ℕ) (S : Shared) (fs : List (List ℤ)) → Reached s S fs → atℤ S.limits ≡ capacity_of s
  -- .. and an edge's two limits left add up to the sheet's two
  pub pairs_kept : (s : List ℕ) (S : Shared) (fs : List (List ℤ)) → Reached s S fs
      → (d : ℕ) → d < 2 * edges_of s → atℤ S.left d +ℤ atℤ S.left (rev d) ≡ capacity_of s d +ℤ capacity_of s (rev d)
  -- "Limits left may reach 2,000,000": they are never more, nor below −1,000,000; and once something is let in since the last clear, not below zero
  pub limits_reach : (s : List ℕ) (S : Shared) (fs : List (List ℤ)) → Reached s S fs
      → (d : ℕ) → d < 2 * edges_of s → (negsuc 999999 ≤ℤ atℤ S.left d) × (atℤ S.left d ≤ℤ pos 2000000)
  pub limits_met : (s : List ℕ) (S : Shared) (xs : List ℤ) (fs : List (List ℤ)) → Reached s S (xs ∷ fs)
      → (d : ℕ) → d < 2 * edges_of s → pos 0 ≤ℤ atℤ S.left d
  -- "clearing restores the sheet's limits and removes both offers" (of any value: `clear_removes`)
  pub clear_restores : (s : List ℕ) (S : Shared) (fs : List (List ℤ)) → Reached s S fs → Reached s (cleared S) [] × (atℤ (cleared S).left ≡ capacity_of s)
  -- "Each .. may commit once until the session is cleared": since the last clear two flows at most were let in; before the first nobody has committed
  pub once_each : (s : List ℕ) (S : Shared) (fs : List (List ℤ)) → Reached s S fs → length fs ≤ 2
  pub none_yet : (s : List ℕ) (S : Shared) (p : ℕ) → Reached s S [] → p < 2 → S.standing p ≢ committed
  -- ── "Ask gives Solve's answer on the limits still left": before the first commit, of the session or since a clear, it is Solve's on the sheet, .. ──
  pub first_solves : (s : List ℕ) (S S' : Shared) (p source sink : ℕ) (value : ℤ) (flows flows' : List ℤ) (set set' : List ℕ) (answer : Result Solution Refusal)
      → Reached s S [] → p < 2 → Asks S p source sink value flows flows' set set' S' answer → Solves s source sink value flows flows' set set' answer
  -- .. it is refused by 29 and 30, then by 13 to 16 as Solve is after the sheet checks, and by nothing else, ..
  pub ask_refused : (s : List ℕ) (S S' : Shared) (fs : List (List ℤ)) (p source sink : ℕ) (value : ℤ) (flows flows' : List ℤ) (set set' : List ℕ) (r : Refusal)
      → Reached s S fs → Asks S p source sink value flows flows' set set' S' (Err r)
      → FirstOf ((29 when 2 ≤ p) ∷ (30 when S.standing p ≡ committed) ∷ question_checks (nodes_of s) (edges_of s) source sink value flows set) r.number r.place
  -- .. "can" comes with settings that carry the delivery on the limits left, the highest, ..
  pub can_highest : (s : List ℕ) (S S' : Shared) (fs : List (List ℤ)) (p source sink : ℕ) (value : ℤ) (flows flows' : List ℤ) (set set' : List ℕ)
      → Reached s S fs → Asks S p source sink value flows flows' set set' S' (Ok Can)
      → Highest (sheet_map s) (outer_of s) (atℤ S.left) source sink value (atℤ flows')
  pub can_carries : (s : List ℕ) (S S' : Shared) (fs : List (List ℤ)) (p source sink : ℕ) (value : ℤ) (flows flows' : List ℤ) (set set' : List ℕ)
      → Reached s S fs → Asks S p source sink value flows flows' set set' S' (Ok Can) → DeliversLeft s S source sink value (atℤ flows')
  -- .. "cannot" with a set that proves it, ..
  pub cannot_proves : (s : List ℕ) (S S' : Shared) (fs : List (List ℤ)) (p source sink : ℕ) (value : ℤ) (flows flows' : List ℤ) (set set' : List ℕ) (n : ℕ)
      → Reached s S fs → Asks S p source sink value flows flows' set set' S' (Ok (Cannot n))
      → (words : List ℕ) × SetWritten (nodes_of s) words set set' × Proves (sheet_map s) (atℤ S.left) source sink value (member words) × (n ≡ size words)
  -- .. and "For such a session "cannot" is exact for the limits left."
  pub cannot_exactly : (s : List ℕ) (S S' : Shared) (fs : List (List ℤ)) (p source sink : ℕ) (value : ℤ) (flows flows' : List ℤ) (set set' : List ℕ)
      (answer : Result Solution Refusal) → Reached s S fs → MayAsk S p → NoneOf (question_checks (nodes_of s) (edges_of s) source sink value flows set)
      → Asks S p source sink value flows flows' set set' S' answer
      → ((n : ℕ) × (answer ≡ Ok (Cannot n))) ↔ ((x : ℕ → ℤ) → DeliversLeft s S source sink value x → ⊥)
  pub can_exactly : (s : List ℕ) (S S' : Shared) (fs : List (List ℤ)) (p source sink : ℕ) (value : ℤ) (flows flows' : List ℤ) (set set' : List ℕ)
      (answer : Result Solution Refusal) → Reached s S fs → MayAsk S p → NoneOf (question_checks (nodes_of s) (edges_of s) source sink value flows set)
      → Asks S p source sink value flows flows' set set' S' answer
      → (answer ≡ Ok Can) ↔ ((x : ℕ → ℤ) × DeliversLeft s S source sink value x)
  -- ── at every moment an offer that is not stale keeps within the limits left, so that it can be let in: Commit passes exactly where there is one, .. ──
  pub offer_within : (s : List ℕ) (S : Shared) (fs : List (List ℤ)) (p : ℕ) → Reached s S fs → S.standing p ≡ offered
      → Within (sheet_map s) (atℤ S.left) (atℤ (S.offer p))
  pub commit_exactly : (s : List ℕ) (S S' : Shared) (fs : List (List ℤ)) (p : ℕ) (answer : Result Unit Refusal) → Reached s S fs → p < 2
      → Commits S p S' answer → (answer ≡ Ok tt) ↔ (S.standing p ≡ offered)
  -- .. and for a party that there is, is refused 30 exactly where it has committed, 28 exactly where there is no offer, 31 exactly where it is stale
  pub commit_30 : (s : List ℕ) (S S' : Shared) (fs : List (List ℤ)) (p : ℕ) (answer : Result Unit Refusal) → Reached s S fs → p < 2
      → Commits S p S' answer → (answer ≡ refused 30 0) ↔ (S.standing p ≡ committed)
  pub commit_28 : (s : List ℕ) (S S' : Shared) (fs : List (List ℤ)) (p : ℕ) (answer : Result Unit Refusal) → Reached s S fs → p < 2
      → Commits S p S' answer → (answer ≡ refused 28 0) ↔ (S.standing p ≡ idle)
  pub commit_31 : (s : List ℕ) (S S' : Shared) (fs : List (List ℤ)) (p : ℕ) (answer : Result Unit Refusal) → Reached s S fs → p < 2
      → Commits S p S' answer → (answer ≡ refused 31 0) ↔ (S.standing p ≡ stale)
  -- ── "A start refused by the sheet checks gives a session of no nodes and no channels, where every question is refused 13 and there is no offer.": after any
  -- calls, clears too ──
  pub barred_empty : (s : List ℕ) (S : Shared) (fs : List (List ℤ)) → Barred s S fs
      → (S.nodes ≡ 0) × (S.edges ≡ 0) × ((p : ℕ) → S.standing p ≡ idle) × (fs ≡ [])
  pub barred_13 : (s : List ℕ) (S S' : Shared) (fs : List (List ℤ)) (p source sink : ℕ) (value : ℤ) (flows flows' : List ℤ) (set set' : List ℕ)
      (answer : Result Solution Refusal) → Barred s S fs → p < 2 → Asks S p source sink value flows flows' set set' S' answer → answer ≡ refused 13 0
  pub barred_28 : (s : List ℕ) (S S' : Shared) (fs : List (List ℤ)) (p : ℕ) (answer : Result Unit Refusal) → Barred s S fs → p < 2 → Commits S p S' answer
      → answer ≡ refused 28 0

-- nothing of a party but p moves, nor the limits left
pub record OthersKept (S S' : Shared) (p : ℕ) : Type 0 where
  pub left_kept : S'.left ≡ S.left
  pub standing_kept : (q : ℕ) → q ≢ p → S'.standing q ≡ S.standing q
  pub offer_kept : (q : ℕ) → q ≢ p → S'.offer q ≡ S.offer q

pub record AnyValue : Type 0 where
  -- ── "Each has an offer of its own"; "keeps a "can" as the offer": the settings given, in the session's own memory, which no caller's slice changes;
  -- ""cannot" clears it", a stale one too ──
  pub can_offers : (S S' : Shared) (p source sink : ℕ) (value : ℤ) (flows flows' : List ℤ) (set set' : List ℕ)
      → Asks S p source sink value flows flows' set set' S' (Ok Can)
      → (S'.standing p ≡ offered) × ((e : ℕ) → e < S.edges → atℤ (S'.offer p) e ≡ atℤ flows' e) × OthersKept S S' p
  pub cannot_clears : (S S' : Shared) (p source sink : ℕ) (value : ℤ) (flows flows' : List ℤ) (set set' : List ℕ) (n : ℕ)
      → Asks S p source sink value flows flows' set set' S' (Ok (Cannot n)) → (S'.standing p ≡ idle) × OthersKept S S' p
  -- ── "lowers each dart's limit left once by that dart's own flow, so that its reverse's rises by the same" ──
  pub commit_lowers : (S S' : Shared) (p : ℕ) → Commits S p S' (Ok tt) → (d : ℕ) → d < 2 * S.edges
      → (atℤ S'.left d ≡ atℤ S.left d -ℤ on_darts (atℤ (S.offer p)) d)
      × (atℤ S'.left (rev d) ≡ atℤ S.left (rev d) +ℤ on_darts (atℤ (S.offer p)) d)
  -- it has committed then; "A commit by one makes the other's offer stale", and one that had none has none
  pub commit_stands : (S S' : Shared) (p : ℕ) → Commits S p S' (Ok tt) → S'.standing p ≡ committed
  pub commit_stales : (S S' : Shared) (p q : ℕ) → Commits S p S' (Ok tt) → q ≢ p → S.standing q ≡ offered → S'.standing q ≡ stale
  pub commit_leaves : (S S' : Shared) (p q : ℕ) → Commits S p S' (Ok tt) → q ≢ p → S.standing q ≢ offered → S'.standing q ≡ S.standing q
  -- ── "clearing restores the sheet's limits and removes both offers": never refused, and both may commit again ──
  pub clear_removes : (S : Shared) → ((cleared S).left ≡ S.limits) × ((q : ℕ) → (cleared S).standing q ≡ idle)
  -- ── "may commit once until the session is cleared": whoever has committed is refused 30, and it has until a clear, whatever is called ──
  pub committed_ask : (S S' : Shared) (p source sink : ℕ) (value : ℤ) (flows flows' : List ℤ) (set set' : List ℕ) (answer : Result Solution Refusal) → p < 2
      → S.standing p ≡ committed → Asks S p source sink value flows flows' set set' S' answer → answer ≡ refused 30 0
  pub committed_commit : (S S' : Shared) (p : ℕ) (answer : Result Unit Refusal) → p < 2 → S.standing p ≡ committed → Commits S p S' answer
      → answer ≡ refused 30 0
  pub committed_stays : (S S' : Shared) (e : Event) (p : ℕ) → Step S e S' → e ≢ clears → S.standing p ≡ committed → S'.standing p ≡ committed
  -- ── "29, no such party, comes first" ──
  pub ask_29 : (S S' : Shared) (p source sink : ℕ) (value : ℤ) (flows flows' : List ℤ) (set set' : List ℕ) (answer : Result Solution Refusal)
      → Asks S p source sink value flows flows' set set' S' answer → (answer ≡ refused 29 0) ↔ (2 ≤ p)
  pub commit_29 : (S S' : Shared) (p : ℕ) (answer : Result Unit Refusal) → Commits S p S' answer → (answer ≡ refused 29 0) ↔ (2 ≤ p)
  -- ── "Handed any other value as a session, a call still comes to an end" (each is a function) "and a refusal still changes nothing"; "A refused Ask or Commit
  -- hands the session back as it came." ──
  pub ask_keeps : (S S' : Shared) (p source sink : ℕ) (value : ℤ) (flows flows' : List ℤ) (set set' : List ℕ) (r : Refusal)
      → Asks S p source sink value flows flows' set set' S' (Err r) → (S' ≡ S) × (flows' ≡ flows) × (set' ≡ set)
  pub commit_keeps : (S S' : Shared) (p : ℕ) (r : Refusal) → Commits S p S' (Err r) → S' ≡ S
  -- "no single outcome is asked there": a value that is not fit is answered 13, after 29 and 30
  pub unfit_13 : (S S' : Shared) (p source sink : ℕ) (value : ℤ) (flows flows' : List ℤ) (set set' : List ℕ) (answer : Result Solution Refusal)
      → (Fit (shared_drawing S) → ⊥) → MayAsk S p → Asks S p source sink value flows flows' set set' S' answer → answer ≡ refused 13 0

-- ── Job 12, isolation: "If two runs from one start differ only in one party's asks and refused commits, and have the same accepted commits with the same flows
-- and the same clears, in the same order, between the same calls of the other party, the other party gets the same answers." q is the other party, and what it
-- sees leaves out what the runs may differ in ──
pub record TwoParties : Type 0 where
  -- "one start": a sheet decides the verdict of a start and the session that it leaves, in every place, whatever the memory held
  pub one_start : (s : List ℕ) (S T : Shared) (v w : Result Unit Refusal) → Starts s S v → Starts s T w → (S ≡ T) × (v ≡ w)
  -- two runs, each from a start of the same sheet, accepted or refused. The same answers: verdicts, settings, sets with their words and sizes, refusals
  pub isolated : (s : List ℕ) (q : ℕ) (S T U W : Shared) (v w : Result Unit Refusal) (es fs : List Event)
      → Starts s S v → Starts s T w → Run S es U → Run T fs W → all_seen q es ≡ all_seen q fs → gifts q es ≡ gifts q fs
  -- from any one value too, also one that no start leaves
  pub isolated_from : (q : ℕ) (S U W : Shared) (es fs : List Event) → Run S es U → Run S fs W → all_seen q es ≡ all_seen q fs → gifts q es ≡ gifts q fs
