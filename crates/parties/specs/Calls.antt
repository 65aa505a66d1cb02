-- The calls of a shared session. Document 02, Job 12: "In both calls 29, no such party, comes first and 30, already committed, second; in Commit 28 is third
-- and 31, stale offer, fourth." Ask's 13 to 16 follow.
use Rattle.std.specs.Prelude.{ℕ, ◌≤◌, ◌≡◌, ◌⊎◌, ◌≢◌, List, [], ◌∷◌, ℤ, Result, Ok, Err}
use Rattle.refusals.specs.Order.{Check, ◌when◌, NoneOf, FirstOf}
use Rattle.refusals.specs.declared.Refusal.{Refusal}
use Rattle.maps.specs.Drawing.{Drawing}
use Rattle.arrays.specs.At.{atℤ}
use Rattle.arrays.specs.Filled.{filled}
use Rattle.questions.specs.Solve.{Solved}
use Rattle.questions.specs.inner.Named.{SetNamed}
use Rattle.questions.specs.declared.Solution.{Solution}
use Rattle.questions.specs.declared.Solution.TheVariants.{Can, Cannot}
use Rattle.sessions.specs.Fit.{Lowerable, OnFit}
use Rattle.sessions.specs.Ask as ask
use Rattle.parties.specs.Shared.{idle, offered, stale, committed, Shared, shared_drawing, put, let_in}

unfoldable pub ask_checks : Drawing → (standing : ℕ) → (party source sink : ℕ) → ℤ → List ℤ → List ℕ → List Check
ask_checks 𝓓 standing party source sink value flows set =
    (29 when 2 ≤ party) ∷ (30 when standing ≡ committed) ∷ ask.ask_checks 𝓓 source sink value flows set

-- an offer that the limits left cannot be lowered by, which no session begun by a start has, is under 31
unfoldable pub commit_checks : Shared → ℕ → List Check
commit_checks S p =
    (29 when 2 ≤ p)
    ∷ (30 when S.standing p ≡ committed)
    ∷ (28 when (S.standing p ≢ offered) × (S.standing p ≢ stale))
    ∷ (31 when (S.standing p ≡ stale) ⊎ (Lowerable S.edges (atℤ S.left) (atℤ (S.offer p)) → ⊥))
    ∷ []

abbrev pub after_ask : Shared → ℕ → List ℤ → Result Solution Refusal → Shared
after_ask S p flows' (Ok Can) = put S p offered (filled S.edges (atℤ flows') (S.offer p))
after_ask S p flows' (Ok (Cannot n)) = put S p idle (S.offer p)
after_ask S p flows' (Err r) = S

-- Ask: Solve's answer on the limits left, the set the one that the search names; then the session after it
pub record Asks (S : Shared) (p source sink : ℕ) (value : ℤ) (flows flows' : List ℤ) (set set' : List ℕ) (S' : Shared)
    (r : Result Solution Refusal) : Type 0 where
  pub solved : Solved (shared_drawing S) (ask_checks (shared_drawing S) (S.standing p) p source sink value flows set) source sink value flows flows' set set' r
  pub named : SetNamed (shared_drawing S) source sink value set' r
  pub on_fit : OnFit (shared_drawing S) r
  pub after : S' ≡ after_ask S p flows' r

abbrev pub Commits : Shared → ℕ → Shared → Result Unit Refusal → Type 0
Commits S p S' (Ok done) = NoneOf (commit_checks S p) × (S' ≡ let_in S p)
Commits S p S' (Err r) = FirstOf (commit_checks S p) r.number r.place × (S' ≡ S)
