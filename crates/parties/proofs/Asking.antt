-- Ask of a party: two checks in front of those of a session's question, and the session after the answer by its case.
use Prim.Native.Nat.{ℕ, ◌≤◌}
use mathlib.Core.Path.{◌≡◌, refl, sym, ◌∙◌, ap, ap₂, subst, fun_ext}
use mathlib.Core.Logic.{◌≢◌, inl, inr}
use mathlib.Core.Bool.{cond}
use mathlib.Core.List.{List}
use native.Mathlib.Decide.{ℕ_discrete}
use lib.Dec.{eqb}
use lib.ListN.{set}
use lib.IntN.{ℤ}
use Rattle.std.specs.Prelude.{Result, Ok, Err}
use Rattle.integers.proofs.Tests.{eqb_true, eqb_false}
use Rattle.refusals.specs.Order.{NoneOf, FirstOf}
use Rattle.refusals.specs.declared.Refusal.{Refusal}
use Rattle.refusals.specs.Refused.{refused}
use Rattle.arrays.specs.At.{atℤ}
use Rattle.arrays.specs.Filled.{filled}
use Rattle.questions.specs.Solve.{Solved}
use Rattle.questions.specs.inner.Named.{SetNamed}
use Rattle.questions.specs.declared.Solution.{Solution}
use Rattle.questions.specs.declared.Solution.TheVariants.{Can, Cannot}
use Rattle.sessions.specs.Fit.{OnFit}
use Rattle.sessions.specs.Ask as ask
use Rattle.parties.specs.Shared.{idle, offered, committed, Shared, shared_drawing, put}
use Rattle.parties.specs.Calls.{ask_checks, after_ask, Asks}

-- a value put at one place of a function
abbrev pub put_at : {A : Type 0} → (ℕ → A) → ℕ → A → ℕ → A
put_at f p a q = cond (eqb q p) a (f q)

-- put where it was already
pub put_same : {A : Type 0} (f : ℕ → A) (p : ℕ) → put_at f p (f p) ≡ f
put_same {A} f p = fun_ext (λ q. by q (ℕ_discrete q p))
  where
    by : (q : ℕ) → Dec (q ≡ p) → put_at f p (f p) q ≡ f q
    by q (yes e) = ap (λ b. cond b (f p) (f q)) (eqb_true q p e) ∙ ap f (sym e)
    by q (no e) = ap (λ b. cond b (f p) (f q)) (eqb_false q p e)

-- ── the session after the answer ──
abbrev pub turned : Shared → (ℕ → ℕ) → (ℕ → List ℤ) → Shared
turned S standing offer = record {
  nodes = S.nodes;
  edges = S.edges;
  outer = S.outer;
  tails = S.tails;
  rotations = S.rotations;
  limits = S.limits;
  left = S.left;
  standing = standing;
  offer = offer;
}

turned_same : (S : Shared) {s s' : ℕ → ℕ} {o o' : ℕ → List ℤ} → s ≡ s' → o ≡ o' → turned S s o ≡ turned S s' o'
turned_same S e f = λ i. turned S (e i) (f i)

-- the party and the count of edges at the width of an index
module _ (S : Shared) {p party : ℕ} (wide : p ≡ party) (standing : ℕ → ℕ) where
  pub after_can : {m : ℕ} → m ≡ S.edges → (flows' : List ℤ) (offer : ℕ → List ℤ) → standing ≡ put_at S.standing p offered
      → offer ≡ put_at S.offer p (filled m (atℤ flows') (S.offer p)) → turned S standing offer ≡ after_ask S party flows' (Ok Can)
  after_can e flows' offer h g =
      turned_same S (h ∙ ap (λ k. put_at S.standing k offered) wide)
      (g ∙ ap₂ (λ k n. put_at S.offer k (filled n (atℤ flows') (S.offer k))) wide e)

  pub after_cannot : standing ≡ put_at S.standing p idle → turned S standing S.offer ≡ put S party idle (S.offer party)
  after_cannot h = turned_same S (h ∙ ap (λ k. put_at S.standing k idle) wide) (sym (put_same S.offer party))

-- ── the ways out ──
module _ (S : Shared) (p source sink : ℕ) (value : ℤ) (flows : List ℤ) (set : List ℕ) where
  pub no_party : 2 ≤ p → Asks S p source sink value flows flows set set S (refused 29 0)
  unfolding FirstOf ask_checks
  no_party h = record { solved = (inl (h, refl, refl), refl, refl); named = tt; on_fit = tt; after = refl }

  pub has_committed : (2 ≤ p → ⊥) → S.standing p ≡ committed → Asks S p source sink value flows flows set set S (refused 30 0)
  unfolding FirstOf ask_checks
  has_committed party h = record { solved = (inr (party, inl (h, refl, refl)), refl, refl); named = tt; on_fit = tt; after = refl }

  -- two checks that do not hold, in front
  module _ (party : 2 ≤ p → ⊥) (may : S.standing p ≢ committed) (flows' : List ℤ) (set' : List ℕ) where
    pub in-front : (r : Result Solution Refusal)
        → Solved (shared_drawing S) (ask.ask_checks (shared_drawing S) source sink value flows set) source sink value flows flows' set set' r
        → Solved (shared_drawing S) (ask_checks (shared_drawing S) (S.standing p) p source sink value flows set) source sink value flows flows' set set' r
    unfolding NoneOf FirstOf ask_checks
    in-front (Ok Can) h = ((party, (may, h.0)), h.1, h.2)
    in-front (Ok (Cannot n)) h = ((party, (may, h.0)), h.1, h.2)
    in-front (Err r) h = (inr (party, inr (may, h.0)), h.1, h.2)

-- what is promised of the answer on the limits left
abbrev pub Left : Shared → (source sink : ℕ) → ℤ → (flows flows' : List ℤ) (set set' : List ℕ) → Result Solution Refusal → Type 0
Left S source sink value flows flows' set set' r =
    Solved (shared_drawing S) (ask.ask_checks (shared_drawing S) source sink value flows set) source sink value flows flows' set set' r
    × SetNamed (shared_drawing S) source sink value set' r
    × OnFit (shared_drawing S) r

module _ (S : Shared) (p source sink : ℕ) {v value : ℤ} (q : v ≡ value) (flows flows' : List ℤ) (set set' : List ℕ)
    {answer r : Result Solution Refusal} (e : answer ≡ r) where
  pub left_as : Left S source sink v flows flows' set set' answer → Left S source sink value flows flows' set set' r
  left_as h =
      subst (λ w. Left S source sink w flows flows' set set' r) q (subst (λ a. Left S source sink v flows flows' set set' a) e h)

  pub told_as : (2 ≤ p → ⊥) → S.standing p ≢ committed → (S' : Shared) → S' ≡ after_ask S p flows' r → Left S source sink v flows flows' set set' answer
      → Asks S p source sink value flows flows' set set' S' r
  told_as party may S' after h =
      let g = left_as h in
      record { solved = in-front S p source sink value flows set party may flows' set' r g.0; named = g.1; on_fit = g.2; after = after }
