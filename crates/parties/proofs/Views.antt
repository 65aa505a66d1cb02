-- What a party can see of a shared session: the drawing, the sheet's limits, the limits left, where it stands and its offer. A call of its own is answered by
-- that alone, in one way, whatever value the session is.
use Prim.Native.Nat.{ℕ, ◌≤◌, ◌<◌}
use mathlib.Core.Path.{◌≡◌, refl, sym, ◌∙◌, ap, ap₂, subst}
use mathlib.Core.Logic.{◌≢◌, inl, inr}
use mathlib.Core.Bool.{cond}
use mathlib.Core.List.{List}
use native.Mathlib.Omega.{arith}
use lib.Dec.{eqb}
use lib.IntN.{ℤ}
use Rattle.std.specs.Prelude.{Result, Ok, Err}
use Rattle.integers.proofs.Tests.{eqb_true, eqb_false}
use Rattle.refusals.specs.Order.{NoneOf, Judged}
use Rattle.refusals.proofs.Order.{first_one, judged_one}
use Rattle.refusals.specs.declared.Refusal.{Refusal}
use Rattle.refusals.specs.Refused.{refused}
use Rattle.maps.specs.Drawing.{Drawing}
use Rattle.arrays.specs.At.{atℤ}
use Rattle.arrays.specs.Filled.{tabulate, filled}
use Rattle.questions.specs.Solve.{Solved}
use Rattle.questions.specs.inner.Named.{SetNamed}
use Rattle.questions.specs.declared.Solution.{Solution}
use Rattle.questions.specs.declared.Solution.TheVariants.{Can, Cannot}
use Rattle.questions.proofs.OneAnswer.{solved_one}
use Rattle.sessions.specs.Fit.{Fit, OnFit}
use Rattle.sessions.specs.Ask as ask
use Rattle.sessions.proofs.Fitting.{fit_plane}
use Rattle.parties.specs.Shared.{idle, offered, committed, staled, Shared, shared_drawing, put, lowered_by, flows_of, let_in}
use Rattle.parties.specs.Calls.{ask_checks, commit_checks, after_ask, Asks, Commits}

pub record View : Type 0 where
  pub nodes : ℕ
  pub edges : ℕ
  pub outer : ℕ
  pub tails : List ℕ
  pub rotations : List ℕ
  pub limits : List ℤ
  pub left : List ℤ
  pub mine : ℕ
  pub offer : List ℤ

abbrev pub view : ℕ → Shared → View
view q S = record {
  nodes = S.nodes;
  edges = S.edges;
  outer = S.outer;
  tails = S.tails;
  rotations = S.rotations;
  limits = S.limits;
  left = S.left;
  mine = S.standing q;
  offer = S.offer q;
}

-- a session that looks so to everyone
abbrev pub looks : View → Shared
looks v = record {
  nodes = v.nodes;
  edges = v.edges;
  outer = v.outer;
  tails = v.tails;
  rotations = v.rotations;
  limits = v.limits;
  left = v.left;
  standing = λ p. v.mine;
  offer = λ p. v.offer;
}

-- the view with other limits left, at another standing, with another offer
abbrev pub turned : View → List ℤ → ℕ → List ℤ → View
turned v left a xs = record {
  nodes = v.nodes;
  edges = v.edges;
  outer = v.outer;
  tails = v.tails;
  rotations = v.rotations;
  limits = v.limits;
  left = left;
  mine = a;
  offer = xs;
}

-- ── an answer, of the view alone ──
record AskedOf (v : View) (q source sink : ℕ) (value : ℤ) (flows flows' : List ℤ) (set set' : List ℕ) (r : Result Solution Refusal) : Type 0 where
  solved : Solved (shared_drawing (looks v)) (ask_checks (shared_drawing (looks v)) v.mine q source sink value flows set) source sink value
      flows flows' set set' r
  named : SetNamed (shared_drawing (looks v)) source sink value set' r
  on_fit : OnFit (shared_drawing (looks v)) r

asked_of : {S S' : Shared} {q source sink : ℕ} {value : ℤ} {flows flows' : List ℤ} {set set' : List ℕ} {r : Result Solution Refusal}
    → Asks S q source sink value flows flows' set set' S' r → AskedOf (view q S) q source sink value flows flows' set set' r
asked_of a = record { solved = a.solved; named = a.named; on_fit = a.on_fit }

module _ (v : View) (q source sink : ℕ) (value : ℤ) (flows : List ℤ) (set : List ℕ) where
  abbrev 𝓓 : Drawing
  𝓓 = shared_drawing (looks v)

  ends : NoneOf (ask_checks (shared_drawing (looks v)) v.mine q source sink value flows set) → (source < v.nodes) × (sink < v.nodes) × (source ≢ sink)
  unfolding NoneOf ask_checks ask.ask_checks
  ends h =
      let a : v.nodes ≤ source → ⊥ = λ l. h.1.1.0 (inl l) in
      let b : v.nodes ≤ sink → ⊥ = λ l. h.1.1.0 (inr (inl l)) in
      (omega (arith, a), omega (arith, b), h.1.1.1.0)

  on_one : {flows' flows'' : List ℤ} {set' set'' : List ℕ} (r r' : Result Solution Refusal) → Fit (shared_drawing (looks v))
      → AskedOf v q source sink value flows flows' set set' r → AskedOf v q source sink value flows flows'' set set'' r'
      → (r ≡ r') × (flows' ≡ flows'') × (set' ≡ set'')
  on_one {flows'} {flows''} {set'} {set''} r r' fit a b =
      solved_one (shared_drawing (looks v)) (fit_plane (shared_drawing (looks v)) fit) fit.bounds.outer_in
      (ask_checks (shared_drawing (looks v)) v.mine q source sink value flows set) source sink value ends flows set
      flows' flows'' set' set'' r r' a.solved a.named b.solved b.named

  asked_one : {flows' flows'' : List ℤ} {set' set'' : List ℕ} (r r' : Result Solution Refusal)
      → AskedOf v q source sink value flows flows' set set' r → AskedOf v q source sink value flows flows'' set set'' r'
      → (r ≡ r') × (flows' ≡ flows'') × (set' ≡ set'')
  asked_one (Ok Can) r' a b = on_one (Ok Can) r' a.on_fit a b
  asked_one (Ok (Cannot n)) r' a b = on_one (Ok (Cannot n)) r' a.on_fit a b
  asked_one (Err r) (Ok Can) a b = on_one (Err r) (Ok Can) b.on_fit a b
  asked_one (Err r) (Ok (Cannot n)) a b = on_one (Err r) (Ok (Cannot n)) b.on_fit a b
  asked_one (Err r) (Err o) a b =
      let e = first_one _ r.number r.place o.number o.place a.solved.0 b.solved.0 in
      (ap₂ refused e.0 e.1, a.solved.1 ∙ sym b.solved.1, a.solved.2 ∙ sym b.solved.2)

-- ── the view after it ──
pub own : {A : Type 0} (q : ℕ) (a b : A) → cond (eqb q q) a b ≡ a
own q a b = ap (λ t. cond t a b) (eqb_true q q refl)

pub other : {A : Type 0} (q p : ℕ) (a b : A) → p ≢ q → cond (eqb q p) a b ≡ b
other q p a b h = ap (λ t. cond t a b) (eqb_false q p (λ e. h (sym e)))

after_view : View → List ℤ → Result Solution Refusal → View
after_view v flows' (Ok Can) = turned v v.left offered (filled v.edges (atℤ flows') v.offer)
after_view v flows' (Ok (Cannot n)) = turned v v.left idle v.offer
after_view v flows' (Err r) = v

put_view : (q : ℕ) (S : Shared) (a : ℕ) (xs : List ℤ) → view q (put S q a xs) ≡ turned (view q S) S.left a xs
put_view q S a xs = ap₂ (turned (view q S) S.left) (own q a (S.standing q)) (own q xs (S.offer q))

after-view : (q : ℕ) (S : Shared) (flows' : List ℤ) (r : Result Solution Refusal) → view q (after_ask S q flows' r) ≡ after_view (view q S) flows' r
unfolding after_view
after-view q S flows' (Ok Can) = put_view q S offered _
after-view q S flows' (Ok (Cannot n)) = put_view q S idle _
after-view q S flows' (Err r) = refl

pub ask_one : (q : ℕ) (S T : Shared) → view q S ≡ view q T → (source sink : ℕ) (value : ℤ) (flows : List ℤ) (set : List ℕ)
    → {flows' flows'' : List ℤ} {set' set'' : List ℕ} {S' T' : Shared} (r r' : Result Solution Refusal)
    → Asks S q source sink value flows flows' set set' S' r → Asks T q source sink value flows flows'' set set'' T' r'
    → (r ≡ r') × (flows' ≡ flows'') × (set' ≡ set'') × (view q S' ≡ view q T')
ask_one q S T e source sink value flows set {flows'} {flows''} {set'} {set''} {S'} {T'} r r' a b =
    let o = asked_one (view q T) q source sink value flows set r r'
    (subst (λ v. AskedOf v q source sink value flows flows' set set' r) e (asked_of a)) (asked_of b) in (
      o.0,
      o.1,
      o.2,
      ap (view q) a.after ∙ after-view q S flows' r ∙ ap (λ v. after_view v flows' r) e ∙ ap₂ (after_view (view q T)) o.1 o.0
          ∙ sym (after-view q T flows'' r') ∙ sym (ap (view q) b.after),
    )

-- ── a commit ──
commit_judged : (q : ℕ) (S S' : Shared) (v : Result Unit Refusal) → Commits S q S' v → Judged (commit_checks (looks (view q S)) q) v
unfolding commit_checks
commit_judged q S S' (Ok done) c = c.0
commit_judged q S S' (Err r) c = c.0

committed_view : View → View
committed_view v = turned v (lowered_by v.edges v.left (tabulate v.edges (atℤ v.offer))) committed v.offer

let_in_view : (q : ℕ) (S : Shared) → view q (let_in S q) ≡ committed_view (view q S)
unfolding committed_view
let_in_view q S = ap (λ a. turned (view q S) (lowered_by S.edges S.left (flows_of S q)) a (S.offer q)) (own q committed (staled (S.standing q)))

commit_views : (q : ℕ) (S T : Shared) → view q S ≡ view q T → (S' T' : Shared) (v : Result Unit Refusal)
    → Commits S q S' v → Commits T q T' v → view q S' ≡ view q T'
commit_views q S T e S' T' (Ok done) a b =
    ap (view q) a.1 ∙ let_in_view q S ∙ ap committed_view e ∙ sym (let_in_view q T) ∙ sym (ap (view q) b.1)
commit_views q S T e S' T' (Err r) a b = ap (view q) a.1 ∙ e ∙ sym (ap (view q) b.1)

pub commit_one : (q : ℕ) (S T : Shared) → view q S ≡ view q T → (S' T' : Shared) (v w : Result Unit Refusal) → Commits S q S' v → Commits T q T' w
    → (v ≡ w) × (view q S' ≡ view q T')
commit_one q S T e S' T' v w a b =
    let same : v ≡ w = judged_one (commit_checks (looks (view q T)) q) v w
    (subst (λ u. Judged (commit_checks (looks u) q) v) e (commit_judged q S S' v a)) (commit_judged q T T' w b) in
    (same, commit_views q S T e S' T' w (subst (Commits S q S') same a) b)
