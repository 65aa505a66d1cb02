-- Two runs from starts of one sheet that show a party the same give it the same. Each run is turned into the party's view of it, which what it does not see
-- leaves as it is and what it sees changes in one way.
use Prim.Native.Nat.{ℕ}
use mathlib.Core.Path.{◌≡◌, refl, sym, ◌∙◌, ap, ap₂, subst}
use mathlib.Core.Logic.{◌≢◌, ◌⊎◌, inl, inr}
use mathlib.Core.Bool.{cond}
use mathlib.Core.List.{List, [], ◌∷◌, ◌++◌}
use native.Mathlib.Decide.{ℕ_discrete}
use lib.IntN.{ℤ}
use Rattle.std.specs.Prelude.{Result, Ok, Err}
use Rattle.integers.proofs.Tests.{eqb_true, eqb_false}
use Rattle.refusals.specs.declared.Refusal.{Refusal}
use Rattle.questions.specs.declared.Solution.{Solution}
use Rattle.questions.specs.declared.Solution.TheVariants.{Can, Cannot}
use Rattle.parties.specs.Shared.{idle, committed, staled, Shared, put, lowered_by, flows_of, let_in}
use Rattle.parties.specs.Start.{Starts}
use Rattle.parties.specs.Calls.{after_ask, Asks, Commits}
use Rattle.parties.specs.Statements.{TwoParties}
use Rattle.parties.specs.Seen.{
  Question,
  Gift,
  answered,
  judged,
  Event,
  asks,
  commits,
  Seen,
  own_ask,
  own_commit,
  theirs,
  wiped,
  accepted,
  seen,
  all_seen,
  gift,
  gifts,
  Step,
  ask_step,
  commit_step,
  clear_step,
  Run,
  end,
  next,
}
use Rattle.parties.proofs.Starting.{one_start}
use Rattle.parties.proofs.Views.{View, view, turned, other, ask_one, commit_one}

-- ── a run as q sees it ──
data Next (q : ℕ) : View → Seen → List Gift → View → Type 0 where
  by_ask : {v w : View} (k : Question) (S T : Shared) (flows' : List ℤ) (set' : List ℕ) (r : Result Solution Refusal)
      → Asks S q k.source k.sink k.value k.flows flows' k.set set' T r → view q S ≡ v → view q T ≡ w
      → Next q v (own_ask k) (answered flows' set' r ∷ []) w
  by_commit : {v w : View} (S T : Shared) (a : Result Unit Refusal) → Commits S q T a → view q S ≡ v → view q T ≡ w → Next q v own_commit (judged a ∷ []) w
  by_theirs : {v : View} (xs : List ℤ) → Next q v (theirs xs) [] (turned v (lowered_by v.edges v.left xs) (staled v.mine) v.offer)
  by_wiped : {v : View} → Next q v wiped [] (turned v v.limits idle v.offer)

next_one : (q : ℕ) {v w w' : View} {z : Seen} {gs hs : List Gift} → Next q v z gs w → Next q v z hs w' → (gs ≡ hs) × (w ≡ w')
next_one q (by_ask k S T flows' set' r a e f) (by_ask k' S' T' flows'' set'' r' a' e' f') =
    let o = ask_one q S S' (e ∙ sym e') k.source k.sink k.value k.flows k.set r r' a a' in
    (ap (λ x. answered x set' r ∷ []) o.1 ∙ ap₂ (λ x y. answered flows'' x y ∷ []) o.2 o.0, sym f ∙ o.3 ∙ f')
next_one q (by_commit S T a c e f) (by_commit S' T' a' c' e' f') =
    let o = commit_one q S S' (e ∙ sym e') T T' a a' c c' in (ap (λ x. judged x ∷ []) o.0, sym f ∙ o.1 ∙ f')
next_one q (by_theirs xs) (by_theirs ys) = (refl, refl)
next_one q by_wiped by_wiped = (refl, refl)

data Views (q : ℕ) : View → List Seen → List Gift → Type 0 where
  stop : {v : View} → Views q v [] []
  see : {v w : View} {z : Seen} {zs : List Seen} {gs hs : List Gift} → Next q v z gs w → Views q w zs hs → Views q v (z ∷ zs) (gs ++ hs)

views_one : (q : ℕ) {v : View} {zs : List Seen} {gs hs : List Gift} → Views q v zs gs → Views q v zs hs → gs ≡ hs
views_one q stop stop = refl
views_one q (see {w = w} {zs = zs} n r) (see {w = w'} {hs = hs} m s) =
    let o = next_one q n m in ap₂ ◌++◌ o.0 (views_one q r (subst (λ w. Views q w zs hs) (sym o.1) s))

-- ── what an event does to the view of q: it is not seen and leaves it, or it is one thing that is seen ──
Does : ℕ → Shared → Event → Shared → Type 0
Does q S e T =
    ((seen q e ≡ []) × (gift q e ≡ []) × (view q T ≡ view q S))
    ⊎ ((z : Seen) × (gs : List Gift) × (seen q e ≡ z ∷ []) × (gift q e ≡ gs) × Next q (view q S) z gs (view q T))

beside : (q p : ℕ) (S : Shared) (a : ℕ) (xs : List ℤ) → p ≢ q → view q (put S p a xs) ≡ view q S
beside q p S a xs h = ap₂ (turned (view q S) S.left) (other q p a (S.standing q) h) (other q p xs (S.offer q) h)

asks_beside : (q p : ℕ) (S : Shared) (flows' : List ℤ) (r : Result Solution Refusal) → p ≢ q → view q (after_ask S p flows' r) ≡ view q S
asks_beside q p S flows' (Ok Can) h = beside q p S _ _ h
asks_beside q p S flows' (Ok (Cannot n)) h = beside q p S _ _ h
asks_beside q p S flows' (Err r) h = refl

ask_does : (q p : ℕ) (k : Question) (flows' : List ℤ) (set' : List ℕ) (r : Result Solution Refusal) (S T : Shared)
    → Asks S p k.source k.sink k.value k.flows flows' k.set set' T r → Dec (p ≡ q) → Does q S (asks p k flows' set' r) T
unfolding Does seen gift
ask_does q p k flows' set' r S T a (yes e) =
    inr (
      own_ask k,
      answered flows' set' r ∷ [],
      ap (λ t. cond t (own_ask k ∷ []) []) (eqb_true p q e),
      ap (λ t. cond t (answered flows' set' r ∷ []) []) (eqb_true p q e),
      by_ask k S T flows' set' r (subst (λ o. Asks S o k.source k.sink k.value k.flows flows' k.set set' T r) e a) refl refl,
    )
ask_does q p k flows' set' r S T a (no e) =
    inl (
      ap (λ t. cond t (own_ask k ∷ []) []) (eqb_false p q e),
      ap (λ t. cond t (answered flows' set' r ∷ []) []) (eqb_false p q e),
      ap (view q) a.after ∙ asks_beside q p S flows' r e,
    )

commit_own : (q p : ℕ) (v : Result Unit Refusal) (S T : Shared) → Commits S p T v → p ≡ q → Does q S (commits p (flows_of S p) v) T
unfolding Does seen gift
commit_own q p v S T c e =
    inr (
      own_commit,
      judged v ∷ [],
      ap (λ t. cond t (own_commit ∷ []) (accepted (flows_of S p) v)) (eqb_true p q e),
      ap (λ t. cond t (judged v ∷ []) []) (eqb_true p q e),
      by_commit S T v (subst (λ o. Commits S o T v) e c) refl refl,
    )

let_in_beside : (q p : ℕ) (S : Shared) → p ≢ q
    → view q (let_in S p) ≡ turned (view q S) (lowered_by S.edges S.left (flows_of S p)) (staled (S.standing q)) (S.offer q)
let_in_beside q p S h =
    ap (λ a. turned (view q S) (lowered_by S.edges S.left (flows_of S p)) a (S.offer q)) (other q p committed (staled (S.standing q)) h)

commit_does : (q p : ℕ) (v : Result Unit Refusal) (S T : Shared) → Commits S p T v → Dec (p ≡ q) → Does q S (commits p (flows_of S p) v) T
unfolding Does seen gift accepted
commit_does q p v S T c (yes e) = commit_own q p v S T c e
commit_does q p (Ok done) S T c (no e) =
    inr (
      theirs (flows_of S p),
      [],
      ap (λ t. cond t (own_commit ∷ []) (theirs (flows_of S p) ∷ [])) (eqb_false p q e),
      ap (λ t. cond t (judged (Ok done) ∷ []) []) (eqb_false p q e),
      subst (Next q (view q S) (theirs (flows_of S p)) []) (sym (ap (view q) c.1 ∙ let_in_beside q p S e)) (by_theirs (flows_of S p)),
    )
commit_does q p (Err r) S T c (no e) =
    inl (
      ap (λ t. cond t (own_commit ∷ []) []) (eqb_false p q e),
      ap (λ t. cond t (judged (Err r) ∷ []) []) (eqb_false p q e),
      ap (view q) c.1,
    )

does : (q : ℕ) {S T : Shared} {e : Event} → Step S e T → Does q S e T
unfolding Does seen gift
does q {S} {T} (ask_step p k flows' set' r a) = ask_does q p k flows' set' r S T a (ℕ_discrete p q)
does q {S} {T} (commit_step p v c) = commit_does q p v S T c (ℕ_discrete p q)
does q clear_step = inr (wiped, [], refl, refl, by_wiped)

run_views : (q : ℕ) {S U : Shared} {es : List Event} → Run S es U → Views q (view q S) (all_seen q es) (gifts q es)
unfolding all_seen gifts Does
run_views q end = stop
run_views q {S} (next {T = T} {e = e} {es = es} s r) = go (does q s) (run_views q r)
  where
    go : Does q S e T → Views q (view q T) (all_seen q es) (gifts q es) → Views q (view q S) (seen q e ++ all_seen q es) (gift q e ++ gifts q es)
    go (inl (hid, none, same)) v =
        subst (λ zs. Views q (view q S) (zs ++ all_seen q es) (gift q e ++ gifts q es)) (sym hid)
        (subst (λ gs. Views q (view q S) (all_seen q es) (gs ++ gifts q es)) (sym none) (subst (λ w. Views q w (all_seen q es) (gifts q es)) same v))
    go (inr (z, gs, shown, got, n)) v =
        subst (λ zs. Views q (view q S) (zs ++ all_seen q es) (gift q e ++ gifts q es)) (sym shown)
        (subst (λ gs. Views q (view q S) (z ∷ all_seen q es) (gs ++ gifts q es)) (sym got) (see n v))

-- Two runs from one session, whatever value it is, that show the party q the same give it the same: verdicts, settings, sets with their words and sizes,
-- refusals.
isolated_from : (q : ℕ) (S U W : Shared) (es fs : List Event) → Run S es U → Run S fs W → all_seen q es ≡ all_seen q fs → gifts q es ≡ gifts q fs
isolated_from q S U W es fs r s e = views_one q (run_views q r) (subst (λ zs. Views q (view q S) zs (gifts q fs)) (sym e) (run_views q s))

-- And so do two from starts of one sheet, which leave one session.
isolated : (s : List ℕ) (q : ℕ) (S T U W : Shared) (v w : Result Unit Refusal) (es fs : List Event) → Starts s S v → Starts s T w → Run S es U → Run T fs W
    → all_seen q es ≡ all_seen q fs → gifts q es ≡ gifts q fs
isolated s q S T U W v w es fs a b r t = isolated_from q T U W es fs (subst (λ X. Run X es U) (one_start s S T v w a b).0 r) t

pub two_parties : TwoParties
two_parties = record { one_start = one_start; isolated = isolated; isolated_from = isolated_from }
