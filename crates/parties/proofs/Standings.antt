-- Where the parties stand: at one of four places, and since the last clear as many have committed as flows were let in.
use Prim.Native.Nat.{ℕ, zero, suc, ◌+◌, ◌≤◌, ◌<◌}
use mathlib.Core.Path.{◌≡◌, refl, sym, ◌∙◌, ap, ap₂, subst}
use mathlib.Core.Logic.{◌≢◌}
use mathlib.Core.Bool.{Bool, true, false, cond}
use mathlib.Core.List.{List, [], ◌∷◌}
use native.Mathlib.Omega.{arith}
use native.Mathlib.Decide.{ℕ_discrete}
use lib.Dec.{eqb}
use lib.IntN.{ℤ}
use lib.ListN.{length}
use Rattle.integers.proofs.Tests.{eqb_true, eqb_false}
use Rattle.parties.specs.Shared.{idle, offered, stale, committed, Shared, put, staled, let_in}

-- 1 where a party has committed
abbrev has : ℕ → ℕ
has a = cond (eqb a committed) 1 0

pub record Standings (S : Shared) (fs : List (List ℤ)) : Type 0 where
  pub stood : (q : ℕ) → S.standing q ≤ committed
  pub counted : length fs ≡ has (S.standing 0) + has (S.standing 1)

has_one : (a : ℕ) → a ≡ committed → has a ≡ 1
has_one a e = ap (λ t. cond t 1 0) (eqb_true a committed e)

has_none : (a : ℕ) → a ≢ committed → has a ≡ 0
has_none a h = ap (λ t. cond t 1 0) (eqb_false a committed h)

has_most : (a : ℕ) → has a ≤ 1
has_most a = go (eqb a committed)
  where
    go : (t : Bool) → cond t 1 0 ≤ 1
    go true = omega arith
    go false = omega arith

-- ── a place put, where the party had not committed ──
module _ (S : Shared) (p a : ℕ) (xs : List ℤ) (here : a ≤ committed) (not_yet : a ≢ committed) (may : S.standing p ≢ committed) where
  put_stood : ((q : ℕ) → S.standing q ≤ committed) → (q : ℕ) → (put S p a xs).standing q ≤ committed
  put_stood h q = go (eqb q p)
    where
      go : (t : Bool) → cond t a (S.standing q) ≤ committed
      go true = here
      go false = h q

  put_has : (q : ℕ) → has ((put S p a xs).standing q) ≡ has (S.standing q)
  put_has q = by (ℕ_discrete q p)
    where
      by : Dec (q ≡ p) → has ((put S p a xs).standing q) ≡ has (S.standing q)
      by (yes e) =
          ap (λ t. has (cond t a (S.standing q))) (eqb_true q p e) ∙ has_none a not_yet
          ∙ sym (has_none (S.standing q) (subst (λ o. S.standing o ≢ committed) (sym e) may))
      by (no e) = ap (λ t. has (cond t a (S.standing q))) (eqb_false q p e)

  pub put_stands : {fs : List (List ℤ)} → Standings S fs → Standings (put S p a xs) fs
  put_stands h = record { stood = put_stood h.stood; counted = h.counted ∙ ap₂ ◌+◌ (sym (put_has 0)) (sym (put_has 1)) }

-- ── a commit of a party with an offer ──
staled_stood : (a : ℕ) → a ≤ committed → staled a ≤ committed
staled_stood a l = go (eqb a offered)
  where
    go : (t : Bool) → cond t stale a ≤ committed
    go true = omega arith
    go false = l

staled_has : (a : ℕ) → has (staled a) ≡ has a
staled_has a = by (ℕ_discrete a offered)
  where
    by : Dec (a ≡ offered) → has (staled a) ≡ has a
    by (yes e) = subst (λ b. has (staled b) ≡ has b) (sym e) refl
    by (no e) = ap (λ t. has (cond t stale a)) (eqb_false a offered e)

module _ (S : Shared) (p : ℕ) (known : p < 2) (may : S.standing p ≢ committed) where
  let_in_stood : ((q : ℕ) → S.standing q ≤ committed) → (q : ℕ) → (let_in S p).standing q ≤ committed
  let_in_stood h q = go (eqb q p)
    where
      go : (t : Bool) → cond t committed (staled (S.standing q)) ≤ committed
      go true = omega arith
      go false = staled_stood (S.standing q) (h q)

  mine : (q : ℕ) → q ≡ p → has ((let_in S p).standing q) ≡ suc (has (S.standing q))
  mine q e =
      ap (λ t. has (cond t committed (staled (S.standing q)))) (eqb_true q p e)
      ∙ ap suc (sym (has_none (S.standing q) (subst (λ o. S.standing o ≢ committed) (sym e) may)))

  others : (q : ℕ) → q ≢ p → has ((let_in S p).standing q) ≡ has (S.standing q)
  others q e = ap (λ t. has (cond t committed (staled (S.standing q)))) (eqb_false q p e) ∙ staled_has (S.standing q)

  one_more : Dec (p ≡ 0) → has ((let_in S p).standing 0) + has ((let_in S p).standing 1) ≡ suc (has (S.standing 0) + has (S.standing 1))
  one_more (yes e) = omega (arith, mine 0 (sym e), others 1 (λ h. absurd (omega (arith, h, e))))
  one_more (no e) = omega (arith, others 0 (λ h. e (sym h)), mine 1 (omega (arith, known, e)))

  pub let_in_stands : {fs : List (List ℤ)} (xs : List ℤ) → Standings S fs → Standings (let_in S p) (xs ∷ fs)
  let_in_stands xs h = record { stood = let_in_stood h.stood; counted = ap suc h.counted ∙ sym (one_more (ℕ_discrete p 0)) }

pub idle_stands : (S : Shared) → ((q : ℕ) → S.standing q ≡ idle) → Standings S []
idle_stands S h = record {
  stood = λ q. subst (λ a. a ≤ committed) (sym (h q)) (omega arith);
  counted = sym (ap₂ (λ a b. has a + has b) (h 0) (h 1));
}

-- ── so there are two at most, and before the first nobody has committed ──
pub two_at_most : {S : Shared} {fs : List (List ℤ)} → Standings S fs → length fs ≤ 2
two_at_most {S} h = omega (arith, h.counted, has_most (S.standing 0), has_most (S.standing 1))

pub nobody_yet : {S : Shared} → Standings S [] → (p : ℕ) → p < 2 → S.standing p ≢ committed
nobody_yet {S} h zero l e = absurd (omega (arith, h.counted, has_one (S.standing 0) e))
nobody_yet {S} h (suc zero) l e = absurd (omega (arith, h.counted, has_one (S.standing 1) e))
nobody_yet {S} h (suc (suc p)) l e = absurd (omega (arith, l))
