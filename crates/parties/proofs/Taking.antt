-- Commit and Clear: the ways out, and the session after it.
use Prim.Native.Nat.{ℕ, zero, suc, ◌*◌, ◌/◌, ◌%◌, ◌≤◌, ◌<◌}
use mathlib.Core.Path.{◌≡◌, refl, sym, ◌∙◌, ap, ap₂, subst, fun_ext}
use mathlib.Core.Logic.{◌≢◌, inl, inr}
use mathlib.Core.Bool.{Bool, true, false, cond}
use mathlib.Core.List.{List, []}
use native.Mathlib.Omega.{arith}
use lib.Dec.{eqb}
use lib.IntN.{ℤ, neg_ℤ, ◌-ℤ◌}
use Rattle.integers.proofs.Tests.{eqb_false}
use Rattle.refusals.specs.Order.{NoneOf, FirstOf}
use Rattle.refusals.proofs.Order.{said_yes, said_no, neither}
use Rattle.flows.specs.Settings.{on_darts}
use Rattle.arrays.specs.At.{atℤ}
use Rattle.arrays.specs.Filled.{tabulate, filled}
use Rattle.arrays.proofs.Tabulate.{get_d_tabulate}
use Rattle.arrays.proofs.FillLoops.{filled_below}
use Rattle.sessions.specs.Fit.{Lowerable}
use Rattle.parties.specs.Shared.{offered, stale, committed, staled, Shared, lowered_by, let_in}
use Rattle.parties.specs.Calls.{commit_checks}
use Rattle.parties.specs.inner.Taken.{Taken}

-- the flows of the edges alone lower as the whole array does
pub edge-flow : (edges : ℕ) (xs : List ℤ) (d : ℕ) → d < 2 * edges → on_darts (atℤ xs) d ≡ on_darts (atℤ (tabulate edges (atℤ xs))) d
unfolding on_darts
edge-flow edges xs d l = ap (λ x. cond (eqb (d % 2) 0) x (neg_ℤ x)) (sym (get_d_tabulate edges (d / 2) (atℤ xs) _ (omega arith)))

pub lowered_by_flows : (m edges : ℕ) (left offer left' : List ℤ) → m ≡ edges
    → left' ≡ filled (2 * m) (λ d. atℤ left d -ℤ on_darts (atℤ offer) d) left → left' ≡ lowered_by edges left (tabulate edges (atℤ offer))
lowered_by_flows m edges left offer left' e h =
    filled_below (2 * m) (2 * edges) (λ d. atℤ left d -ℤ on_darts (atℤ offer) d) (λ d. atℤ left d -ℤ on_darts (atℤ (tabulate edges (atℤ offer))) d) left left' h
    (ap (λ k. 2 * k) e) (λ d l. ap (λ x. atℤ left d -ℤ x) (edge-flow edges offer d l))

-- ── the ways out ──
module _ (S : Shared) (p : ℕ) where
  pub no_party : 2 ≤ p → FirstOf (commit_checks S p) 29 0
  unfolding FirstOf commit_checks
  no_party h = inl (h, refl, refl)

  module _ (known : 2 ≤ p → ⊥) where
    pub has_committed : S.standing p ≡ committed → FirstOf (commit_checks S p) 30 0
    unfolding FirstOf commit_checks
    has_committed h = inr (known, inl (h, refl, refl))

    pub no_offer : S.standing p ≢ committed → S.standing p ≢ stale → S.standing p ≢ offered → FirstOf (commit_checks S p) 28 0
    unfolding FirstOf commit_checks
    no_offer c s o = inr (known, inr (c, inl ((o, s), refl, refl)))

    pub stale_offer : S.standing p ≢ committed → S.standing p ≡ stale → FirstOf (commit_checks S p) 31 0
    unfolding FirstOf commit_checks
    stale_offer c s = inr (known, inr (c, inr (λ h. h.1 s, inl (inl s, refl, refl))))

    module _ (o : S.standing p ≡ offered) where
      pub too_much : (Lowerable S.edges (atℤ S.left) (atℤ (S.offer p)) → ⊥) → FirstOf (commit_checks S p) 31 0
      unfolding FirstOf commit_checks
      too_much h = inr (known, inr (λ c. absurd (omega (arith, o, c)), inr (λ g. g.0 o, inl (inr h, refl, refl))))

      pub lets_in : Lowerable S.edges (atℤ S.left) (atℤ (S.offer p)) → NoneOf (commit_checks S p)
      unfolding NoneOf commit_checks
      lets_in h = (known, (λ c. absurd (omega (arith, o, c)), (λ g. g.0 o, (neither (λ s. absurd (omega (arith, o, s))) (λ g. g h), tt))))

-- ── the session after it ──
abbrev at_standing : Shared → List ℤ → (ℕ → ℕ) → Shared
at_standing S left standing = record {
  nodes = S.nodes;
  edges = S.edges;
  outer = S.outer;
  tails = S.tails;
  rotations = S.rotations;
  limits = S.limits;
  left = left;
  standing = standing;
  offer = S.offer;
}

pub after_commit : (S : Shared) (p : ℕ) (left' : List ℤ) (standing' : ℕ → ℕ) → left' ≡ lowered_by S.edges S.left (tabulate S.edges (atℤ (S.offer p)))
    → ((q : ℕ) → standing' q ≡ cond (eqb q p) committed (staled (S.standing q))) → at_standing S left' standing' ≡ let_in S p
after_commit S p left' standing' h g = ap₂ (at_standing S) h (fun_ext g)

-- the offer of a party that there is
pub own_offer : (p : ℕ) (first second : List ℤ) → (2 ≤ p → ⊥) → cond (eqb p 0) first second ≡ cond (eqb p 0) first (cond (eqb p 1) second [])
own_offer zero first second known = refl
own_offer (suc zero) first second known = refl
own_offer (suc (suc p)) first second known = absurd (known (omega arith))

pub taken_yes : {edges : ℕ} {left offer left' : List ℤ} {b : Bool} → Taken edges left offer left' b → b ≡ true
    → Lowerable edges (atℤ left) (atℤ offer) × (left' ≡ lowered_by edges left (tabulate edges (atℤ offer)))
taken_yes {edges} {left} {offer} h e =
    (said_yes h.tested e, h.after ∙ ap (λ t. cond t (lowered_by edges left (tabulate edges (atℤ offer))) left) e)

pub taken_no : {edges : ℕ} {left offer left' : List ℤ} {b : Bool} → Taken edges left offer left' b → b ≡ false
    → (Lowerable edges (atℤ left) (atℤ offer) → ⊥) × (left' ≡ left)
taken_no {edges} {left} {offer} h e = (said_no h.tested e, h.after ∙ ap (λ t. cond t (lowered_by edges left (tabulate edges (atℤ offer))) left) e)

module _ (S : Shared) (p : ℕ) (xs : List ℤ) (e : xs ≡ S.offer p) where
  pub offer_lowerable : Lowerable S.edges (atℤ S.left) (atℤ xs) → Lowerable S.edges (atℤ S.left) (atℤ (S.offer p))
  offer_lowerable h = subst (λ ys. Lowerable S.edges (atℤ S.left) (atℤ ys)) e h

  pub lowerable_offer : Lowerable S.edges (atℤ S.left) (atℤ (S.offer p)) → Lowerable S.edges (atℤ S.left) (atℤ xs)
  lowerable_offer h = subst (λ ys. Lowerable S.edges (atℤ S.left) (atℤ ys)) (sym e) h

  pub lowered_offer : (left' : List ℤ) → left' ≡ lowered_by S.edges S.left (tabulate S.edges (atℤ xs))
      → left' ≡ lowered_by S.edges S.left (tabulate S.edges (atℤ (S.offer p)))
  lowered_offer left' h = h ∙ ap (λ ys. lowered_by S.edges S.left (tabulate S.edges (atℤ ys))) e

pub left_alone : (S : Shared) (left' : List ℤ) → left' ≡ S.left → at_standing S left' S.standing ≡ S
left_alone S left' h = ap (λ l. at_standing S l S.standing) h

pub staled_other : (a : ℕ) → a ≢ 1 → a ≡ staled a
staled_other a h = ap (λ t. cond t stale a) (sym (eqb_false a 1 h))
