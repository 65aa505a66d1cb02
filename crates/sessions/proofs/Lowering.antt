-- Limits left that an offer lowers: what is tested of them, and a dart's limit less its own flow, forth and back.
use mathlib.Core.Path.{◌≡◌, refl, ◌∙◌, ap}
use mathlib.Core.Logic.{◌≢◌}
use mathlib.Core.Bool.{cond}
use mathlib.Core.List.{List, [], ◌++◌}
use Prim.Native.Nat.{ℕ, ◌*◌, ◌/◌, ◌%◌, ◌≤◌, ◌<◌}
use native.Mathlib.Omega.{arith}
use lib.Dec.{eqb}
use lib.ListN.{length, drop}
use lib.IntN.{ℤ, pos, neg_ℤ, ◌+ℤ◌, ◌-ℤ◌}
use mir.Syntax.{w32}
use mir.Val.{SFits}
use Rattle.integers.proofs.Limits.{limited_minus}
use Rattle.integers.proofs.Omega.{atoms₂, parts, equal}
use Rattle.integers.proofs.Tests.{eqb_true, eqb_false, ltb_false}
use Rattle.std.specs.Prelude.{Result, Ok, Err, is_ok}
use Rattle.refusals.specs.Order.{NoneOf, Judged, Decides}
use Rattle.refusals.specs.declared.Refusal.{Refusal}
use Rattle.refusals.proofs.Order.{first_none}
use Rattle.signed.proofs.Limits.{limited_fits}
use Rattle.flows.specs.Settings.{on_darts}
use Rattle.flows.specs.Check.{within_checks}
use Rattle.flows.proofs.Limits.{settings_limited}
use Rattle.arrays.specs.At.{atℤ}
use Rattle.arrays.specs.Maps.{map_of}
use Rattle.arrays.specs.Filled.{tabulate}
use Rattle.arrays.proofs.FillLoops.{filled_at}
use Rattle.balance.proofs.Within.{none_within, within_none}
use Rattle.sessions.specs.Fit.{LimitsFit, Lowerable}
use Rattle.sessions.proofs.Fitting.{limits_small}

-- the offer keeps within the limits where none of its edges is refused 17
module _ (edges : ℕ) (left offer : ℕ → ℤ) where
  pub tested_lowerable : edges ≤ 512 → LimitsFit edges left → NoneOf (within_checks edges left offer) → Lowerable edges left offer
  tested_lowerable few fit none = record { few_edges = few; limits = fit; within = none_within (map_of 0 edges [] []) left offer none }

  pub lowerable_none : Lowerable edges left offer → NoneOf (within_checks edges left offer)
  lowerable_none h = within_none (map_of 0 edges [] []) left offer h.within

  pub judged_lowerable : (r : Result Unit Refusal) → edges ≤ 512 → LimitsFit edges left → Judged (within_checks edges left offer) r
      → Decides (Lowerable edges left offer) (is_ok r)
  judged_lowerable (Ok done) few fit none = tested_lowerable few fit none
  judged_lowerable (Err r) few fit first = λ h. first_none _ _ _ first (lowerable_none h)

  -- no difference wraps: the limits left and the flows within them are from -2,000,000 to 2,000,000
  pub lowerable_fits : Lowerable edges left offer → (d : ℕ) → d < 2 * edges → SFits w32 (left d -ℤ on_darts offer d)
  lowerable_fits h d l =
      let small = limits_small edges left h.limits in
      let x = settings_limited (map_of 0 edges [] []) 2000000 left offer (λ d l. (small d l).high) h.within d l in
      limited_fits 4000000 _ (omega arith) (limited_minus (small d l) x)

pub forth : (limit flow : ℤ) (d : ℕ) → d % 2 ≡ 0 → limit -ℤ cond (eqb (d % 2) 0) flow (neg_ℤ flow) ≡ limit -ℤ flow
forth limit flow d e = rw (eqb_true (d % 2) 0 e)

pub back : (limit flow : ℤ) (d : ℕ) → d % 2 ≢ 0 → limit -ℤ cond (eqb (d % 2) 0) flow (neg_ℤ flow) ≡ limit +ℤ flow
back limit flow d h = rw (eqb_false (d % 2) 0 h) (let a = atoms₂ limit flow in equal (search parts) (omega arith))

pub own_flow : (limit : ℤ) (x : ℕ → ℤ) (d : ℕ) → limit -ℤ cond (eqb (d % 2) 0) (x (d / 2)) (neg_ℤ (x (d / 2))) ≡ limit -ℤ on_darts x d
unfolding on_darts
own_flow limit x d = refl

-- what a loop has not come to yet is as it was
pub not_yet : (d : ℕ) (f : ℕ → ℤ) (old now : List ℤ) → now ≡ tabulate d f ++ drop d old → d ≤ length old → atℤ now d ≡ atℤ old d
not_yet d f old now e l = ap (λ x. atℤ x d) e ∙ filled_at d f old (pos 0) l d ∙ rw (ltb_false d d (omega arith))
