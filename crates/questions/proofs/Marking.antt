-- Mark: its ways out as verdicts of its whole list of checks; and the sums at the nodes as net flows.
use mathlib.Core.Path.{◌≡◌, refl, ◌∙◌}
use mathlib.Core.Logic.{inl}
use mathlib.Core.List.{List, [], ◌∷◌, ◌++◌}
use Prim.Native.Nat.{ℕ, ◌*◌, ◌≤◌, ◌<◌}
use native.Mathlib.Omega.{arith}
use lib.ListN.{length}
use lib.IntN.{ℤ}
use Rattle.integers.specs.inner.Limited.{Limited}
use Rattle.integers.proofs.Laws.{lt_le_clash}
use Rattle.refusals.specs.Order.{Check, ◌when◌, NoneOf, FirstOf, Judged}
use Rattle.std.specs.Prelude.{Result}
use Rattle.refusals.specs.declared.Refusal.{Refusal}
use Rattle.refusals.proofs.Order.{none_append, first_left, first_right, neither}
use Rattle.maps.specs.Map.{Map, darts}
use Rattle.maps.specs.Drawing.{Drawing}
use Rattle.maps.specs.Flow.{net}
use Rattle.flows.specs.Settings.{on_darts}
use Rattle.flows.specs.Check.{within_checks, balance_checks, EndOf}
use Rattle.arrays.specs.At.{atℤ}
use Rattle.arrays.specs.inner.Sizes.{most_on_sheet}
use Rattle.balance.specs.inner.SmallFlows.{SmallFlows}
use Rattle.balance.specs.inner.NetUpTo.{net_up_to}
use Rattle.balance.specs.inner.Check.{off_checks}
use Rattle.balance.proofs.Parts.{part_length}
use Rattle.balance.proofs.Nets.{up_to_all}
use Rattle.balance.proofs.Within.{small_flows}
use Rattle.balance.proofs.Balance.{judged_ends}
use Rattle.questions.specs.Question.{end_checks}
use Rattle.questions.specs.Mark.{paper_checks}

-- ── the ways out ──
module _ (𝓓 : Drawing) (source sink : ℕ) (flows : List ℤ) where
  abbrev ends : List Check
  ends = end_checks 𝓓.map.nodes source sink

  abbrev within : List Check
  within = within_checks 𝓓.map.edges 𝓓.capacity (atℤ flows)

  abbrev balance : List Check
  balance = balance_checks 𝓓.map (EndOf source sink) (atℤ flows)

  abbrev long : List Check
  long = (16 when length flows < 𝓓.map.edges) ∷ []

  pub mark_ends : (k p : ℕ) → FirstOf ends k p → FirstOf (paper_checks 𝓓 source sink flows) k p
  unfolding paper_checks
  mark_ends k p h = first_left ends (long ++ (within ++ balance)) k p h

  module _ (two : NoneOf ends) where
    rest : (k p : ℕ) → FirstOf (long ++ (within ++ balance)) k p → FirstOf (paper_checks 𝓓 source sink flows) k p
    unfolding paper_checks
    rest k p h = first_right ends (long ++ (within ++ balance)) k p two h

    pub mark_short : length flows < 𝓓.map.edges → FirstOf (paper_checks 𝓓 source sink flows) 16 0
    unfolding FirstOf
    mark_short l = rest 16 0 (inl (l, refl, refl))

    module _ (room : 𝓓.map.edges ≤ length flows) where
      is_long : NoneOf long
      unfolding NoneOf
      is_long = ((λ l. omega arith), tt)

      pub mark_within : (k p : ℕ) → FirstOf within k p → FirstOf (paper_checks 𝓓 source sink flows) k p
      mark_within k p h = rest k p (first_right long (within ++ balance) k p is_long (first_left within balance k p h))

      pub mark_balance : NoneOf within → (k p : ℕ) → FirstOf balance k p → FirstOf (paper_checks 𝓓 source sink flows) k p
      mark_balance w k p h = rest k p (first_right long (within ++ balance) k p is_long (first_right within balance k p w h))

      pub mark_none : NoneOf within → NoneOf balance → NoneOf (paper_checks 𝓓 source sink flows)
      unfolding paper_checks
      mark_none w b = none_append ends (long ++ (within ++ balance)) two (none_append long (within ++ balance) is_long (none_append within balance w b))

-- ── the sums at the nodes ──
module _ (𝓜 : Map) (x : ℕ → ℤ) where
  pub flows_small : (c : ℕ → ℤ) → ((d : ℕ) → d < darts 𝓜 → Limited most_on_sheet (c d)) → NoneOf (within_checks 𝓜.edges c x) → SmallFlows 𝓜.edges x
  flows_small c small w = small_flows 𝓜.edges c x w (λ d l. neither (λ m. lt_le_clash m (small d l).low) (λ m. lt_le_clash m (small d l).high))

  module _ (few : 𝓜.nodes ≤ 1024) (nets : List ℤ) (are : (v : ℕ) → v < 1024 → atℤ nets v ≡ net_up_to 𝓜.tail x (2 * 𝓜.edges) v) where
    pub net_of : (v : ℕ) → v < 𝓜.nodes → atℤ nets v ≡ net 𝓜 (on_darts x) v
    net_of v l = are v (omega (arith, few, l)) ∙ up_to_all 𝓜 x v

    pub ends_balanced : (source sink : ℕ) (v : Result Unit Refusal) → Judged (off_checks 𝓜.nodes source sink (atℤ nets)) v
        → Judged (balance_checks 𝓜 (EndOf source sink) x) v
    ends_balanced source sink v j = judged_ends 𝓜 x (atℤ nets) net_of source sink v j

-- what Mark stands on
pub ruleset mark_steps = (mark_ends, mark_short, part_length)
