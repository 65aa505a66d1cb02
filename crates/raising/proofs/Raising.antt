-- The ways out as verdicts of the whole list of checks; what an accepted question is known of; what was found, of the question.
use mathlib.Core.Path.{◌≡◌, refl, sym, subst}
use mathlib.Core.Logic.{inl}
use mathlib.Core.List.{List, ◌++◌}
use Prim.Native.Nat.{ℕ, ◌*◌, ◌-◌, ◌≤◌, ◌<◌}
use native.Mathlib.Omega.{arith}
use lib.ListN.{length, take, drop}
use lib.IntN.{ℤ}
use mir.Syntax.{w32}
use mir.Val.{to_z, of_z}
use Rattle.std.specs.Prelude.{Ok, Option, Some, None}
use Rattle.integers.specs.inner.Limited.{Limited}
use Rattle.integers.proofs.Laws.{le_trans}
use Rattle.refusals.specs.Order.{Check, NoneOf, FirstOf}
use Rattle.refusals.proofs.Order.{none_append, append_none, first_left, first_right}
use Rattle.signed.proofs.Limits.{same_bits}
use Rattle.maps.specs.Drawing.{Drawing}
use Rattle.balance.proofs.Parts.{part_kept, part_filled}
use Rattle.questions.specs.Question.{end_checks, ValueOutside, value_checks, room_checks}
use Rattle.raising.specs.Raise.{edge_checks, limit_checks, RaiseFound}
use Rattle.raising.specs.inner.Sought.{Sought}
use Rattle.questions.proofs.Asked.{room_flows}
use Rattle.questions.proofs.Solving.{value_inside}

-- ── 25 ──
pub edge_in : (edges edge : ℕ) → NoneOf (edge_checks edges edge) → edge < edges
unfolding NoneOf edge_checks
edge_in edges edge h = let l : edges ≤ edge → ⊥ = h.0 in omega arith

pub is_edge : (edges edge : ℕ) → edge < edges → NoneOf (edge_checks edges edge)
unfolding NoneOf edge_checks
is_edge edges edge below = ((λ h. omega arith), tt)

-- ── the ways out ──
module _ (nodes edges source sink : ℕ) (value : ℤ) (edge : ℕ) (flows : List ℤ) (set : List ℕ) where
  abbrev ends : List Check
  ends = end_checks nodes source sink

  abbrev asked : List Check
  asked = value_checks value

  abbrev channel : List Check
  channel = edge_checks edges edge

  abbrev room : List Check
  room = room_checks nodes edges (length flows) (length set)

  pub raise_ends : (k p : ℕ) → FirstOf ends k p → FirstOf (limit_checks nodes edges source sink value edge flows set) k p
  unfolding limit_checks
  raise_ends k p h = first_left ends (asked ++ (channel ++ room)) k p h

  module _ (two : NoneOf ends) where
    rest : (k p : ℕ) → FirstOf (asked ++ (channel ++ room)) k p → FirstOf (limit_checks nodes edges source sink value edge flows set) k p
    unfolding limit_checks
    rest k p h = first_right ends (asked ++ (channel ++ room)) k p two h

    pub raise_value : ValueOutside value → FirstOf (limit_checks nodes edges source sink value edge flows set) 15 0
    unfolding FirstOf value_checks
    raise_value out = rest 15 0 (first_left asked (channel ++ room) 15 0 (inl (out, refl, refl)))

    module _ (inside : NoneOf asked) where
      pub raise_edge : edges ≤ edge → FirstOf (limit_checks nodes edges source sink value edge flows set) 25 0
      unfolding FirstOf edge_checks
      raise_edge past = rest 25 0 (first_right asked (channel ++ room) 25 0 inside (first_left channel room 25 0 (inl (past, refl, refl))))

      module _ (is : NoneOf channel) where
        pub raise_room : (k p : ℕ) → FirstOf room k p → FirstOf (limit_checks nodes edges source sink value edge flows set) k p
        raise_room k p h = rest k p (first_right asked (channel ++ room) k p inside (first_right channel room k p is h))

        pub raise_none : NoneOf room → NoneOf (limit_checks nodes edges source sink value edge flows set)
        unfolding limit_checks
        raise_none h = none_append ends (asked ++ (channel ++ room)) two (none_append asked (channel ++ room) inside (none_append channel room is h))

  -- what an accepted question is known of
  pub record Weighed : Type 0 where
    pub ends_two : NoneOf (end_checks nodes source sink)
    pub value_inside : NoneOf (value_checks value)
    pub is_edge : NoneOf (edge_checks edges edge)
    pub has_room : NoneOf (room_checks nodes edges (length flows) (length set))

  pub weighed : NoneOf (limit_checks nodes edges source sink value edge flows set) → Weighed
  unfolding limit_checks
  weighed h =
      let a = append_none ends (asked ++ (channel ++ room)) h in
      let b = append_none asked (channel ++ room) a.1 in
      let c = append_none channel room b.1 in
      record { ends_two = a.0; value_inside = b.0; is_edge = c.0; has_room = c.1 }

-- ── what was found: the flows are lent from the front of a slice, and what was found with that part is found with the slice ──
pub sought_back : (𝓓 : Drawing) (source sink : ℕ) (value : ℤ) (edge : ℕ) (flows y : List ℤ) (inside : List ℕ) {r answer : Option ℤ} → r ≡ answer
    → Sought 𝓓 source sink value edge (take (𝓓.map.edges - 0) flows) y inside r
    → Sought 𝓓 source sink value edge flows (y ++ drop (𝓓.map.edges - 0) flows) inside answer
sought_back 𝓓 source sink value edge flows y inside {r} {answer} same h =
    go answer (subst (Sought 𝓓 source sink value edge (take (𝓓.map.edges - 0) flows) y inside) same h)
  where
    go : (a : Option ℤ) → Sought 𝓓 source sink value edge (take (𝓓.map.edges - 0) flows) y inside a
        → Sought 𝓓 source sink value edge flows (y ++ drop (𝓓.map.edges - 0) flows) inside a
    go (Some v) h = (h.0, h.1, (h.2.0, h.2.1, part_filled 𝓓.map.edges flows h.2.0 y h.2.2), h.3)
    go None h = (part_kept 𝓓.map.edges flows y h.0, h.1)

-- the capacity found, from the number of its bits
pub told_limit : (𝓓 : Drawing) (source sink : ℕ) (value : ℤ) (edge : ℕ) (before flows : List ℤ) (inside : List ℕ) (v : ℤ)
    → Limited 1000000 (𝓓.capacity (2 * edge)) → Sought 𝓓 source sink value edge before flows inside (Some v) → to_z w32 (of_z w32 v) ≡ v
told_limit 𝓓 source sink value edge before flows inside v small h =
    let l : Limited 1000000 v = record { low = le_trans small.low h.0; high = h.1 } in same_bits (omega arith) l

pub limit_as : (𝓓 : Drawing) (checks : List Check) (source sink : ℕ) (value : ℤ) (edge : ℕ) (flows flows' : List ℤ) (set set' : List ℕ) {v w : ℤ} → w ≡ v
    → RaiseFound 𝓓 checks source sink value edge flows flows' set set' (Ok (Some v))
    → RaiseFound 𝓓 checks source sink value edge flows flows' set set' (Ok (Some w))
limit_as 𝓓 checks source sink value edge flows flows' set set' e h =
    subst (λ z. RaiseFound 𝓓 checks source sink value edge flows flows' set set' (Ok (Some z))) (sym e) h

-- what the operation stands on
pub ruleset raise_steps = (raise_ends, raise_value, raise_edge, raise_room, value_inside, is_edge, room_flows)
