-- What the refusals of a question leave: two ends that are nodes, a value in range, room in the slices; and each operation's list taken apart.
use mathlib.Core.Logic.{◌⊎◌, ◌≢◌, inl, inr}
use mathlib.Core.List.{List, ◌∷◌, ◌++◌}
use Prim.Native.Nat.{ℕ, ◌≤◌, ◌<◌}
use native.Mathlib.Omega.{arith}
use lib.ListN.{length}
use lib.IntN.{ℤ, pos, negsuc}
use lib.Signed.{◌≤ℤ◌, ◌<ℤ◌}
use Rattle.integers.specs.inner.Limited.{Limited}
use Rattle.integers.proofs.Laws.{lt_or_ge}
use Rattle.refusals.specs.Order.{◌when◌, NoneOf}
use Rattle.refusals.proofs.Order.{append_none}
use Rattle.maps.specs.Drawing.{Drawing}
use Rattle.flows.specs.ProvingSet.{words_for}
use Rattle.flows.specs.Check.{within_checks, balance_checks, EndOf}
use Rattle.arrays.specs.At.{atℤ}
use Rattle.arrays.specs.inner.Sizes.{most_value}
use Rattle.questions.specs.Question.{end_checks, value_checks, room_checks}
use Rattle.questions.specs.Solve.{question_checks}
use Rattle.questions.specs.Largest.{search_checks}
use Rattle.questions.specs.Mark.{paper_checks}

-- ── 13 and 14 ──
module _ (nodes source sink : ℕ) (h : NoneOf (end_checks nodes source sink)) where
  pub ends_in : (source < nodes) × (sink < nodes)
  unfolding NoneOf end_checks
  ends_in = (let l : nodes ≤ source → ⊥ = λ l. h.0 (inl l) in omega arith, let l : nodes ≤ sink → ⊥ = λ l. h.0 (inr l) in omega arith)

  pub ends_differ : source ≢ sink
  unfolding NoneOf end_checks
  ends_differ = h.1.0

-- ── 15 ──
pub value_limited : (value : ℤ) → NoneOf (value_checks value) → Limited most_value value
unfolding NoneOf value_checks
value_limited value h = record { low = low (lt_or_ge value (negsuc 599999999)); high = high (lt_or_ge (pos 600000000) value) }
  where
    low : (value <ℤ negsuc 599999999) ⊎ (negsuc 599999999 ≤ℤ value) → negsuc 599999999 ≤ℤ value
    low (inl l) = absurd (h.0 (inl l))
    low (inr l) = l

    high : (pos 600000000 <ℤ value) ⊎ (value ≤ℤ pos 600000000) → value ≤ℤ pos 600000000
    high (inl l) = absurd (h.0 (inr l))
    high (inr l) = l

-- ── 16 ──
pub room_flows : (nodes edges flows set : ℕ) → NoneOf (room_checks nodes edges flows set) → (edges ≤ flows) × (words_for nodes ≤ set)
unfolding NoneOf room_checks
room_flows nodes edges flows set h =
    (let l : flows < edges → ⊥ = λ l. h.0 (inl l) in omega arith, let l : set < words_for nodes → ⊥ = λ l. h.0 (inr l) in omega arith)

-- ── the lists taken apart ──
module _ (nodes edges source sink : ℕ) (flows : List ℤ) (set : List ℕ) where
  -- what an accepted Solve is known of
  pub record Accepted (value : ℤ) : Type 0 where
    pub ends_two : NoneOf (end_checks nodes source sink)
    pub value_inside : NoneOf (value_checks value)
    pub has_room : NoneOf (room_checks nodes edges (length flows) (length set))

  pub accepted : (value : ℤ) → NoneOf (question_checks nodes edges source sink value flows set) → Accepted value
  unfolding question_checks
  accepted value h =
      let room = room_checks nodes edges (length flows) (length set) in
      let a = append_none (end_checks nodes source sink) (value_checks value ++ room) h in
      let b = append_none (value_checks value) room a.1 in
      record { ends_two = a.0; value_inside = b.0; has_room = b.1 }

  -- what an accepted Largest is known of
  pub record Sought : Type 0 where
    pub ends_two : NoneOf (end_checks nodes source sink)
    pub has_room : NoneOf (room_checks nodes edges (length flows) (length set))

  pub sought : NoneOf (search_checks nodes edges source sink flows set) → Sought
  unfolding search_checks
  sought h =
      let a = append_none (end_checks nodes source sink) (room_checks nodes edges (length flows) (length set)) h in
      record { ends_two = a.0; has_room = a.1 }

module _ (𝓓 : Drawing) (source sink : ℕ) (flows : List ℤ) where
  -- what an accepted Mark is known of
  pub record Paper : Type 0 where
    pub ends_two : NoneOf (end_checks 𝓓.map.nodes source sink)
    pub long : 𝓓.map.edges ≤ length flows
    pub within : NoneOf (within_checks 𝓓.map.edges 𝓓.capacity (atℤ flows))
    pub balanced : NoneOf (balance_checks 𝓓.map (EndOf source sink) (atℤ flows))

  pub paper : NoneOf (paper_checks 𝓓 source sink flows) → Paper
  unfolding paper_checks NoneOf
  paper h =
      let within = within_checks 𝓓.map.edges 𝓓.capacity (atℤ flows) in
      let balance = balance_checks 𝓓.map (EndOf source sink) (atℤ flows) in
      let a = append_none (end_checks 𝓓.map.nodes source sink) ((16 when length flows < 𝓓.map.edges) ∷ (within ++ balance)) h in
      let b = append_none within balance a.1.1 in
      let l : length flows < 𝓓.map.edges → ⊥ = a.1.0 in
      record { ends_two = a.0; long = omega arith; within = b.0; balanced = b.1 }
