-- Largest on the drawing with the limits found: the checks in front, what the drawing is, and what its answer says.
use mathlib.Core.Path.{◌≡◌, refl, ◌∙◌, subst, fun_ext}
use mathlib.Core.List.{List, ◌++◌}
use Prim.Native.Nat.{ℕ, ◌*◌, ◌<◌}
use native.Mathlib.Omega.{arith}
use lib.IntN.{ℤ}
use Rattle.integers.specs.inner.Limited.{Limited}
use Rattle.integers.proofs.Limits.{limited_more}
use Rattle.refusals.specs.Order.{Check, NoneOf, FirstOf}
use Rattle.std.specs.Prelude.{Option, Some, None, Result, Ok, Err}
use Rattle.refusals.specs.declared.Refusal.{Refusal}
use Rattle.refusals.proofs.Order.{first_left, first_right, none_append, first_none}
use Rattle.maps.specs.Map.{Map, darts}
use Rattle.maps.specs.Drawing.{Drawing}
use Rattle.arrays.specs.Filled.{filled}
use Rattle.arrays.specs.inner.Drawn.{Drawn}
use Rattle.arrays.specs.inner.Sizes.{most_on_sheet}
use Rattle.arrays.proofs.FillLoops.{filled_below}
use Rattle.records.proofs.Drawing.{capacity_inside, capacities_range, capacities_pairs}
use Rattle.questions.specs.Largest.{search_checks, LargestFound}
use Rattle.questions.proofs.After.{largest-after}
use Rattle.capture.specs.Window.{first_of, count_of, forward_of, found}
use Rattle.capture.specs.Capture.{taking_checks, last_checks, capture_checks, found_drawing, FoundAfter}
use Rattle.capture.proofs.Limits.{taking_limits}
use Rattle.capture.proofs.Lasting.{last_search}
use Rattle.capture.proofs.Taking.{laid_forward}

-- ── the drawing with capacities that have passed 6 and 7 ──
module _ (𝓜 : Map) (c : ℕ → ℤ) (b : List ℕ) (w n : ℕ) (taken : NoneOf (taking_checks 𝓜.edges c b w n)) where
  pub found_limited : (d : ℕ) → d < darts 𝓜 → Limited most_on_sheet (found c b w n d)
  found_limited d l =
      let r = capacity_inside (found c b w n d) (capacities_range 𝓜.edges (found c b w n) (taking_limits 𝓜.edges c b w n taken) d l) in
      record { low = r.0; high = r.1 }

  pub found_drawn : (left : ℕ → ℕ) (faces outer : ℕ) → Drawn 𝓜 left faces outer c → Drawn 𝓜 left faces outer (found c b w n)
  found_drawn left faces outer drawn = record {
    plane = drawn.plane;
    few_nodes = drawn.few_nodes;
    few_edges = drawn.few_edges;
    left_is = drawn.left_is;
    counted = drawn.counted;
    outer_in = drawn.outer_in;
    small = λ d l. limited_more (omega arith) (found_limited d l);
    pairs = capacities_pairs 𝓜.edges (found c b w n) (taking_limits 𝓜.edges c b w n taken);
  }

-- ── the ways out ──
module _ (𝓓 : Drawing) (b : List ℕ) (w n source sink : ℕ) (limits flows : List ℤ) (set : List ℕ) where
  pub taking_refused : (k p : ℕ) → FirstOf (taking_checks 𝓓.map.edges 𝓓.capacity b w n) k p
      → FirstOf (capture_checks 𝓓 b w n source sink limits flows set) k p
  unfolding capture_checks
  taking_refused k p h = first_left (taking_checks 𝓓.map.edges 𝓓.capacity b w n) _ k p h

  module _ (taken : NoneOf (taking_checks 𝓓.map.edges 𝓓.capacity b w n)) where
    pub last_refused : (k p : ℕ) → FirstOf (last_checks 𝓓.map.nodes 𝓓.map.edges source sink limits flows set) k p
        → FirstOf (capture_checks 𝓓 b w n source sink limits flows set) k p
    unfolding capture_checks
    last_refused k p h = first_right (taking_checks 𝓓.map.edges 𝓓.capacity b w n) _ k p taken h

    module _ (c' : ℕ → ℤ) (are : (d : ℕ) → c' d ≡ found 𝓓.capacity b w n d)
        (last : NoneOf (last_checks 𝓓.map.nodes 𝓓.map.edges source sink limits flows set)) where
      passed : NoneOf (capture_checks 𝓓 b w n source sink limits flows set)
      unfolding capture_checks
      passed = none_append (taking_checks 𝓓.map.edges 𝓓.capacity b w n) _ taken last

      given : (limits' : List ℤ) → limits' ≡ filled 𝓓.map.edges (λ e. c' (2 * e)) limits
          → limits' ≡ filled 𝓓.map.edges (forward_of 𝓓.capacity b w n) limits
      given limits' h =
          filled_below 𝓓.map.edges 𝓓.map.edges _ _ limits limits' h refl
          (λ e l. are (2 * e) ∙ laid_forward 𝓓.capacity b (first_of w n) (count_of w n) e)

      pub largest_given : (limits' flows' : List ℤ) (set' : List ℕ) (r : Result (Option ℤ) Refusal) → limits' ≡ filled 𝓓.map.edges (λ e. c' (2 * e)) limits
          → LargestFound (record { map = 𝓓.map; capacity = c'; outer = 𝓓.outer }) (search_checks 𝓓.map.nodes 𝓓.map.edges source sink flows set)
          source sink flows flows' set set' r
          → FoundAfter 𝓓 (capture_checks 𝓓 b w n source sink limits flows set) b w n source sink limits limits' flows flows' set set' r
      largest_given limits' flows' set' r h g =
          by r (subst (λ f. LargestFound (record { map = 𝓓.map; capacity = f; outer = 𝓓.outer })
          (search_checks 𝓓.map.nodes 𝓓.map.edges source sink flows set) source sink flows flows' set set' r) (fun_ext are) g)
        where
          by : (r : Result (Option ℤ) Refusal)
              → LargestFound (found_drawing 𝓓 b w n) (search_checks 𝓓.map.nodes 𝓓.map.edges source sink flows set) source sink flows flows' set set' r
              → FoundAfter 𝓓 (capture_checks 𝓓 b w n source sink limits flows set) b w n source sink limits limits' flows flows' set set' r
          by (Ok (Some v)) f = (given limits' h, (passed, f.1, f.2))
          by (Ok None) f = (given limits' h, (passed, f.1, f.2))
          by (Err e) f =
              absurd (first_none _ e.number e.place f.0 (last_search 𝓓.map.nodes 𝓓.map.edges source sink limits flows set last).0)

-- ── checks in front: where none of them holds, the answer stands after them ──
pub after_after : (before : List Check) → NoneOf before → (𝓓 : Drawing) (checks : List Check) (b : List ℕ) (w n source sink : ℕ)
    (limits limits' flows flows' : List ℤ) (set set' : List ℕ) (r : Result (Option ℤ) Refusal)
    → FoundAfter 𝓓 checks b w n source sink limits limits' flows flows' set set' r
    → FoundAfter 𝓓 (before ++ checks) b w n source sink limits limits' flows flows' set set' r
after_after before passed 𝓓 checks b w n source sink limits limits' flows flows' set set' r h =
    (h.0, largest-after before passed (found_drawing 𝓓 b w n) checks source sink flows flows' set set' r h.1)
