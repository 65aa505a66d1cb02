-- From flows of the arcs to settings and back. Both arcs of an edge may carry: the setting is their difference. Of a setting, the arc that it runs along
-- carries all and the other nothing; since no capacity is below zero, both keep to theirs.
use mathlib.Core.Path.{◌≡◌, refl, sym, ◌∙◌, ap}
use mathlib.Core.Logic.{◌≢◌}
use Prim.Native.Nat.{ℕ, zero, suc, ◌+◌, ◌*◌, ◌≤◌, ◌<◌}
use native.Mathlib.Omega.{arith}
use lib.ListN.{length}
use lib.IntN.{ℤ, pos, negsuc, neg_ℤ, ◌-ℤ◌, ◌*ℤ◌}
use lib.Signed.{◌≤ℤ◌}
use Rattle.integers.proofs.Omega.{atoms₁, atoms₂, parts, positive, positive_is, equal, at_most, from_equal, from_at_most}
use Rattle.maps.specs.Dart.{rev}
use Rattle.maps.specs.Map.{Map, darts}
use Rattle.maps.specs.Flow.{net}
use Rattle.maps.proofs.Darts.{rev_even, rev_odd, by_edge}
use Rattle.flows.specs.Settings.{on_darts, Carries}
use Rattle.flows.proofs.OnDarts.{on_darts_even, on_darts_odd, on_darts_antisymmetric}
use Rattle.dimacs.specs.Problem.{Problem, arc_at, in_flow, out_flow, Conserved, Feasible, FeasibleParts, flow_value}
use Rattle.dimacs.specs.Text.{natural}
use Rattle.dimacs.specs.Drawn.{drawn_problem}
use Rattle.dimacs.proofs.Arcs.{arcs_many, arc_is, net_of_arcs}

-- what 22 leaves
abbrev pub NotBelowZero : Map → (ℕ → ℤ) → Type 0
NotBelowZero 𝓜 c = (d : ℕ) → d < darts 𝓜 → pos 0 ≤ℤ c d

-- the capacity written is the drawing's
pub natural_is : (c : ℤ) → pos 0 ≤ℤ c → pos (natural c) ≡ c
unfolding natural
natural_is (pos n) h = refl
natural_is (negsuc n) h = absurd (omega (arith, from_at_most h (search parts)))

-- the setting of each edge, and the flow of each arc
unfoldable pub settings_of : (ℕ → ℕ) → ℕ → ℤ
settings_of f e = pos (f (2 * e)) -ℤ pos (f (2 * e + 1))

unfoldable pub arc_flows : (ℕ → ℤ) → ℕ → ℕ
arc_flows x d = positive (on_darts x d)

-- ── integers ──
no_difference : (a b : ℕ) → pos a -ℤ pos b ≡ pos 0 → b ≡ a
no_difference a b e = omega (arith, from_equal e (search parts))

same_difference : (a b : ℕ) → b ≡ a → pos a -ℤ pos b ≡ pos 0
same_difference a b e = equal (search parts) (omega arith)

-- z is its positive part less that of −z
positive_difference : (z w : ℤ) → w ≡ neg_ℤ z → z ≡ pos (positive z) -ℤ pos (positive w)
positive_difference z w e =
    let a = atoms₂ z w in
    equal (search parts) (omega (arith, from_equal e (search parts), positive_is (atoms₁ z), positive_is (atoms₁ w)))

difference_below : (a b : ℕ) (c : ℤ) → pos a ≤ℤ c → (pos a -ℤ pos b) ≤ℤ c
difference_below a b c h = let k = atoms₁ c in at_most (search parts) (omega (arith, from_at_most h (search parts)))

below_natural : (a : ℕ) (c : ℤ) → a ≤ natural c → pos 0 ≤ℤ c → pos a ≤ℤ c
below_natural a c h g = let k = atoms₁ c in at_most (search parts) (omega (arith, h, from_equal (natural_is c g) (search parts)))

positive_below : (z c : ℤ) → z ≤ℤ c → pos 0 ≤ℤ c → positive z ≤ natural c
positive_below z c h g =
    let k = atoms₂ z c in
    omega (arith, positive_is (atoms₁ z), from_at_most h (search parts), from_at_most g (search parts), from_equal (natural_is c g) (search parts))

-- ── settings of a flow ──
pub settings_darts : (𝓜 : Map) (f : ℕ → ℕ) (d : ℕ) → d < darts 𝓜 → on_darts (settings_of f) d ≡ pos (f d) -ℤ pos (f (rev d))
unfolding settings_of
settings_darts 𝓜 f =
    by_edge 𝓜.edges (λ d. on_darts (settings_of f) d ≡ pos (f d) -ℤ pos (f (rev d)))
    (λ e l. on_darts_even (settings_of f) e ∙ ap (λ k. pos (f (2 * e)) -ℤ pos (f k)) (sym (rev_even e)))
    (λ e l. on_darts_odd (settings_of f) e ∙ turned (f (2 * e)) (f (2 * e + 1)) ∙ ap (λ k. pos (f (2 * e + 1)) -ℤ pos (f k)) (sym (rev_odd e)))
  where
    turned : (a b : ℕ) → neg_ℤ (pos a -ℤ pos b) ≡ pos b -ℤ pos a
    turned a b = equal (search parts) (omega arith)

pub flows_darts : (𝓜 : Map) (x : ℕ → ℤ) (d : ℕ) → d < darts 𝓜 → on_darts x d ≡ pos (arc_flows x d) -ℤ pos (arc_flows x (rev d))
unfolding arc_flows
flows_darts 𝓜 x d l = positive_difference (on_darts x d) (on_darts x (rev d)) (on_darts_antisymmetric 𝓜 x d l)

-- a conserved flow of the arcs gives settings that carry its value, within any capacities that the arcs keep to
pub conserved_carries : (𝓜 : Map) (c : ℕ → ℤ) (s t : ℕ) (f : ℕ → ℕ) (bound : ℕ → ℤ) → ((d : ℕ) → d < darts 𝓜 → pos (f d) ≤ℤ bound d)
    → Conserved (drawn_problem 𝓜 c s t) f → Carries 𝓜 bound s t (flow_value (drawn_problem 𝓜 c s t) f) (settings_of f)
conserved_carries 𝓜 c s t f bound room kept = record {
  antisymmetric = on_darts_antisymmetric 𝓜 (settings_of f);
  within = λ d l. rw (settings_darts 𝓜 f d l) (difference_below (f d) (f (rev d)) (bound d) (room d l));
  balanced = λ v l p q.
      nets v
      ∙ same_difference (out_flow P f (v + 1)) (in_flow P f (v + 1))
      (kept (v + 1) (omega arith) (omega arith) (λ e. p (omega (arith, e))) (λ e. q (omega (arith, e))));
  carries = nets s;
}
  where
    P : Problem
    P = drawn_problem 𝓜 c s t

    nets : (v : ℕ) → net 𝓜 (on_darts (settings_of f)) v ≡ pos (out_flow P f (v + 1)) -ℤ pos (in_flow P f (v + 1))
    nets = net_of_arcs 𝓜 c s t f (on_darts (settings_of f)) (settings_darts 𝓜 f)

module _ (𝓜 : Map) (c : ℕ → ℤ) (s t : ℕ) (good : NotBelowZero 𝓜 c) where
  abbrev P : Problem
  P = drawn_problem 𝓜 c s t

  pub feasible_carries : (f : ℕ → ℕ) → Feasible P f → Carries 𝓜 c s t (flow_value P f) (settings_of f)
  feasible_carries f h = conserved_carries 𝓜 c s t f c (λ d l. below_natural (f d) (c d) (room d l) (good d l)) h.conserved
    where
      room : (d : ℕ) → d < darts 𝓜 → f d ≤ natural (c d)
      room d l = omega (arith, h.within d (omega (arith, arcs_many 𝓜 c s t)), ap (λ a. a.capacity) (arc_is 𝓜 c s t d l))

  -- the same in n-th parts, within n times the capacities
  pub parts_carry : (n : ℕ) (f : ℕ → ℕ) → FeasibleParts n P f → Carries 𝓜 (λ d. pos n *ℤ c d) s t (flow_value P f) (settings_of f)
  parts_carry n f h = conserved_carries 𝓜 c s t f (λ d. pos n *ℤ c d) (λ d l. fits d (natural_is (c d) (good d l)) (room d l)) h.conserved
    where
      room : (d : ℕ) → d < darts 𝓜 → f d ≤ n * natural (c d)
      room d l = omega (arith, h.within d (omega (arith, arcs_many 𝓜 c s t)), ap (λ a. n * a.capacity) (arc_is 𝓜 c s t d l))

      fits : (d : ℕ) → pos (natural (c d)) ≡ c d → f d ≤ n * natural (c d) → pos (f d) ≤ℤ (pos n *ℤ c d)
      fits d e g = rw (← e) (at_most (search parts) (omega (arith, g)))

  -- settings give a flow of the arcs, of the value that they carry
  module _ (w : ℤ) (x : ℕ → ℤ) (h : Carries 𝓜 c s t w x) where
    nets : (v : ℕ) → net 𝓜 (on_darts x) v ≡ pos (out_flow P (arc_flows x) (v + 1)) -ℤ pos (in_flow P (arc_flows x) (v + 1))
    nets = net_of_arcs 𝓜 c s t (arc_flows x) (on_darts x) (flows_darts 𝓜 x)

    pub carries_feasible : Feasible P (arc_flows x)
    unfolding arc_flows
    carries_feasible = record { within = room; conserved = kept }
      where
        room : (d : ℕ) → d < length P.arcs → arc_flows x d ≤ (arc_at P d).capacity
        room d l =
            let m : d < darts 𝓜 = omega (arith, arcs_many 𝓜 c s t) in
            omega (arith, ap (λ a. a.capacity) (arc_is 𝓜 c s t d m), positive_below (on_darts x d) (c d) (h.within d m) (good d m))

        kept : (v : ℕ) → 1 ≤ v → v ≤ 𝓜.nodes → v ≢ s + 1 → v ≢ t + 1 → in_flow P (arc_flows x) v ≡ out_flow P (arc_flows x) v
        kept zero one l p q = absurd (omega arith)
        kept (suc v) one l p q =
            let next : suc v ≡ v + 1 = omega arith in
            rw next
            (no_difference (out_flow P (arc_flows x) (v + 1)) (in_flow P (arc_flows x) (v + 1))
            (sym (nets v) ∙ h.balanced v (omega arith) (λ e. p (omega (arith, e))) (λ e. q (omega (arith, e)))))

    pub carries_value : flow_value P (arc_flows x) ≡ w
    carries_value = sym (nets s) ∙ h.carries
