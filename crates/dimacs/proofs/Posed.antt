-- A drawing's problem is well posed.
use mathlib.Core.Path.{sym, subst}
use mathlib.Core.Logic.{◌≢◌}
use Prim.Native.Nat.{ℕ, ◌≤◌, ◌<◌}
use native.Mathlib.Omega.{arith}
use lib.ListN.{length}
use lib.IntN.{ℤ}
use Rattle.maps.specs.Dart.{rev}
use Rattle.maps.specs.Map.{Map, darts}
use Rattle.maps.specs.Check.{InRange}
use Rattle.maps.proofs.Darts.{rev_in}
use Rattle.dimacs.specs.Problem.{Problem, WellPosed}
use Rattle.dimacs.specs.Drawn.{drawn_problem}
use Rattle.dimacs.proofs.Arcs.{arcs_many, arc_is}

module _ (𝓜 : Map) (c : ℕ → ℤ) (s t : ℕ) (range : InRange 𝓜) (s_in : s < 𝓜.nodes) (t_in : t < 𝓜.nodes) (s≢t : s ≢ t) where
  abbrev P : Problem
  P = drawn_problem 𝓜 c s t

  arc_in : (i : ℕ) → i < length P.arcs → i < darts 𝓜
  arc_in i l = omega (arith, l, arcs_many 𝓜 c s t)

  pub posed : WellPosed (drawn_problem 𝓜 c s t)
  posed = record {
    all_arcs = arcs_many 𝓜 c s t;
    source_in = (omega arith, omega arith);
    sink_in = (omega arith, omega arith);
    two = λ e. s≢t (omega (arith, e));
    starts_in = λ i l.
        let m = arc_in i l in
        subst (λ a. (1 ≤ a.start) × (a.start ≤ 𝓜.nodes)) (sym (arc_is 𝓜 c s t i m)) (omega arith, omega (arith, range.tail_in i m));
    ends_in = λ i l.
        let m = arc_in i l in
        subst (λ a. (1 ≤ a.end) × (a.end ≤ 𝓜.nodes)) (sym (arc_is 𝓜 c s t i m))
        (omega arith, omega (arith, range.tail_in (rev i) (rev_in 𝓜.edges i m)));
  }
