-- The records of the edges, each read once: one that is refused is the first; at the end every edge has passed, and its fields stand in the arrays.
use mathlib.Core.Path.{◌≡◌, refl}
use mathlib.Core.Logic.{inl}
use Prim.Native.Nat.{◌*◌}
use native.Mathlib.Omega.{arith}
use Rattle.std.proofs.lemmas.Result.{err_from_is_err_and}
use Rattle.refusals.specs.Order.{NoneOf, FirstOf}
use Rattle.arrays.proofs.FillLoops.{filling_start}
use Rattle.records.specs.Sheet.{edges_of}
use Rattle.records.proofs.Bytes.{head_whole, head_counts, refused_edge, refused_left, all_passed}
use Rattle.sheets.proofs.Opening.{tails_are, rotations_are, capacities_are}
use Rattle.sheets.proofs.read_edges.Goals as goal

pub loop-e-init : goal.loop-e-init
loop-e-init c =
    let p = c.requires in
    record {
      few = omega (arith, p.3, (head_counts _ p.0).3);
      passed = λ i l. absurd (omega arith);
      tails = filling_start _ p.4 p.5;
      rotations = filling_start _ p.6 p.7;
      capacities = filling_start _ p.8 p.9;
    }

pub read_edge-requires : goal.read_edge-requires
read_edge-requires c = let p = c.requires in (c.loop-e.invariant.few, omega arith, omega (arith, p.1, head_whole _ p.0), p.1, p.2, p.3)

pub returns-in_err-edge : goal.returns-in_err-edge
returns-in_err-edge c =
    let i = c.loop-e.invariant in
    let p = err_from_is_err_and c.from_residual.result c.from_residual.ensures.1 in (
      i.tails.long,
      i.rotations.long,
      i.capacities.long,
      rw (p.1, p.2) (refused_edge _ c.requires.0 c.loop-e.e _ _ (omega (arith, c.requires.3)) i.passed c.in_err-edge.ensures),
    )

pub edge_at-requires : goal.edge_at-requires
edge_at-requires c = (omega (arith, c.requires.1, head_whole _ c.requires.0), c.loop-e.invariant.few)

-- ── every edge has passed ──
pub returns-then-edge_at-s : goal.returns-then-edge_at-s
unfolding FirstOf
returns-then-edge_at-s c =
    let i = c.loop-e.invariant in
    let p = c.requires in (
      i.tails.long,
      i.rotations.long,
      i.capacities.long,
      rw c.refused.ensures
          (refused_left _ p.0 (λ k l. i.passed k (omega (arith, p.3))) (inl (omega (arith, c.edge_at.ensures, p.1, p.3), refl, refl))),
    )

pub returns : goal.returns
unfolding NoneOf
returns c =
    let i = c.loop-e.invariant in
    let p = c.requires in
    let s = c.args.s.now in
    let all : 2 * c.loop-e.e ≡ 2 * edges_of s = omega (arith, p.3) in (
      i.tails.long,
      i.rotations.long,
      i.capacities.long,
      (
        all_passed _ p.0 (λ k l. i.passed k (omega (arith, p.3))) (λ l. omega (arith, c.edge_at.ensures, p.1, p.3), tt),
        record {
          tails_are = tails_are s _ all _ i.tails;
          rotations_are = rotations_are s _ all _ i.rotations;
          capacities_are = capacities_are s _ all _ i.capacities;
        },
      ),
    )
