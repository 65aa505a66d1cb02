-- Levels from settings on a drawing: each way out is the first check that holds, or the checks up to it have passed.
use mathlib.Core.Path.{◌≡◌, refl, sym, subst}
use mathlib.Core.Logic.{inl, inr}
use mathlib.Core.List.{List, ◌++◌}
use Prim.Native.Nat.{ℕ, ◌-◌}
use native.Mathlib.Omega.{arith}
use lib.ListN.{take, drop}
use lib.IntN.{ℤ}
use Rattle.std.proofs.Common.{Ok, Err}
use Rattle.std.proofs.lemmas.Result.{err_from_is_err_and}
use Rattle.flows.specs.Check.{NoNode}
use Rattle.arrays.specs.At.{atℤ}
use Rattle.arrays.specs.Maps.{map_of}
use Rattle.arrays.specs.Filled.{filled}
use Rattle.balance.proofs.Parts.{part_length, part_filled, part_flows, part_within, part_balance}
use Rattle.levels.proofs.Given.{balanced_short, balanced_within, balanced_balance, balanced_none}
use Rattle.levels.proofs.LevelsFound.{tails_small, settings_small, levels_agree, levelable, found, in_place}
use Rattle.levels.proofs.levels_of.Goals as goal

pub returns-then-flows-edges : goal.returns-then-flows-edges
returns-then-flows-edges c = rw c.refused.ensures (balanced_short _ _ _ (inl (omega arith)), refl)

pub returns-then-levels-faces : goal.returns-then-levels-faces
returns-then-levels-faces c = rw c.refused-then-levels-faces.ensures (balanced_short _ _ _ (inr (omega (arith, c.requires.0.counted))), refl)

pub returns-in_err-check_within : goal.returns-in_err-check_within
returns-in_err-check_within c =
    let a = c.args in
    let p = err_from_is_err_and c.from_residual.result c.from_residual.ensures.1 in
    let r = c.in_err-check_within in
    rw (p.1, p.2) (
      balanced_within _ _ _ (omega arith) (omega (arith, c.requires.0.counted)) _ _
          (part_within (map_of a.nodes a.edges a.tails.now a.rotations.now) a.flows.now (atℤ a.capacities.now) (Err r.field-0.0) r.ensures),
      refl,
    )

pub check_all_balanced-requires : goal.check_all_balanced-requires
check_all_balanced-requires c =
    let p = c.requires.0 in
    let a = c.args in (
      p.few_nodes,
      p.few_edges,
      omega (arith, part_length a.edges a.flows.now (omega arith)),
      tails_small p,
      settings_small p c.requires.1 (atℤ (take (a.edges - 0) a.flows.now)) c.in_ok-check_within.ensures,
    )

pub returns-in_err-check_all_balanced : goal.returns-in_err-check_all_balanced
returns-in_err-check_all_balanced c =
    let a = c.args in
    let p = err_from_is_err_and c.from_residual-in_err-check_all_balanced.result c.from_residual-in_err-check_all_balanced.ensures.1 in
    let r = c.in_err-check_all_balanced in
    let 𝓜 = map_of a.nodes a.edges a.tails.now a.rotations.now in
    rw (p.1, p.2) (
      balanced_balance _ _ _ (omega arith) (omega (arith, c.requires.0.counted))
          (part_within 𝓜 a.flows.now (atℤ a.capacities.now) (Ok tt) c.in_ok-check_within.ensures) _ _
          (part_balance 𝓜 a.flows.now NoNode (Err r.field-0.0) (r.ensures 𝓜.rotation)),
      refl,
    )

pub write_levels-requires : goal.write_levels-requires
write_levels-requires c =
    let p = c.requires.0 in
    let a = c.args in
    let given = take (a.edges - 0) a.flows.now in
    levelable p given (take (a.faces - 0) a.levels.now) (part_length a.edges a.flows.now (omega arith))
    (omega (arith, part_length a.faces a.levels.now (omega arith), p.counted)) (settings_small p c.requires.1 (atℤ given) c.in_ok-check_within.ensures)

-- the faces that the code counts are those of the map
written_back : {n : ℕ} (m : ℕ) (l : List ℤ) (x : ℕ → ℤ) (y : List ℤ) → m ≡ n → y ≡ filled n x (take (m - 0) l) → y ++ drop (m - 0) l ≡ filled n x l
written_back {n} m l x y e h =
    subst (λ k. y ++ drop (m - 0) l ≡ filled k x l) e (part_filled m l x y (subst (λ k. y ≡ filled k x (take (m - 0) l)) (sym e) h))

pub returns : goal.returns
returns c =
    let p = c.requires.0 in
    let a = c.args in
    let 𝓜 = map_of a.nodes a.edges a.tails.now a.rotations.now in
    let given = take (a.edges - 0) a.flows.now in
    let lent = take (a.faces - 0) a.levels.now in
    let lent' = c.write_levels.new.levels in
    let w = c.write_levels.ensures in
    let balance = c.in_ok-check_all_balanced.ensures 𝓜.rotation in (
      balanced_none _ _ _ (omega arith) (omega (arith, p.counted))
          (part_within 𝓜 a.flows.now (atℤ a.capacities.now) (Ok tt) c.in_ok-check_within.ensures)
          (part_balance 𝓜 a.flows.now NoNode (Ok tt) balance),
      (
        atℤ lent',
        levels_agree 𝓜 a.outer (atℤ given) (atℤ a.flows.now) (atℤ lent') (part_flows 𝓜 a.flows.now) (found p given lent lent' w balance),
        written_back a.faces a.levels.now (atℤ lent') lent' p.counted
            (in_place p given lent lent' w (omega (arith, part_length a.faces a.levels.now (omega arith), p.counted))),
      ),
    )
