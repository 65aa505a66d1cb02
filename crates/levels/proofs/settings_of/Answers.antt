-- Settings from levels on a drawing: each way out is the first check that holds, or the checks up to it have passed.
use mathlib.Core.Path.{refl}
use mathlib.Core.Logic.{inl, inr}
use mathlib.Core.List.{List}
use Prim.Native.Nat.{ℕ, ◌-◌, ◌≤◌, ◌<◌}
use native.Mathlib.Omega.{arith}
use lib.ListN.{length, take}
use lib.IntN.{ℤ, pos}
use Rattle.std.proofs.Common.{Ok, Err}
use Rattle.std.proofs.lemmas.Result.{err_from_is_err_and}
use Rattle.refusals.specs.Order.{NoneOf}
use Rattle.maps.specs.Map.{Map, darts}
use Rattle.maps.specs.Face.{faces}
use Rattle.arrays.specs.At.{atℤ}
use Rattle.arrays.specs.Maps.{map_of}
use Rattle.arrays.specs.inner.Drawn.{Drawn}
use Rattle.balance.proofs.Parts.{part_length, part_at, part_filled}
use Rattle.traversal.specs.inner.Forest.{RootsOf}
use Rattle.levels.specs.Level.{level_checks}
use Rattle.levels.specs.inner.Across.{HaveLevels, OneOf}
use Rattle.levels.proofs.Given.{leveled_short, leveled_levels, leveled_within, leveled_none}
use Rattle.levels.proofs.SettingsFound.{few_roots, roots_in, levels_judged, levels_ready, differences_within, differences_filled}
use Rattle.levels.proofs.settings_of.Goals as goal

-- the levels lent that 19 and 20 leave: each dart's face has one
levelled : {𝓜 : Map} {left : ℕ → ℕ} {faces outer : ℕ} {capacity : ℕ → ℤ} (p : Drawn 𝓜 left faces outer capacity) {roots : ℕ → ℕ} {count : ℕ}
    → RootsOf (darts 𝓜) 𝓜.rotation outer left roots count → (levels : List ℤ) → faces ≤ length levels
    → NoneOf (level_checks (length (take (faces - 0) levels)) (OneOf roots count) (atℤ (take (faces - 0) levels)))
    → HaveLevels 𝓜.edges left (take (faces - 0) levels)
levelled {faces = faces} p ρs levels long none =
    let e = part_length faces levels long in
    levels_ready p (take (faces - 0) levels) (omega (arith, e, p.counted)) (levels_judged p ρs _ _ (λ f l. refl) (Ok tt) (rw e at none))

pub returns-then-flows-edges : goal.returns-then-flows-edges
returns-then-flows-edges c = rw c.refused.ensures (leveled_short _ _ _ (inl (omega arith)), refl)

pub returns-then-levels-faces : goal.returns-then-levels-faces
returns-then-levels-faces c = rw c.refused-then-levels-faces.ensures (leveled_short _ _ _ (inr (omega (arith, c.requires.counted))), refl)

pub check_levels-requires : goal.check_levels-requires
check_levels-requires c =
    let e = c.roots_of-count.ensures.1 in
    (few_roots c.requires e, λ m l. omega (arith, roots_in c.requires e m l, part_length c.args.faces c.args.levels.now (omega arith)))

pub returns-in_err-check_levels : goal.returns-in_err-check_levels
returns-in_err-check_levels c =
    let a = c.args in
    let p = err_from_is_err_and c.from_residual.result c.from_residual.ensures.1 in
    let r = c.in_err-check_levels in
    let long = part_length a.faces a.levels.now (omega arith) in
    rw (p.1, p.2) (
      leveled_levels _ _ _ (omega arith) (omega (arith, c.requires.counted)) _ _
          (levels_judged c.requires c.roots_of-count.ensures.1 _ _ (part_at a.faces a.levels.now (pos 0)) (Err r.field-0.0) (rw long at r.ensures)),
      refl,
    )

pub check_differences-requires : goal.check_differences-requires
check_differences-requires c =
    (c.requires.few_edges, levelled c.requires c.roots_of-count.ensures.1 c.args.levels.now (omega arith) c.in_ok-check_levels.ensures)

pub returns-in_err-check_differences : goal.returns-in_err-check_differences
returns-in_err-check_differences c =
    let a = c.args in
    let p = err_from_is_err_and c.from_residual-in_err-check_differences.result c.from_residual-in_err-check_differences.ensures.1 in
    let r = c.in_err-check_differences in
    let long = part_length a.faces a.levels.now (omega arith) in
    let same = part_at a.faces a.levels.now (pos 0) in
    rw (p.1, p.2) (
      leveled_within _ _ _ (omega arith) (omega (arith, c.requires.counted))
          (levels_judged c.requires c.roots_of-count.ensures.1 _ _ same (Ok tt) (rw long at c.in_ok-check_levels.ensures)) _ _
          (differences_within c.requires _ _ (λ f l. same f (omega (arith, l, c.requires.counted))) (Err r.field-0.0) r.ensures),
      refl,
    )

pub fill_differences-requires : goal.fill_differences-requires
fill_differences-requires c = (
  c.requires.few_edges,
  part_length c.args.edges c.args.flows.now (omega arith),
  levelled c.requires c.roots_of-count.ensures.1 c.args.levels.now (omega arith) c.in_ok-check_levels.ensures,
)

pub returns : goal.returns
returns c =
    let a = c.args in
    let long = part_length a.faces a.levels.now (omega arith) in
    let same = part_at a.faces a.levels.now (pos 0) in
    let flowing = λ (f : ℕ) (l : f < faces (map_of a.nodes a.edges a.tails.now a.rotations.now)). same f (omega (arith, l, c.requires.counted)) in (
      leveled_none _ _ _ (omega arith) (omega (arith, c.requires.counted))
          (levels_judged c.requires c.roots_of-count.ensures.1 _ _ same (Ok tt) (rw long at c.in_ok-check_levels.ensures))
          (differences_within c.requires _ _ flowing (Ok tt) c.in_ok-check_differences.ensures),
      differences_filled c.requires _ _ flowing a.flows.now _ (part_filled a.edges a.flows.now _ _ c.fill_differences.ensures),
    )
