-- Settings from levels on a drawing in arrays: what functions say of the arrays' faces, said of the drawing.
use mathlib.Core.Path.{◌≡◌, refl, sym, ◌∙◌, ap, ap₂, subst}
use mathlib.Core.List.{List, ◌++◌}
use Prim.Native.Nat.{ℕ, ◌*◌, ◌≤◌, ◌<◌}
use native.Mathlib.Omega.{arith}
use lib.ListN.{length, drop}
use lib.IntN.{ℤ, ◌-ℤ◌}
use Rattle.refusals.specs.Order.{NoneOf, Judged}
use Rattle.std.specs.Prelude.{Result}
use Rattle.refusals.specs.declared.Refusal.{Refusal}
use Rattle.refusals.proofs.Same.{Same, same_in_turn, judged_same}
use Rattle.maps.specs.Dart.{rev}
use Rattle.maps.specs.Map.{Map, darts}
use Rattle.maps.specs.Face as face
use Rattle.maps.proofs.Darts.{rev_in}
use Rattle.maps.proofs.Faces.{left_in}
use Rattle.flows.specs.ZeroFace.{ZeroFace}
use Rattle.flows.specs.Check.{within_checks}
use Rattle.arrays.specs.At.{atℤ}
use Rattle.arrays.specs.inner.Drawn.{Drawn}
use Rattle.arrays.specs.Filled.{filled}
use Rattle.arrays.proofs.Tabulate.{tabulate_ext}
use Rattle.levels.specs.Level.{LevelOutside, level_checks}
use Rattle.levels.specs.inner.Across.{across, HaveLevels, OneOf}
use Rattle.traversal.specs.inner.Forest.{RootsOf}
use Rattle.traversal.proofs.Forests.{start_in}
use Rattle.traversal.proofs.Rooting.{roots_few, root_is, root_zero, zero_root}
use Rattle.levels.specs.SettingsOf.{from_levels}
use Rattle.levels.proofs.Level.{all_levelled}

module _ {𝓜 : Map} {left : ℕ → ℕ} {faces outer : ℕ} {capacity : ℕ → ℤ} (p : Drawn 𝓜 left faces outer capacity) where
  -- ── the faces at 0 ──
  module _ {roots : ℕ → ℕ} {count : ℕ} (ρs : RootsOf (darts 𝓜) 𝓜.rotation outer left roots count) where
    pub few_roots : count ≤ 1024
    few_roots = omega (arith, roots_few ρs, p.few_edges)

    pub roots_in : (m : ℕ) → m < count → roots m < faces
    roots_in m l =
        omega (
          arith,
          root_is p.plane.sound p.left_is ρs m l,
          left_in p.plane.sound (ρs.order (ρs.forest.planted.begins m)) (start_in p.plane.sound ρs.forest m l),
          p.counted,
        )

    -- levels that agree on the faces are judged alike
    pub levels_judged : (ρ ρ' : ℕ → ℤ) → ((f : ℕ) → f < faces → ρ f ≡ ρ' f) → (v : Result Unit Refusal) → Judged (level_checks faces (OneOf roots count) ρ) v
        → Judged (level_checks (face.faces 𝓜) (ZeroFace 𝓜 outer) ρ') v
    unfolding level_checks Same
    levels_judged ρ ρ' same v j =
        judged_same _ _ v (
          refl,
          refl,
          (λ r. (r.0, omega (arith, r.1, p.counted), subst LevelOutside (same r.0 r.1) r.2)),
          (λ r. let l : r.0 < faces = omega (arith, r.1, p.counted) in (r.0, l, subst LevelOutside (sym (same r.0 l)) r.2)),
          (
            refl,
            refl,
            (λ r. (
              r.0,
              subst (ZeroFace 𝓜 outer) r.1.2 (root_zero p.plane.sound p.left_is ρs r.1.0 r.1.1),
              (λ e. r.2 (same r.0 (root_in r.1) ∙ e)),
            )),
            (λ r.
                let o = zero_root p.plane.sound p.left_is ρs r.0 r.1 in
                (r.0, o, (λ e. r.2 (sym (same r.0 (root_in o)) ∙ e)))),
            tt,
          ),
        ) j
      where
        root_in : {f : ℕ} → OneOf roots count f → f < faces
        root_in o = subst (λ f. f < faces) o.2 (roots_in o.0 o.1)

  -- ── every dart's face has a level ──
  face_in : (d : ℕ) → d < darts 𝓜 → left d < face.faces 𝓜
  face_in d l = omega (arith, p.left_is d l, left_in p.plane.sound d l)

  pub levels_ready : (levels : List ℤ) → face.faces 𝓜 ≤ length levels → NoneOf (level_checks (face.faces 𝓜) (ZeroFace 𝓜 outer) (atℤ levels))
      → HaveLevels 𝓜.edges left levels
  levels_ready levels long none = all_levelled 𝓜.edges (face.faces 𝓜) (ZeroFace 𝓜 outer) left levels face_in long none

  -- ── the flow of an edge, by the array's faces and by the drawing's, with levels that agree on the faces ──
  module _ (ρ ρ' : ℕ → ℤ) (same : (f : ℕ) → f < face.faces 𝓜 → ρ f ≡ ρ' f) where
    level_of : (d : ℕ) → d < darts 𝓜 → ρ (left d) ≡ ρ' (face.left 𝓜 d)
    level_of d l = ap ρ (p.left_is d l) ∙ same (face.left 𝓜 d) (left_in p.plane.sound d l)

    across_of : (e : ℕ) → e < 𝓜.edges → across left ρ e ≡ from_levels 𝓜 ρ' e
    across_of e l = ap₂ ◌-ℤ◌ (level_of (2 * e) (omega arith)) (level_of (rev (2 * e)) (rev_in 𝓜.edges (2 * e) (omega arith)))

    pub differences_within : (v : Result Unit Refusal) → Judged (within_checks 𝓜.edges capacity (across left ρ)) v
        → Judged (within_checks 𝓜.edges capacity (from_levels 𝓜 ρ')) v
    unfolding within_checks Same
    differences_within v j =
        judged_same _ _ v (same_in_turn 𝓜.edges _ _ (λ e l. (
          refl,
          refl,
          (λ x. rw (across_of e l) at x),
          (λ x. rw (across_of e l) x),
          tt,
        ))) j

    pub differences_filled : (old new : List ℤ) → new ≡ filled 𝓜.edges (across left ρ) old → new ≡ filled 𝓜.edges (from_levels 𝓜 ρ') old
    differences_filled old new e = e ∙ ap (λ l. l ++ drop 𝓜.edges old) (tabulate_ext 𝓜.edges _ _ across_of)
