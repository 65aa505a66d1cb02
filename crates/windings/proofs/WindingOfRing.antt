-- For who calls the search on a drawing and then asks for the winding: the ring of parents is a walk over faces of the map, of total length below zero, and the
-- winding filled in is the winding of that walk.
use mathlib.Core.Path.{◌≡◌, refl, sym, ◌∙◌, ap}
use mathlib.Core.Bool.{Bool, true, false}
use mathlib.Core.List.{List}
use Prim.Native.Nat.{ℕ, ◌+◌, ◌≤◌, ◌<◌}
use native.Mathlib.Omega.{arith}
use lib.Dec.{eqb}
use lib.IntN.{ℤ, pos, ◌+ℤ◌, ◌-ℤ◌}
use lib.Signed.{◌<ℤ◌}
use Rattle.integers.specs.Sum.{when, bit}
use Rattle.integers.proofs.Omega.{parts, equal}
use Rattle.maps.specs.Dart.{rev}
use Rattle.maps.specs.Map.{Map, darts}
use Rattle.maps.specs.Face.{left}
use Rattle.maps.specs.inner.FaceWalk.{FaceWalk}
use Rattle.maps.specs.inner.FaceWalk as faceWalk
use Rattle.maps.proofs.Darts.{eqb_rev}
use Rattle.maps.proofs.Rings.{times, winding}
use Rattle.flows.specs.inner.UnitFlow.{single}
use Rattle.search.specs.Dual.{Dual}
use Rattle.search.specs.inner.Walk.{Crossing, stay, cross, total}
use Rattle.search.specs.Parents.{ParentRing}
use Rattle.search.proofs.Chains.{ring_of}
use Rattle.search.specs.inner.OfMap.{OfMap}
use Rattle.windings.specs.inner.Winding.{crossings, Round, Wound}

-- one crossing more, of d, as the dart i counts it: a times forth and b times back before
one_more : (d i a b : ℕ) → pos (bit (eqb i d) + a) -ℤ pos (bit (eqb (rev i) d) + b) ≡ single d i +ℤ (pos a -ℤ pos b)
one_more d i a b = ap (λ t. pos (bit (eqb i d) + a) -ℤ pos (bit t + b)) (eqb_rev i d) ∙ split (eqb i d) (eqb i (rev d))
  where
    split : (p q : Bool) → pos (bit p + a) -ℤ pos (bit q + b) ≡ (when p (pos 1) -ℤ when q (pos 1)) +ℤ (pos a -ℤ pos b)
    split true true = equal (search parts) (omega arith)
    split true false = equal (search parts) (omega arith)
    split false true = equal (search parts) (omega arith)
    split false false = equal (search parts) (omega arith)

-- darts crossed in turn, as a walk over faces of the same length and winding
crossed_walk : {N : Dual} {𝓜 : Map} → OfMap N 𝓜 → {e f g : ℕ} {ds : List ℕ} → e ≡ f → Crossing N f g ds
    → (w : FaceWalk 𝓜 e g) × (faceWalk.total N.length w ≡ total N.length ds) × ((i : ℕ) → winding w i ≡ crossings ds i)
unfolding total faceWalk.total winding times crossings
crossed_walk of q stay = rw q (faceWalk.stay, refl, λ i. refl)
crossed_walk {N} {𝓜} of {e = e'} q (cross d l e r) =
    let d_in : d < darts 𝓜 = omega (arith, of.darts_are) in
    let w = crossed_walk of {e = left 𝓜 d} (sym (of.left_is d d_in)) r in (
      faceWalk.cross d d_in (sym (of.right_is d d_in) ∙ e ∙ sym q) w.0,
      ap (λ z. N.length d +ℤ z) w.1,
      λ i. one_more d i (times w.0 i) (times w.0 (rev i)) ∙ ap (λ z. single d i +ℤ z) (w.2 i),
    )

-- what `fill_winding` requires
abbrev pub round_of : {N : Dual} {parent : ℕ → ℕ} {y : ℕ} → N.faces ≤ 1024 → ParentRing N parent y → Round N.right parent N.darts y
round_of few ρ = record {
  size = ρ.size;
  some = ρ.some;
  few = omega (arith, ρ.few);
  closes = ρ.closes;
  first = ρ.first;
  inside = λ k. omega (arith, ρ.inside k);
  dart = ρ.dart;
}

-- what it leaves
pub ring_wound : {N : Dual} {𝓜 : Map} → OfMap N 𝓜 → N.faces ≤ 1024 → {parent : ℕ → ℕ} {y : ℕ} → ParentRing N parent y
    → {wd : ℕ → ℤ} → Wound N.right parent N.darts y wd
    → (w : FaceWalk 𝓜 y y) × (faceWalk.total N.length w <ℤ pos 0) × ((d : ℕ) → d < N.darts → wd d ≡ winding w d)
ring_wound of few ρ wound =
    let r = crossed_walk of refl (ring_of ρ).closed in
    (r.0, rw r.1 ρ.negative, λ d l. wound.crossed (round_of few ρ) d l ∙ sym (r.2 d))
