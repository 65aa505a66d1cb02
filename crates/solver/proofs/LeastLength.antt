-- The least length of one dart with which there is no cycle of negative length is minus the distance back (`least_length`), over any dual graph with levels
-- that are settled from the face left of the dart. The walk back may use the dart itself: with a smaller length of the dart it is shorter still, so the cycle
-- is negative all the same; and where no level can be lowered it is no shorter than the level, so the level is still the length of a walk.
use mathlib.Core.Path.{◌≡◌, refl, sym, ◌∙◌, ap, subst}
use mathlib.Core.Logic.{◌⊎◌, inl, inr, ◌↔◌}
use mathlib.Core.Bool.{Bool, true, false, cond}
use mathlib.Core.List.{List, [], ◌∷◌, ◌++◌}
use Prim.Native.Nat.{ℕ, ◌*◌, ◌<◌}
use native.Mathlib.Omega.{arith}
use lib.Dec.{eqb}
use lib.IntN.{ℤ, pos, ◌+ℤ◌, ◌-ℤ◌}
use lib.Signed.{◌≤ℤ◌, ◌<ℤ◌}
use Rattle.integers.proofs.Omega.{atoms₁, atoms₃, atoms₄, parts, equal, at_most, less, from_equal, from_at_most, from_less}
use Rattle.integers.proofs.Laws.{le_antisym, lt_or_ge}
use Rattle.integers.proofs.Tests.{eqb_true, eqb_eq}
use Rattle.maps.specs.Dart.{rev}
use Rattle.edge_flows.specs.inner.Flow.{flow_of}
use Rattle.search.specs.Dual.{Dual, Joined}
use Rattle.search.specs.inner.Walk.{Walk, here, onward, Crossing, stay, cross, total, Ring}
use Rattle.search.specs.inner.Settled.{Still, Settled}
use Rattle.search.proofs.Order.{le_of_eq}
use Rattle.search.proofs.Highest.{below_walk, not_both}
use Rattle.solver.specs.inner.LeastLength.{replaced, relengthed, RootedAt, LeastLength}

-- ── a walk from a root, dart by dart ──
total_further : (length : ℕ → ℤ) (ds : List ℕ) (d : ℕ) → total length (ds ++ (d ∷ [])) ≡ total length ds +ℤ length d
unfolding total
total_further length [] d = let a = atoms₁ (length d) in equal (search parts) (omega arith)
total_further length (c ∷ ds) d =
    ap (λ z. length c +ℤ z) (total_further length ds d)
    ∙ (let a = atoms₃ (length c) (total length ds) (length d) in equal (search parts) (omega arith))

-- the darts that a walk crosses, from its root on
record Crossed (N : Dual) (f : ℕ) (z : ℤ) : Type 0 where
  place : ℕ
  place_in : place < N.roots
  darts : List ℕ
  leads : Crossing N (N.root place) f darts
  adds : total N.length darts ≡ z

module _ {N : Dual} where
  -- one dart more at the end
  further : {f g : ℕ} {ds : List ℕ} (d : ℕ) → d < N.darts → N.right d ≡ g → Crossing N f g ds → Crossing N f (N.left d) (ds ++ (d ∷ []))
  further d l e stay = cross d l e stay
  further d l e (cross c m p r) = cross c m p (further d l e r)

  crossed : {f : ℕ} {z : ℤ} → Walk N f z → Crossed N f z
  unfolding total
  crossed (here m l e) =
      record { place = m; place_in = l; darts = []; leads = subst (λ g. Crossing N (N.root m) g []) e stay; adds = refl }
  crossed (onward {f} {z} {w} d l e q r) =
      let c = crossed r in
      record {
        place = c.place;
        place_in = c.place_in;
        darts = c.darts ++ (d ∷ []);
        leads = subst (λ g. Crossing N (N.root c.place) g (c.darts ++ (d ∷ []))) e (further d l refl c.leads);
        adds = total_further N.length c.darts d ∙ ap (λ y. y +ℤ N.length d) c.adds ∙ sym q;
      }

  -- it stays in the part that it begins in
  part_along : (joined : Joined N) {f g : ℕ} {ds : List ℕ} → Crossing N f g ds → joined.part f ≡ joined.part g
  part_along joined stay = refl
  part_along joined (cross d l e r) = ap joined.part (sym e) ∙ sym (joined.part_kept d l) ∙ part_along joined r

-- the face left of the dart is at 0
pub left_level : {N : Dual} {ρ : ℕ → ℤ} {d : ℕ} → Settled N ρ → RootedAt N d → ρ (N.left d) ≡ pos 0
left_level {ρ = ρ} σ at_left = ap ρ (sym at_left.is) ∙ σ.rooted at_left.place at_left.place_in

-- ── one length replaced by a smaller one ──
module _ (N : Dual) (d : ℕ) (x : ℤ) (small : x ≤ℤ N.length d) where
  abbrev M : Dual
  M = relengthed N d x

  -- no dart is longer
  shorter : (i : ℕ) → replaced N.length d x i ≤ℤ N.length i
  shorter i = by (eqb i d) (λ e. subst (λ j. x ≤ℤ N.length j) (sym (eqb_eq i d e)) small)
    where
      by : (b : Bool) → (b ≡ true → x ≤ℤ N.length i) → cond b x (N.length i) ≤ℤ N.length i
      by true h = h refl
      by false h = le_of_eq refl

  -- so a walk is not longer, whether it uses d or not
  shorter_walk : {f : ℕ} {z : ℤ} → Walk N f z → (y : ℤ) × (y ≤ℤ z) × Walk M f y
  shorter_walk (here m l e) = (pos 0, le_of_eq refl, here m l e)
  shorter_walk (onward {f} {z} {w} i l e q r) =
      let s = shorter_walk r in (
        s.0 +ℤ replaced N.length d x i,
        (let a = atoms₄ s.0 z (replaced N.length d x i) (N.length i) in
            let b = atoms₁ w in
            at_most (search parts)
            (omega (arith, from_equal q (search parts), from_at_most s.1 (search parts), from_at_most (shorter i) (search parts)))),
        onward i l e refl s.2,
      )

  here_is : replaced N.length d x d ≡ x
  here_is = rw (eqb_true d d refl) refl

  module _ {ρ : ℕ → ℤ} (σ : Settled N ρ) (at_left : RootedAt N d) where
    -- ── long enough: the same levels are settled ──
    module _ (long : pos 0 ≤ℤ (x +ℤ ρ (N.right d))) where
      still : Still M ρ
      still i l = by (eqb i d) (eqb_eq i d)
        where
          own : ρ (N.left d) ≤ℤ (ρ (N.right d) +ℤ x)
          own =
              let a = atoms₃ (ρ (N.left d)) (ρ (N.right d)) x in
              at_most (search parts) (omega (arith, from_equal (left_level σ at_left) (search parts), from_at_most long (search parts)))

          by : (b : Bool) → (b ≡ true → i ≡ d) → ρ (N.left i) ≤ℤ (ρ (N.right i) +ℤ cond b x (N.length i))
          by true h = subst (λ j. ρ (N.left j) ≤ℤ (ρ (N.right j) +ℤ x)) (sym (h refl)) own
          by false h = σ.still i l

      walk : (f : ℕ) → f < N.faces → Walk M f (ρ f)
      walk f l =
          let s = shorter_walk (σ.walk f l) in
          subst (Walk M f) (le_antisym s.1 (below_walk ρ still (λ m b. le_of_eq (σ.rooted m b)) s.2)) s.2

      same_settled : Settled M ρ
      same_settled = record { still = still; walk = walk; rooted = σ.rooted; near = σ.near }

    -- ── too short: the walk back, closed by d, is a cycle of negative length ──
    module _ (joined : Joined N) (right_in : N.right d < N.faces) (short : (x +ℤ ρ (N.right d)) <ℤ pos 0) where
      back : (y : ℤ) × (y ≤ℤ ρ (N.right d)) × Walk M (N.right d) y
      back = shorter_walk (σ.walk (N.right d) right_in)

      way : Crossed M (N.right d) back.0
      way = crossed back.2

      abbrev kept : Joined M
      kept =
          record { part = joined.part; part_in = joined.part_in; part_root = joined.part_root; part_kept = joined.part_kept; closed = joined.closed }

      -- it begins at the face left of d, the root of the part
      begins : N.root way.place ≡ N.left d
      begins =
          ap N.root
          (sym (joined.part_root way.place way.place_in)
          ∙ part_along kept way.leads
          ∙ sym (joined.part_kept d at_left.dart_in)
          ∙ ap joined.part (sym at_left.is)
          ∙ joined.part_root at_left.place at_left.place_in)
          ∙ at_left.is

      ring : Ring M (N.left d)
      ring = record {
        around = way.darts ++ (d ∷ []);
        closed =
            subst (λ f. Crossing M f (N.left d) (way.darts ++ (d ∷ []))) begins (further d at_left.dart_in refl way.leads);
        negative =
            subst (λ z. z <ℤ pos 0) (sym (total_further M.length way.darts d ∙ ap (λ y. total M.length way.darts +ℤ y) here_is))
            (let a = atoms₄ (total M.length way.darts) back.0 (ρ (N.right d)) x in
            less (search parts)
            (omega (arith, from_equal way.adds (search parts), from_at_most back.1 (search parts), from_less short (search parts))));
      }

-- ── the theorem ──
module _ {N : Dual} (joined : Joined N) {ρ : ℕ → ℤ} (σ : Settled N ρ) {d : ℕ} (at_left : RootedAt N d) (right_in : N.right d < N.faces) where
  pub least_length : LeastLength N ρ d
  least_length = record {
    enough = λ x small long. same_settled N d x small σ at_left long;
    short = λ x small low. ring N d x small σ at_left joined right_in low;
  }

  -- no cycle of negative length, exactly with lengths not below minus the distance back
  pub no_ring_exactly : (x : ℤ) → x ≤ℤ N.length d → (((f : ℕ) → Ring (relengthed N d x) f → ⊥) ↔ (pos 0 ≤ℤ (x +ℤ ρ (N.right d))))
  no_ring_exactly x small = (onward_to (lt_or_ge (x +ℤ ρ (N.right d)) (pos 0)), λ long f r. not_both r ρ (least_length.enough x small long).still)
    where
      onward_to : ((x +ℤ ρ (N.right d)) <ℤ pos 0) ⊎ (pos 0 ≤ℤ (x +ℤ ρ (N.right d))) → ((f : ℕ) → Ring (relengthed N d x) f → ⊥)
          → pos 0 ≤ℤ (x +ℤ ρ (N.right d))
      onward_to (inl l) none = absurd (none (N.left d) (least_length.short x small l))
      onward_to (inr l) none = l

  -- a bridge: the same face on both sides, so its own length decides
  pub bridge_back : N.right d ≡ N.left d → ρ (N.right d) ≡ pos 0
  bridge_back e = ap ρ e ∙ left_level σ at_left

-- the flow on the edge of the dart that the levels make: its capacity less its length and the distance back
pub flow_back : {N : Dual} {ρ : ℕ → ℤ} (c : ℕ → ℤ) (e : ℕ) → Settled N ρ → RootedAt N (2 * e) → N.right (2 * e) ≡ N.left (rev (2 * e))
    → flow_of N.left c N.length ρ e ≡ c (2 * e) -ℤ (N.length (2 * e) +ℤ ρ (N.right (2 * e)))
flow_back {N} {ρ} c e σ at_left reversed =
    ap (λ f. (ρ (N.left (2 * e)) -ℤ ρ f) +ℤ (c (2 * e) -ℤ N.length (2 * e))) (sym reversed)
    ∙ (let a = atoms₄ (ρ (N.left (2 * e))) (ρ (N.right (2 * e))) (c (2 * e)) (N.length (2 * e)) in
    equal (search parts) (omega (arith, from_equal (left_level σ at_left) (search parts))))
