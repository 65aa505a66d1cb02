-- The marks of an ascent: which faces they tell, that no face is met twice, and how many are left.
use mathlib.Core.Path.{◌≡◌, refl, sym, ◌∙◌, ap}
use mathlib.Core.Logic.{◌⊎◌, inl, inr}
use mathlib.Core.List.{List}
use Prim.Native.Nat.{ℕ, zero, suc, ◌+◌, ◌≤◌, ◌<◌}
use native.Mathlib.Omega.{arith}
use native.Mathlib.Decide.{ℕ_discrete}
use lib.ListN.{length, set, length-set}
use lib.Seq.{get_or-set_same, get_or-set_other}
use Rattle.maps.specs.Orbit.{iter}
use Rattle.maps.proofs.Orbits.{iter_zero, iter_suc}
use Rattle.arrays.specs.At.{at}
use Rattle.search.specs.Parents.{up}
use Rattle.search.specs.Straightening.{marked, Ascent}
use Rattle.search.proofs.Change.{stored}
use Rattle.search.proofs.Heights.{fresh, fresh_less}

module _ (g : ℕ → ℕ) (f : ℕ) (marks : List ℕ) where
  pub marked_none : marked g f 0 marks ≡ marks
  unfolding marked
  marked_none = refl

  pub marked_more : (k : ℕ) → marked g f (k + 1) marks ≡ set (marked g f k marks) (iter g k f) f
  unfolding marked
  marked_more k = ap (λ m. marked g f m marks) (native.Mathlib.Numerals.add-one k)

  pub marked_size : (k : ℕ) → length (marked g f k marks) ≡ length marks
  unfolding marked
  marked_size zero = refl
  marked_size (suc k) = simp length-set (marked_size k)

  -- a face is marked as before, or it was met
  pub marked_cases : (k x : ℕ) → (at (marked g f k marks) x ≡ at marks x) ⊎ ((j : ℕ) × (j < k) × (iter g j f ≡ x))
  unfolding marked
  marked_cases zero x = inl refl
  marked_cases (suc k) x = by (ℕ_discrete x (iter g k f)) (marked_cases k x)
    where
      by : Dec (x ≡ iter g k f) → (at (marked g f k marks) x ≡ at marks x) ⊎ ((j : ℕ) × (j < k) × (iter g j f ≡ x))
          → (at (set (marked g f k marks) (iter g k f) f) x ≡ at marks x) ⊎ ((j : ℕ) × (j < suc k) × (iter g j f ≡ x))
      by (yes e) r = inr (k, omega arith, sym e)
      by (no c) (inl e) = inl (get_or-set_other (marked g f k marks) (iter g k f) x f 0 c ∙ e)
      by (no c) (inr r) = inr (r.0, omega (arith, r.1), r.2)

  module _ (size : length marks ≡ 1024) where
    -- who was met has the mark
    pub marked_new : (k j : ℕ) → j < k → iter g j f < 1024 → at (marked g f k marks) (iter g j f) ≡ f
    unfolding marked
    marked_new zero j l s = absurd (omega arith)
    marked_new (suc k) j l s = by (ℕ_discrete (iter g j f) (iter g k f)) (λ c. marked_new k j (omega (arith, apart c)) s)
      where
        apart : (iter g j f ≡ iter g k f → ⊥) → j ≡ k → ⊥
        apart c e = c (ap (λ m. iter g m f) e)

        by : Dec (iter g j f ≡ iter g k f) → ((iter g j f ≡ iter g k f → ⊥) → at (marked g f k marks) (iter g j f) ≡ f)
            → at (set (marked g f k marks) (iter g k f) f) (iter g j f) ≡ f
        by (yes e) r = rw e (get_or-set_same (marked g f k marks) (iter g k f) f 0 (omega (arith, marked_size k, ap (λ m. m) e)))
        by (no c) r = get_or-set_other (marked g f k marks) (iter g k f) (iter g j f) f 0 c ∙ r c

    -- a mark stays
    pub marked_stays : f < 1024 → (k x : ℕ) → x < 1024 → (at marks x ≡ 1024 → ⊥) → at (marked g f k marks) x ≡ 1024 → ⊥
    marked_stays small k x l h e = by (marked_cases k x)
      where
        by : (at (marked g f k marks) x ≡ at marks x) ⊎ ((j : ℕ) × (j < k) × (iter g j f ≡ x)) → ⊥
        by (inl q) = h (sym q ∙ e)
        by (inr r) =
            omega (arith, marked_new k r.0 r.1 (omega (arith, r.2)), ap (at (marked g f k marks)) r.2)

-- ── an ascent over the faces ──
module _ {right : ℕ → ℕ} {darts : ℕ} (faces : ℕ) {parents marks : List ℕ} {f count : ℕ}
    (right_in : (d : ℕ) → d < darts → right d < faces) (small : faces ≤ 1024) (f-in : f < faces) (size : length marks ≡ 1024)
    (a : Ascent (up right (at parents)) darts parents marks f count) where
  pub ascent_inside : (k : ℕ) → k ≤ count → iter (up right (at parents)) k f < faces
  ascent_inside zero l = rw (iter_zero (up right (at parents)) f) f-in
  ascent_inside (suc k) l =
      rw (iter_suc (up right (at parents)) k f) (right_in (at parents (iter (up right (at parents)) k f)) (a.onward k (omega arith)).0)

  pub ascent_apart : (i j : ℕ) → i < j → j < count → iter (up right (at parents)) i f ≡ iter (up right (at parents)) j f → ⊥
  ascent_apart i j l m e =
      omega (
        arith,
        (a.onward j m).1,
        marked_new (up right (at parents)) f marks size j i l (omega (arith, ascent_inside i (omega arith))),
        ap (at (marked (up right (at parents)) f j marks)) e,
      )

  pub ascent_few : (k : ℕ) → k ≤ count → fresh faces (marked (up right (at parents)) f k marks) + k ≡ fresh faces marks
  unfolding marked
  ascent_few zero l = omega arith
  ascent_few (suc k) l =
      let g = up right (at parents) in
      let in' : iter g k f < faces = ascent_inside k (omega arith) in
      omega (
        arith,
        ascent_few k (omega arith),
        fresh_less faces (marked g f k marks) (set (marked g f k marks) (iter g k f) f) (iter g k f) f
            (stored (marked g f k marks) (iter g k f) f 0 (omega (arith, marked_size g f marks k))) in' (a.onward k (omega arith)).1 (omega arith),
      )
