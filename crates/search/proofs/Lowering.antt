-- A dart lowers the potential of its left face: what the search keeps true stays true.
use mathlib.Core.Path.{◌≡◌, refl, sym, ◌∙◌, ap}
use mathlib.Core.Logic.{◌⊎◌, inl, inr}
use Prim.Native.Nat.{ℕ, suc, ◌*◌, ◌≤◌, ◌<◌}
use native.Mathlib.Omega.{arith}
use native.Mathlib.Decide.{ℕ_discrete}
use lib.IntN.{ℤ, pos, ◌+ℤ◌}
use lib.Signed.{mag, ◌≤ℤ◌, ◌<ℤ◌}
use Rattle.integers.proofs.Laws.{le_trans, le_of_lt}
use Rattle.search.specs.Dual.{Dual, WellFormed, longest}
use Rattle.search.specs.inner.Walk.{Walk, onward}
use Rattle.search.specs.Level.{HasLevel, far}
use Rattle.search.specs.inner.Progress.{State, Quiet}
use Rattle.search.proofs.Order.{le_of_eq, lt_ne, fall, self_fall, near_not_far}
use Rattle.search.proofs.Change.{Changed, change, changed}

module _ {N : Dual} (sound : WellFormed N) {ρ : ℕ → ℤ} {parent waiting : ℕ → ℕ} {b : ℕ} (s : State N ρ parent waiting b)
    (d : ℕ) (d_in : d < N.darts) (set : HasLevel ρ (N.right d)) (v : ℤ) (v_is : v ≡ ρ (N.right d) +ℤ N.length d) (v_less : v <ℤ ρ (N.left d))
    (b' : ℕ) (wider : b ≤ b') (v_near : mag v ≤ b' * longest) (few : b' ≤ 1600000) {ρ' : ℕ → ℤ} {parent' waiting' : ℕ → ℕ}
    (c_ρ : Changed ρ ρ' (N.left d) v) (c-parent : Changed parent parent' (N.left d) d) (c_waiting : Changed waiting waiting' (N.left d) 1) where
  -- the face that falls, and the face that the dart comes from
  abbrev f : ℕ
  f = N.left d

  abbrev u : ℕ
  u = N.right d

  fell' : ℕ → ℕ
  fell' = change s.fell f (suc s.time)

  c_fell : Changed s.fell fell' f (suc s.time)
  unfolding fell'
  c_fell = changed s.fell f (suc s.time)

  v_set : v ≡ far → ⊥
  v_set = near_not_far v (omega (arith, v_near))

  falls : (x : ℕ) → ρ' x ≤ℤ ρ x
  falls x = by (ℕ_discrete x f)
    where
      by : Dec (x ≡ f) → ρ' x ≤ℤ ρ x
      by (yes e) = rw (c_ρ.at x e, e) (le_of_lt v_less)
      by (no c) = le_of_eq (c_ρ.off x c)

  pub set_stays : (x : ℕ) → HasLevel ρ x → HasLevel ρ' x
  set_stays x h e = by (ℕ_discrete x f)
    where
      by : Dec (x ≡ f) → ⊥
      by (yes q) = v_set (sym (c_ρ.at x q) ∙ e)
      by (no c) = h (sym (c_ρ.off x c) ∙ e)

  -- a face other than f has a level as before
  set_before : (x : ℕ) → (x ≡ f → ⊥) → HasLevel ρ' x → HasLevel ρ x
  set_before x c h e = h (c_ρ.off x c ∙ e)

  -- a parent's inequality is strict, or it holds, and where it is tight the face fell later
  Holds : ℤ → ℤ → ℕ → ℕ → Type 0
  Holds x y a b = (x <ℤ y) ⊎ ((x ≤ℤ y) × (x ≡ y → a < b))

  holds : (g : ℕ) → g < N.faces → parent' g < N.darts → HasLevel ρ' g
      → Holds (ρ' (N.right (parent' g)) +ℤ N.length (parent' g)) (ρ' g) (fell' (N.right (parent' g))) (fell' g)
  unfolding Holds
  holds g l p has = by (ℕ_discrete g f)
    where
      by : Dec (g ≡ f) → Holds (ρ' (N.right (parent' g)) +ℤ N.length (parent' g)) (ρ' g) (fell' (N.right (parent' g))) (fell' g)
      by (yes e) = rw (c-parent.at g e, c_ρ.at g e, c_fell.at g e) (itself (ℕ_discrete u f))
        where
          itself : Dec (u ≡ f) → Holds (ρ' u +ℤ N.length d) v (fell' u) (suc s.time)
          itself (yes q) = inl (rw (c_ρ.at u q) (self_fall (ρ u) (N.length d) v v_is (rw (← q) at v_less)))
          itself (no q) = inr (le_of_eq (ap (λ z. z +ℤ N.length d) (c_ρ.off u q) ∙ sym v_is), λ _. omega (arith, c_fell.off u q, s.fell_by u))
      by (no c) = rw (c-parent.off g c, c_ρ.off g c, c_fell.off g c) (above (ℕ_discrete w f))
        where
          w : ℕ
          w = N.right (parent g)

          p' : parent g < N.darts
          p' = rw (c-parent.off g c) at p

          has' : HasLevel ρ g
          has' = set_before g c has

          above : Dec (w ≡ f) → Holds (ρ' w +ℤ N.length (parent g)) (ρ g) (fell' w) (s.fell g)
          above (yes q) = inl (fall (ρ w) (ρ' w) (N.length (parent g)) (ρ g) (s.low g l p' has') (rw (c_ρ.at w q, q) v_less))
          above (no q) = inr (rw (c_ρ.off w q) (s.low g l p' has'), rw (c_ρ.off w q, c_fell.off w q) (s.later g l p' has'))

  pub lower : State N ρ' parent' waiting' b'
  unfolding Holds
  lower = record {
    time = suc s.time;
    fell = fell';
    fell_by = λ x. fell_by' x (ℕ_discrete x f);
    left_is = λ g l p. left_is' g l p (ℕ_discrete g f);
    above = λ g l p h. above' g l p h (ℕ_discrete g f);
    low = λ g l p h. low' (holds g l p h);
    later = λ g l p h. later' (holds g l p h);
    orphan = λ g l p h. orphan' g l p h (ℕ_discrete g f);
    reached = λ g l h. reached' g l h (ℕ_discrete g f);
    waits = λ g l h. waits' g l h (ℕ_discrete g f);
    root_low = λ m l. le_trans (falls (N.root m)) (s.root_low m l);
  }
    where
      fell_by' : (x : ℕ) → Dec (x ≡ f) → fell' x ≤ suc s.time
      fell_by' x (yes e) = omega (arith, c_fell.at x e)
      fell_by' x (no c) = omega (arith, c_fell.off x c, s.fell_by x)

      left_is' : (g : ℕ) → g < N.faces → parent' g < N.darts → Dec (g ≡ f) → N.left (parent' g) ≡ g
      left_is' g l p (yes e) = rw (c-parent.at g e) (sym e)
      left_is' g l p (no c) = rw (c-parent.off g c) (s.left_is g l (rw (c-parent.off g c) at p))

      above' : (g : ℕ) → g < N.faces → parent' g < N.darts → HasLevel ρ' g → Dec (g ≡ f) → HasLevel ρ' (N.right (parent' g))
      above' g l p h (yes e) = rw (c-parent.at g e) (set_stays u set)
      above' g l p h (no c) =
          rw (c-parent.off g c) (set_stays (N.right (parent g)) (s.above g l (rw (c-parent.off g c) at p) (set_before g c h)))

      low' : {x y : ℤ} {a b : ℕ} → (x <ℤ y) ⊎ ((x ≤ℤ y) × (x ≡ y → a < b)) → x ≤ℤ y
      low' (inl h) = le_of_lt h
      low' (inr h) = h.0

      later' : {x y : ℤ} {a b : ℕ} → (x <ℤ y) ⊎ ((x ≤ℤ y) × (x ≡ y → a < b)) → x ≡ y → a < b
      later' (inl h) e = absurd (lt_ne h e)
      later' (inr h) e = h.1 e

      orphan' : (g : ℕ) → g < N.faces → N.darts ≤ parent' g → HasLevel ρ' g → Dec (g ≡ f) → ρ' g ≡ pos 0
      orphan' g l p h (yes e) = absurd (omega (arith, c-parent.at g e, d_in))
      orphan' g l p h (no c) = c_ρ.off g c ∙ s.orphan g l (rw (c-parent.off g c) at p) (set_before g c h)

      reached' : (g : ℕ) → g < N.faces → HasLevel ρ' g → Dec (g ≡ f) → (mag (ρ' g) ≤ b' * longest) × Walk N g (ρ' g)
      reached' g l h (yes e) = rw (c_ρ.at g e) (v_near, onward d d_in (sym e) v_is (s.reached u (sound.right_in d d_in) set).1)
      reached' g l h (no c) = rw (c_ρ.off g c) (let r = s.reached g l (set_before g c h) in (omega (arith, r.0), r.1))

      waits' : (g : ℕ) → g < N.faces → waiting' g ≡ 1 → Dec (g ≡ f) → HasLevel ρ' g
      waits' g l h (yes e) = λ q. v_set (sym (c_ρ.at g e) ∙ q)
      waits' g l h (no c) = set_stays g (s.waits g l (sym (c_waiting.off g c) ∙ h))

  -- what is quiet stays so, and the dart d is quiet now
  pub quiet_lower : (todo : ℕ → Type 0) → Quiet N ρ waiting todo → Quiet N ρ' waiting' (λ e. todo e × (e ≡ d → ⊥))
  quiet_lower todo q = record { quiet = λ e e_in not off h. by e e_in not off h (ℕ_discrete (N.right e) f) }
    where
      by : (e : ℕ) → e < N.darts → (todo e × (e ≡ d → ⊥) → ⊥) → (waiting' (N.right e) ≡ 1 → ⊥) → HasLevel ρ' (N.right e) → Dec (N.right e ≡ f)
          → ρ' (N.left e) ≤ℤ (ρ' (N.right e) +ℤ N.length e)
      by e e_in not off h (yes r) = absurd (off (c_waiting.at (N.right e) r))
      by e e_in not off h (no c) = rw (c_ρ.off (N.right e) c) (which (ℕ_discrete e d))
        where
          which : Dec (e ≡ d) → ρ' (N.left e) ≤ℤ (ρ (N.right e) +ℤ N.length e)
          which (yes p) = rw p (rw (c_ρ.at f refl) (le_of_eq v_is))
          which (no p) =
              le_trans (falls (N.left e))
              (q.quiet e e_in (λ t. not (t, p)) (λ g. off (c_waiting.off (N.right e) c ∙ g)) (set_before (N.right e) c h))
