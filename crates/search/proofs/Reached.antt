-- Where no face waits, every face is reached: the reached faces are a set that no dart leaves or enters, and the faces of a part hang together.
use mathlib.Core.Path.{◌≡◌, refl, sym, ◌∙◌, ap}
use mathlib.Core.Logic.{◌⊎◌, inl, inr}
use mathlib.Core.Bool.{Bool, true, false, not, true≢false, false≢true}
use Prim.Native.Nat.{ℕ, ◌*◌, ◌/◌, ◌<◌}
use native.Mathlib.Omega.{arith}
use lib.IntN.{ℤ, pos, ◌+ℤ◌}
use Rattle.integers.proofs.Tests.{either, eqb_true, eq_z, eq_z_eq}
use Rattle.maps.specs.Dart.{rev}
use Rattle.maps.proofs.Darts.{rev_rev, rev_in}
use Rattle.search.specs.Dual.{Dual, WellFormed, Joined}
use Rattle.search.specs.inner.Walk.{Walk}
use Rattle.search.specs.inner.Settled.{Still, Settled}
use Rattle.search.specs.Level.{far}
use Rattle.search.specs.inner.Progress.{State, Quiet}
use Rattle.search.proofs.Order.{mag_add, below_near}
use Rattle.search.proofs.Highest.{root_zero}

-- the test whether a potential is set
is_set : ℤ → Bool
is_set z = not (eq_z z far)

is_set_true : (z : ℤ) → (z ≡ far → ⊥) → is_set z ≡ true
unfolding is_set
is_set_true z h = by (either (eq_z z far))
  where
    by : (eq_z z far ≡ true) ⊎ (eq_z z far ≡ false) → not (eq_z z far) ≡ true
    by (inl e) = absurd (h (eq_z_eq z far e))
    by (inr e) = rw e

is_set_is : (z : ℤ) → is_set z ≡ true → z ≡ far → ⊥
unfolding is_set eq_z
is_set_is z h e = false≢true (sym (ap not (eqb_true 2000000000000000 2000000000000000 refl)) ∙ ap (λ w. not (eq_z w far)) (sym e) ∙ h)

module _ {N : Dual} (sound : WellFormed N) (joined : Joined N)
    {ρ : ℕ → ℤ} {parent waiting : ℕ → ℕ} {b : ℕ} (s : State N ρ parent waiting b)
    (q : Quiet N ρ waiting (λ d. ⊥)) (rests : (f : ℕ) → f < N.faces → waiting f ≡ 1 → ⊥) (few : b < 1600000) where
  -- what a dart leads to from a reached face is reached
  onward_set : (d : ℕ) → d < N.darts → (ρ (N.right d) ≡ far → ⊥) → ρ (N.left d) ≡ far → ⊥
  onward_set d l h =
      below_near (ρ (N.left d)) (ρ (N.right d) +ℤ N.length d) (q.quiet d l (λ a. a) (rests (N.right d) (sound.right_in d l)) h)
      (omega (arith, mag_add (ρ (N.right d)) (N.length d), sound.short d l, (s.reached (N.right d) (sound.right_in d l) h).0))

  -- the other dart of the edge leads back
  back_in : (d : ℕ) → d < N.darts → rev d < N.darts
  back_in d l = rw pairs (rev_in (N.darts / 2) d (omega (arith, pairs)))
    where
      pairs : N.darts ≡ 2 * (N.darts / 2)
      pairs = omega (arith, sound.even)

  back_right : (d : ℕ) → d < N.darts → N.right (rev d) ≡ N.left d
  back_right d l = sound.reversed (rev d) (back_in d l) ∙ ap N.left (rev_rev d)

  backward_set : (d : ℕ) → d < N.darts → (ρ (N.left d) ≡ far → ⊥) → ρ (N.right d) ≡ far → ⊥
  backward_set d l h e =
      onward_set (rev d) (back_in d l) (λ g. h (ap ρ (sym (back_right d l)) ∙ g)) (ap ρ (sym (sound.reversed d l)) ∙ e)

  same_set : (d : ℕ) → d < N.darts → is_set (ρ (N.left d)) ≡ is_set (ρ (N.right d))
  same_set d l = by (either (is_set (ρ (N.left d)))) (either (is_set (ρ (N.right d))))
    where
      by : (is_set (ρ (N.left d)) ≡ true) ⊎ (is_set (ρ (N.left d)) ≡ false) → (is_set (ρ (N.right d)) ≡ true) ⊎ (is_set (ρ (N.right d)) ≡ false)
          → is_set (ρ (N.left d)) ≡ is_set (ρ (N.right d))
      by (inl a) b = a ∙ sym (is_set_true (ρ (N.right d)) (backward_set d l (is_set_is (ρ (N.left d)) a)))
      by (inr a) (inl b) = absurd (true≢false (sym (is_set_true (ρ (N.left d)) (onward_set d l (is_set_is (ρ (N.right d)) b))) ∙ a))
      by (inr a) (inr b) = a ∙ sym b

  all_set : (f : ℕ) → f < N.faces → ρ f ≡ far → ⊥
  all_set f l =
      let m = joined.part f in
      let low = s.root_low m (joined.part_in f l) in
      is_set_is (ρ f)
      (joined.closed (λ f. is_set (ρ f)) same_set f l ∙ is_set_true (ρ (N.root m)) (below_near (ρ (N.root m)) (pos 0) low (omega arith)))

  still : Still N ρ
  still d l = q.quiet d l (λ a. a) (rests (N.right d) (sound.right_in d l)) (all_set (N.right d) (sound.right_in d l))

  walks : (f : ℕ) → f < N.faces → Walk N f (ρ f)
  walks f l = (s.reached f l (all_set f l)).1

  pub settled : Settled N ρ
  settled = record {
    still = still;
    walk = walks;
    rooted = λ m l. root_zero joined ρ still m l (s.root_low m l) (walks (N.root m) (sound.root_in m l));
    near = λ f l. omega (arith, (s.reached f l (all_set f l)).0);
  }
