-- The other moves of the search: it begins, takes a face up, leaves a face without a parent; and bounds are widened.
use mathlib.Core.Path.{◌≡◌, sym, ◌∙◌, ap}
use mathlib.Core.Logic.{◌⊎◌, inl, inr}
use Prim.Native.Nat.{ℕ, ◌*◌, ◌≤◌, ◌<◌}
use native.Mathlib.Omega.{arith}
use native.Mathlib.Decide.{ℕ_discrete}
use lib.IntN.{ℤ, pos, ◌+ℤ◌}
use lib.Signed.{mag, ◌≤ℤ◌}
use Rattle.integers.proofs.Pigeonhole.{seek}
use Rattle.search.specs.Dual.{Dual, WellFormed, longest}
use Rattle.search.specs.inner.Walk.{Walk, here}
use Rattle.search.specs.Level.{HasLevel, far}
use Rattle.search.specs.inner.Progress.{State, Quiet}
use Rattle.search.proofs.Order.{le_of_eq, near_not_far}
use Rattle.search.proofs.Change.{Changed}

-- ── quiet darts ──
pub quiet_weaken : {N : Dual} {ρ : ℕ → ℤ} {waiting : ℕ → ℕ} (todo todo' : ℕ → Type 0) → ((d : ℕ) → d < N.darts → todo d → todo' d)
    → Quiet N ρ waiting todo → Quiet N ρ waiting todo'
quiet_weaken todo todo' w q = record { quiet = λ d l not off h. q.quiet d l (λ t. not (w d l t)) off h }

-- a dart that cannot lower
pub quiet_keep : {N : Dual} {ρ : ℕ → ℤ} {waiting : ℕ → ℕ} (todo : ℕ → Type 0) (d : ℕ) → ρ (N.left d) ≤ℤ (ρ (N.right d) +ℤ N.length d)
    → Quiet N ρ waiting todo → Quiet N ρ waiting (λ e. todo e × (e ≡ d → ⊥))
quiet_keep {N} {ρ} {waiting} todo d le q = record { quiet = λ e e_in not off h. by e e_in not off h (ℕ_discrete e d) }
  where
    by : (e : ℕ) → e < N.darts → (todo e × (e ≡ d → ⊥) → ⊥) → (waiting (N.right e) ≡ 1 → ⊥) → HasLevel ρ (N.right e) → Dec (e ≡ d)
        → ρ (N.left e) ≤ℤ (ρ (N.right e) +ℤ N.length e)
    by e e_in not off h (yes p) = rw p le
    by e e_in not off h (no c) = q.quiet e e_in (λ t. not (t, c)) off h

-- a face is taken up: its darts are to be tried
pub quiet_take : {N : Dual} {ρ : ℕ → ℤ} {waiting waiting' : ℕ → ℕ} (x w : ℕ) → Changed waiting waiting' x w → Quiet N ρ waiting (λ d. ⊥)
    → Quiet N ρ waiting' (λ d. N.right d ≡ x)
quiet_take {N} x w c q = record { quiet = λ d l not off h. q.quiet d l (λ a. a) (λ e. off (c.off (N.right d) not ∙ e)) h }

-- ── the state ──
module _ {N : Dual} {ρ : ℕ → ℤ} {parent waiting : ℕ → ℕ} {b : ℕ} (s : State N ρ parent waiting b) where
  -- the face x is taken up: it waits no more
  pub clear : {waiting' : ℕ → ℕ} (x : ℕ) → Changed waiting waiting' x 0 → State N ρ parent waiting' b
  clear {waiting'} x c = record {
    time = s.time;
    fell = s.fell;
    fell_by = s.fell_by;
    left_is = s.left_is;
    above = s.above;
    low = s.low;
    later = s.later;
    orphan = s.orphan;
    reached = s.reached;
    root_low = s.root_low;
    waits = λ f l h. by f l h (ℕ_discrete f x);
  }
    where
      by : (f : ℕ) → f < N.faces → waiting' f ≡ 1 → Dec (f ≡ x) → HasLevel ρ f
      by f l h (yes e) = absurd (omega (arith, c.at f e))
      by f l h (no q) = s.waits f l (sym (c.off f q) ∙ h)

  -- levels within other bounds
  pub bounded : (b' : ℕ) → ((f : ℕ) → f < N.faces → HasLevel ρ f → mag (ρ f) ≤ b' * longest) → State N ρ parent waiting b'
  bounded b' near = record {
    time = s.time;
    fell = s.fell;
    fell_by = s.fell_by;
    left_is = s.left_is;
    above = s.above;
    low = s.low;
    later = s.later;
    orphan = s.orphan;
    reached = λ f l h. (near f l h, (s.reached f l h).1);
    root_low = s.root_low;
    waits = s.waits;
  }

  pub widened : (b' : ℕ) → b ≤ b' → State N ρ parent waiting b'
  widened b' w = bounded b' (λ f l h. omega (arith, (s.reached f l h).0))

  -- a face without a level is left without a parent
  pub orphaned : {parent' : ℕ → ℕ} (y p : ℕ) → N.darts ≤ p → (HasLevel ρ y → ⊥) → Changed parent parent' y p → State N ρ parent' waiting b
  orphaned {parent'} y p out none c = record {
    time = s.time;
    fell = s.fell;
    fell_by = s.fell_by;
    left_is = λ f l h. by f h (ℕ_discrete f y) (λ q. rw (c.off f q) (s.left_is f l (rw (c.off f q) at h)));
    above = λ f l h k. by f h (ℕ_discrete f y) (λ q. rw (c.off f q) (s.above f l (rw (c.off f q) at h) k));
    low = λ f l h k. by f h (ℕ_discrete f y) (λ q. rw (c.off f q) (s.low f l (rw (c.off f q) at h) k));
    later = λ f l h k. by f h (ℕ_discrete f y) (λ q. rw (c.off f q) (s.later f l (rw (c.off f q) at h) k));
    orphan = λ f l h k. orphan' f l h k (ℕ_discrete f y);
    reached = s.reached;
    root_low = s.root_low;
    waits = s.waits;
  }
    where
      by : {A : Type 0} (f : ℕ) → parent' f < N.darts → Dec (f ≡ y) → ((f ≡ y → ⊥) → A) → A
      by f h (yes e) k = absurd (omega (arith, c.at f e))
      by f h (no q) k = k q

      orphan' : (f : ℕ) → f < N.faces → N.darts ≤ parent' f → HasLevel ρ f → Dec (f ≡ y) → ρ f ≡ pos 0
      orphan' f l h k (yes e) = absurd (none (λ q. k (ap ρ e ∙ q)))
      orphan' f l h k (no q) = s.orphan f l (rw (c.off f q) at h) k

-- ── the beginning ──
-- a root, or no root
abbrev Root : Dual → ℕ → Type 0
Root N f = (m : ℕ) × (m < N.roots) × (N.root m ≡ f)

abbrev pub NoRoot : Dual → ℕ → Type 0
NoRoot N f = (m : ℕ) → m < N.roots → N.root m ≡ f → ⊥

which : (N : Dual) (f : ℕ) → Root N f ⊎ NoRoot N f
which N f = seek N.root f N.roots

module _ (N : Dual) (ρ : ℕ → ℤ) (parent waiting : ℕ → ℕ) (zero : (m : ℕ) → m < N.roots → ρ (N.root m) ≡ pos 0)
    (others : (f : ℕ) → f < N.faces → NoRoot N f → ρ f ≡ far) (none : (m : ℕ) → m < N.roots → N.darts ≤ parent (N.root m)) where
  root_at : (f : ℕ) → Root N f → ρ f ≡ pos 0
  root_at f r = ap ρ (sym r.2) ∙ zero r.0 r.1

  -- a face with a level is a root
  has_root : (f : ℕ) → f < N.faces → HasLevel ρ f → Root N f
  has_root f l h = by (which N f)
    where
      by : Root N f ⊎ NoRoot N f → Root N f
      by (inl r) = r
      by (inr c) = absurd (h (others f l c))

  no_parent : (f : ℕ) → f < N.faces → parent f < N.darts → HasLevel ρ f → ⊥
  no_parent f l p h = let r = has_root f l h in omega (arith, none r.0 r.1, ap parent r.2)

  pub begin_state : (b : ℕ) → ((f : ℕ) → f < N.faces → parent f < N.darts → N.left (parent f) ≡ f)
      → ((f : ℕ) → f < N.faces → NoRoot N f → waiting f ≡ 1 → ⊥) → State N ρ parent waiting b
  begin_state b left rests = record {
    time = 0;
    fell = λ f. 0;
    fell_by = λ f. omega arith;
    left_is = left;
    above = λ f l p h. absurd (no_parent f l p h);
    low = λ f l p h. absurd (no_parent f l p h);
    later = λ f l p h. absurd (no_parent f l p h);
    orphan = λ f l p h. root_at f (has_root f l h);
    reached = λ f l h. at_root f (has_root f l h);
    waits = λ f l h. not_far f l h (which N f);
    root_low = λ m l. le_of_eq (zero m l);
  }
    where
      at_root : (f : ℕ) → Root N f → (mag (ρ f) ≤ b * longest) × Walk N f (ρ f)
      at_root f r = rw (root_at f r) (omega arith, here r.0 r.1 r.2)

      not_far : (f : ℕ) → f < N.faces → waiting f ≡ 1 → Root N f ⊎ NoRoot N f → ρ f ≡ far → ⊥
      not_far f l h (inl r) q = near_not_far (pos 0) (omega arith) (sym (root_at f r) ∙ q)
      not_far f l h (inr c) q = rests f l c h

  pub begin_quiet : WellFormed N → ((m : ℕ) → m < N.roots → waiting (N.root m) ≡ 1) → Quiet N ρ waiting (λ d. ⊥)
  begin_quiet sound z = record { quiet = λ d l not off h. by d l off h (has_root (N.right d) (sound.right_in d l) h) }
    where
      by : (d : ℕ) → d < N.darts → (waiting (N.right d) ≡ 1 → ⊥) → HasLevel ρ (N.right d) → Root N (N.right d)
          → ρ (N.left d) ≤ℤ (ρ (N.right d) +ℤ N.length d)
      by d l off h r = absurd (off (ap waiting (sym r.2) ∙ z r.0 r.1))

  -- the potentials of the faces, as they are at first
  pub first_level : (f : ℕ) → f < N.faces → (ρ f ≡ pos 0) ⊎ (ρ f ≡ far)
  first_level f l = by (which N f)
    where
      by : Root N f ⊎ NoRoot N f → (ρ f ≡ pos 0) ⊎ (ρ f ≡ far)
      by (inl r) = inl (root_at f r)
      by (inr c) = inr (others f l c)
