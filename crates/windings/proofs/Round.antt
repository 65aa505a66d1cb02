-- The way round, pass by pass: the face reached is so many steps up from y, the winding so far counts the parents crossed,
-- and y is not met again before the end.
use mathlib.Core.Path.{◌≡◌, refl, sym, ◌∙◌, ap, ap₂, subst}
use mathlib.Core.Logic.{◌≢◌}
use mathlib.Core.Bool.{Bool, true, false, cond}
use Prim.Native.Nat.{ℕ, zero, suc, ◌+◌, ◌-◌, ◌/◌, ◌%◌, ◌≤◌, ◌<◌}
use native.Mathlib.Omega.{arith}
use native.Mathlib.Decide.{ℕ_discrete}
use lib.Dec.{eqb}
use lib.IntN.{ℤ, pos, ◌+ℤ◌, ◌-ℤ◌}
use Rattle.integers.specs.Sum.{when}
use Rattle.integers.specs.inner.Limited.{Limited}
use Rattle.integers.proofs.Limits.{limited_plus, limited_more, limited_zero}
use Rattle.integers.proofs.Omega.{parts, at_most}
use Rattle.integers.proofs.Tests.{eqb_true, eqb_false}
use Rattle.maps.specs.Dart.{rev}
use Rattle.maps.specs.Orbit.{iter}
use Rattle.maps.proofs.Darts.{rev_in}
use Rattle.flows.specs.inner.UnitFlow.{single}
use Rattle.search.specs.Parents.{up, down}
use Rattle.windings.specs.inner.Winding.{crossings, Round, Wound}

-- one crossing changes a winding by one at most
two_tests : (p q : Bool) → Limited 1 (when p (pos 1) -ℤ when q (pos 1))
two_tests true true = limited_zero 1
two_tests true false = record { low = at_most (search parts) (omega arith); high = at_most (search parts) (omega arith) }
two_tests false true = record { low = at_most (search parts) (omega arith); high = at_most (search parts) (omega arith) }
two_tests false false = limited_zero 1

-- the darts come in pairs
pub rev_below : (n d : ℕ) → n % 2 ≡ 0 → d < n → rev d < n
rev_below n d even l = omega (arith, even, rev_in (n / 2) d (omega (arith, even)))

-- how many faces lie between x and y on the way up, looked for along n steps: the number of passes is no variable of the code, so the measure is found from x
unfoldable pub between : (ℕ → ℕ) → ℕ → ℕ → ℕ → ℕ
between next y zero x = 0
between next y (suc n) x = cond (eqb (next x) y) 0 (suc (between next y n (next x)))

pub record Walking (right parent : ℕ → ℕ) (darts y : ℕ) (winding : ℕ → ℤ) (x : ℕ) : Type 0 where
  pub passes : ℕ
  pub before : (r : Round right parent darts y) → passes < r.size
  pub x_is : x ≡ iter (up right parent) passes y
  pub crossed : (d : ℕ) → d < darts → winding d ≡ crossings (down right parent passes y) d
  pub limited : (d : ℕ) → d < darts → Limited passes (winding d)

pub set_off : {right parent : ℕ → ℕ} {darts y : ℕ} {winding : ℕ → ℤ} → ((d : ℕ) → d < darts → winding d ≡ pos 0) → Walking right parent darts y winding y
unfolding iter down crossings
set_off clear = record {
  passes = 0;
  before = λ r. r.some;
  x_is = refl;
  crossed = clear;
  limited = λ d l. subst (Limited 0) (sym (clear d l)) (limited_zero 0);
}

module _ {right parent : ℕ → ℕ} {darts y : ℕ} (r : Round right parent darts y) where
  -- k steps up from y, the rest of the way is what is left of the round
  between_is : (n k : ℕ) → k < r.size → r.size ≤ n + k → between (up right parent) y n (iter (up right parent) k y) ≡ r.size - suc k
  unfolding between iter
  between_is zero k l m = absurd (omega arith)
  between_is (suc n) k l m = go (ℕ_discrete (suc k) r.size) (between_is n (suc k))
    where
      x : ℕ
      x = iter (up right parent) (suc k) y

      go : Dec (suc k ≡ r.size) → (suc k < r.size → r.size ≤ n + suc k → between (up right parent) y n x ≡ r.size - suc (suc k))
          → cond (eqb x y) 0 (suc (between (up right parent) y n x)) ≡ r.size - suc k
      go (yes e) rest = rw (eqb_true x y (ap (λ j. iter (up right parent) j y) e ∙ r.closes)) (omega arith)
      go (no e) rest =
          rw (eqb_false x y (r.first (suc k) (omega arith) (omega (arith, e))))
          (omega (arith, e, rest (omega (arith, e)) (omega arith)))

  module _ {winding : ℕ → ℤ} {x : ℕ} (ω : Walking right parent darts y winding x) where
    pub parent_in : {p : ℕ} → p ≡ parent x → p < darts
    parent_in e = omega (arith, e, ap parent ω.x_is, r.dart ω.passes)

    pub few_yet : (d : ℕ) → d < darts → Limited 1024 (winding d)
    few_yet d l = limited_more (omega (arith, ω.before r, r.few)) (ω.limited d l)

    -- over the parent p of x, to the face right of it
    module _ {p x' : ℕ} (is-p : p ≡ parent x) (is_x : x' ≡ right p) where
      next_is : x' ≡ iter (up right parent) (suc ω.passes) y
      unfolding iter
      next_is = is_x ∙ ap right is-p ∙ ap (up right parent) ω.x_is

      goes_on : x' ≢ y → (s : Round right parent darts y) → suc ω.passes < s.size
      goes_on other s =
          let ne : suc ω.passes ≡ s.size → ⊥ = λ e. other (next_is ∙ ap (λ j. iter (up right parent) j y) e ∙ s.closes) in
          omega (arith, ω.before s, ne)

      module _ {winding' : ℕ → ℤ} (stepped : (d : ℕ) → winding' d ≡ single p d +ℤ winding d) where
        crossed_more : (d : ℕ) → d < darts → winding' d ≡ crossings (down right parent (suc ω.passes) y) d
        unfolding down crossings
        crossed_more d l = stepped d ∙ ap₂ (λ q z. single q d +ℤ z) (is-p ∙ ap parent ω.x_is) (ω.crossed d l)

        limited_still : (d : ℕ) → d < darts → Limited (suc ω.passes) (winding' d)
        limited_still d l =
            subst (Limited (suc ω.passes)) (sym (stepped d))
            (limited_more (omega arith) (limited_plus (two_tests (eqb d p) (eqb d (rev p))) (ω.limited d l)))

        pub walk_on : x' ≢ y → Walking right parent darts y winding' x'
        walk_on other = record {
          passes = suc ω.passes;
          before = goes_on other;
          x_is = next_is;
          crossed = crossed_more;
          limited = limited_still;
        }

        -- back at y the round is whole, whichever way it is known to close
        pub walk_end : x' ≡ y → Wound right parent darts y winding'
        walk_end back = record {
          crossed = λ s d l. crossed_more d l ∙ ap (λ j. crossings (down right parent j y) d) (whole s);
          limited = λ d l. limited_more (omega (arith, ω.before r, r.few)) (limited_still d l);
        }
          where
            whole : (s : Round right parent darts y) → suc ω.passes ≡ s.size
            whole s =
                let closed : suc ω.passes < s.size → ⊥ = λ l. s.first (suc ω.passes) (omega arith) l (sym next_is ∙ back) in
                omega (arith, ω.before s, closed)

      pub nearer : x' ≢ y → between (up right parent) y 1024 x' < between (up right parent) y 1024 x
      nearer other = omega (arith, here, there, goes_on other r)
        where
          here : between (up right parent) y 1024 x ≡ r.size - suc ω.passes
          here = ap (between (up right parent) y 1024) ω.x_is ∙ between_is 1024 ω.passes (ω.before r) (omega (arith, r.few))

          there : between (up right parent) y 1024 x' ≡ r.size - suc (suc ω.passes)
          there = ap (between (up right parent) y 1024) next_is ∙ between_is 1024 (suc ω.passes) (goes_on other r) (omega (arith, r.few))
