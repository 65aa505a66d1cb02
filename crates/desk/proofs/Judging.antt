-- A paper judged by numbers: tests of the machine as facts, case by case of which ends the set holds; what earns what.
use mathlib.Core.Path.{◌≡◌, refl, sym, ◌∙◌, ap, subst}
use mathlib.Core.Logic.{inl, inr}
use mathlib.Core.Bool.{Bool, true, false, cond, not}
use Prim.Native.Nat.{ℕ, ◌≤◌}
use native.Mathlib.Omega.{arith}
use lib.Dec.{eqb}
use lib.IntN.{ℤ, pos, negsuc, neg_ℤ, ◌+ℤ◌}
use lib.Signed.{◌<ℤ◌, lt_z}
use Rattle.integers.proofs.Omega.{parts, atoms₂, less, from_less, from_at_most}
use Rattle.integers.proofs.Tests.{eqb_true, eqb_false}
use Rattle.integers.proofs.Laws.{lt_of_test, ge_of_test, lt_le_clash}
use mir.Syntax.{w32}
use mir.Val.{to_z, of_z, SFits}
use Rattle.signed.proofs.Laws.{number_of_bits, same_of_test, apart_of_test}
use Rattle.refusals.specs.Order.{Decides}
use Rattle.refusals.proofs.Decisions.{decides_by}
use Rattle.desk.specs.Paper.{claim_of, Earns}
use Rattle.desk.specs.inner.Judged.{IsValue, ProvesBy, NoneBy, ValuePoints, NonePoints, LastSixBy}
use Rattle.std.specs.Prelude.{Option, Some, None}

-- ── tests ──
decides_less : (x y : ℤ) (r : Bool) → r ≡ lt_z x y → Decides (x <ℤ y) r
decides_less x y true e = lt_of_test x y (sym e)
decides_less x y false e = λ h. lt_le_clash h (ge_of_test x y (sym e))

decides_more : (x y : ℤ) (r : Bool) → r ≡ lt_z x y → Decides (y <ℤ (x +ℤ pos 1)) (not r)
decides_more x y true e = λ h. let a = atoms₂ x y in omega (arith, from_less h (search parts), from_less (lt_of_test x y (sym e)) (search parts))
decides_more x y false e = let a = atoms₂ x y in less (search parts) (omega (arith, from_at_most (ge_of_test x y (sym e)) (search parts)))

decides_opposite : (x v : ℤ) (r : Bool) → r ≡ lt_z (x +ℤ v) (negsuc 0) → Decides (x <ℤ neg_ℤ (v +ℤ pos 1)) r
decides_opposite x v true e =
    let a = atoms₂ x v in less (search parts) (omega (arith, from_less (lt_of_test (x +ℤ v) (negsuc 0) (sym e)) (search parts)))
decides_opposite x v false e = λ h.
    let a = atoms₂ x v in omega (arith, from_less h (search parts), from_at_most (ge_of_test (x +ℤ v) (negsuc 0) (sym e)) (search parts))

-- ── which ends the set holds ──
pub next_both : (total v : ℤ) (from into r : Bool) → from ≡ true → into ≡ true → r ≡ lt_z total (pos 0) → Decides (ProvesBy total (v +ℤ pos 1) from into) r
next_both total v from into r e f g = rw (e, f) (decides_less total (pos 0) r g)

pub next_source : (total v : ℤ) (from into r : Bool) → from ≡ true → into ≡ false → r ≡ lt_z v total
    → Decides (ProvesBy total (v +ℤ pos 1) from into) (not r)
next_source total v from into r e f g = rw (e, f) (decides_more v total r g)

pub next_sink : (total v : ℤ) (from into r : Bool) → from ≡ false → into ≡ true → r ≡ lt_z (total +ℤ v) (negsuc 0)
    → Decides (ProvesBy total (v +ℤ pos 1) from into) r
next_sink total v from into r e f g = rw (e, f) (decides_opposite total v r g)

pub next_neither : (total v : ℤ) (from into r : Bool) → from ≡ false → into ≡ false → r ≡ lt_z total (pos 0)
    → Decides (ProvesBy total (v +ℤ pos 1) from into) r
next_neither total v from into r e f g = rw (e, f) (decides_less total (pos 0) r g)

pub none_same : (total : ℤ) (from into r : Bool) → from ≡ into → r ≡ lt_z total (pos 0) → Decides (NoneBy total from into) r
none_same total from into r e g =
    decides_by {P = total <ℤ pos 0} {Q = NoneBy total from into} r (λ h. (e, h)) (λ n h. n h.1) (decides_less total (pos 0) r g)

-- ── what earns what ──
pub earned : {P : Type 0} (k : ℕ) → P → Earns P k k
earned k h = inl (h, refl)

pub missed : {P : Type 0} (k : ℕ) → (P → ⊥) → Earns P k 0
missed k h = inr (h, refl)

pub earns_by : {P Q : Type 0} (k n : ℕ) → (P → Q) → (Q → P) → Earns P k n → Earns Q k n
earns_by k n f g (inl h) = inl (f h.0, h.1)
earns_by k n f g (inr h) = inr (λ q. h.0 (g q), h.1)

pub earns_at_most : {P : Type 0} (k n : ℕ) → Earns P k n → n ≤ k
earns_at_most k n (inl h) = omega (arith, h.1)
earns_at_most k n (inr h) = omega (arith, h.1)

pub earns_one : {P : Type 0} (k n m : ℕ) → Earns P k n → Earns P k m → n ≡ m
earns_one k n m (inl h) (inl g) = h.1 ∙ sym g.1
earns_one k n m (inl h) (inr g) = absurd (g.0 h.0)
earns_one k n m (inr h) (inl g) = absurd (h.0 g.0)
earns_one k n m (inr h) (inr g) = h.1 ∙ sym g.1

-- ── claim and set ──
pub judged_at_most : (largest claim : Option ℤ) (total : ℤ) (from into : Bool) (n : ℕ) → LastSixBy largest claim total from into n → n ≤ 6
judged_at_most (Some v) claim total from into n h =
    omega (arith, earns_at_most 3 h.0 h.2, earns_at_most 3 h.1 h.3, h.4)
judged_at_most None claim total from into n h = earns_at_most 6 n h

-- ── a paper's claim ──
pub claim_none : (kind : ℕ) (number : ℤ) → kind ≡ 1 → None ≡ claim_of kind number
unfolding claim_of
claim_none kind number e = ap (λ b. cond b None (Some number)) (sym (eqb_true kind 1 e))

pub claim_value : (kind : ℕ) (number : ℤ) → (kind ≡ 1 → ⊥) → Some number ≡ claim_of kind number
unfolding claim_of
claim_value kind number n = ap (λ b. cond b None (Some number)) (sym (eqb_false kind 1 n))

pub claim_decides : (v w : ℤ) (claim : Option ℤ) (r : Bool) → claim ≡ Some w → SFits w32 w → SFits w32 v → r ≡ eqb (of_z w32 w) (of_z w32 v)
    → Decides (IsValue claim v) r
claim_decides v w claim true is f g e = is ∙ ap Some (same_of_test f g (sym e))
claim_decides v w claim false is f g e = λ q. apart_of_test f g (sym e) (let same : Some w ≡ Some v = sym is ∙ q in cc)

-- ── numbers that came through their bits ──
pub of_value : (largest : Option ℤ) (v v' : ℤ) (claim : Option ℤ) (total total' : ℤ) (from into : Bool) (n : ℕ)
    → largest ≡ Some v → v' ≡ v → total' ≡ total → ValuePoints v' claim total' from into n → LastSixBy largest claim total from into n
of_value largest v v' claim total total' from into n is e f h =
    subst (λ d. LastSixBy d claim total from into n) (sym is)
    (subst (λ w. ValuePoints w claim total from into n) e (subst (λ t. ValuePoints v' claim t from into n) f h))

pub of_none : (largest claim : Option ℤ) (total total' : ℤ) (from into : Bool) (n : ℕ)
    → largest ≡ None → total' ≡ total → NonePoints claim total' from into n → LastSixBy largest claim total from into n
of_none largest claim total total' from into n is f h =
    subst (λ d. LastSixBy d claim total from into n) (sym is) (subst (λ t. NonePoints claim t from into n) f h)

pub earns_same : (v v' w w' : ℤ) (n : ℕ) → v' ≡ v → w' ≡ w → Earns (v' ≡ w') 4 n → Earns (v ≡ w) 4 n
earns_same v v' w w' n e f h = subst (λ x. Earns (x ≡ w) 4 n) e (subst (λ y. Earns (v' ≡ y) 4 n) f h)

pub same_bits : {v w : ℤ} → SFits w32 v → SFits w32 w → of_z w32 v ≡ of_z w32 w → v ≡ w
same_bits {v} {w} f g e = sym (number_of_bits v f) ∙ ap (to_z w32) e ∙ number_of_bits w g
