-- A drawing with the forward capacity of one edge replaced: its capacities grow with it, so what is carried stays carried; it is drawn as the drawing was; and
-- an array whose place of that dart is stored holds its capacities.
use mathlib.Core.Path.{◌≡◌, refl, sym, ◌∙◌, ap, fun_ext}
use mathlib.Core.Logic.{◌≢◌}
use mathlib.Core.Bool.{Bool, true, false, cond}
use mathlib.Core.List.{List}
use Prim.Native.Nat.{ℕ, ◌*◌, ◌<◌}
use native.Mathlib.Omega.{arith}
use native.Mathlib.Decide.{ℕ_discrete}
use lib.Dec.{eqb}
use lib.ListN.{length, set}
use lib.Seq.{get_or-set_same, get_or-set_other}
use lib.IntN.{ℤ, pos}
use lib.Signed.{◌≤ℤ◌}
use Rattle.integers.specs.inner.Limited.{Limited}
use Rattle.integers.proofs.Omega.{atoms₁, parts, at_most}
use Rattle.integers.proofs.Laws.{le_trans, le_add}
use Rattle.integers.proofs.Tests.{eqb_true, eqb_eq, eqb_false}
use Rattle.maps.specs.Dart.{rev}
use Rattle.maps.specs.Map.{Map, darts}
use Rattle.flows.specs.Settings.{Carries}
use Rattle.arrays.specs.At.{atℤ}
use Rattle.arrays.specs.inner.Drawn.{Drawn}
use Rattle.raising.specs.Raised.{raised}

pub le_same : (x : ℤ) → x ≤ℤ x
le_same x = let a = atoms₁ x in at_most (search parts) (omega arith)

-- ── the capacities grow with the limit ──
pub raised_grows : (c : ℕ → ℤ) (e : ℕ) {v w : ℤ} → v ≤ℤ w → (d : ℕ) → raised c e v d ≤ℤ raised c e w d
raised_grows c e {v} {w} l d = by (eqb d (2 * e))
  where
    by : (b : Bool) → cond b v (c d) ≤ℤ cond b w (c d)
    by true = l
    by false = le_same (c d)

-- and with the present one or more they are at least the drawing's
pub raised_least : (c : ℕ → ℤ) (e : ℕ) {v : ℤ} → c (2 * e) ≤ℤ v → (d : ℕ) → c d ≤ℤ raised c e v d
raised_least c e {v} l d = by (eqb d (2 * e)) (λ q. rw (eqb_eq d (2 * e) q) l)
  where
    by : (b : Bool) → (b ≡ true → c d ≤ℤ v) → c d ≤ℤ cond b v (c d)
    by true h = h refl
    by false h = le_same (c d)

-- with the present one they are the drawing's
pub raised_present : (c : ℕ → ℤ) (e : ℕ) → raised c e (c (2 * e)) ≡ c
raised_present c e = fun_ext (λ d. by d (eqb d (2 * e)) (λ q. ap c (sym (eqb_eq d (2 * e) q))))
  where
    by : (d : ℕ) (b : Bool) → (b ≡ true → c (2 * e) ≡ c d) → cond b (c (2 * e)) (c d) ≡ c d
    by d true h = h refl
    by d false h = refl

-- a greater limit admits at least as much
pub raised_more : {𝓜 : Map} (c : ℕ → ℤ) (e : ℕ) {s t : ℕ} {value v w : ℤ} → v ≤ℤ w → (x : ℕ → ℤ)
    → Carries 𝓜 (raised c e v) s t value x → Carries 𝓜 (raised c e w) s t value x
raised_more c e l x h = record {
  antisymmetric = h.antisymmetric;
  within = λ d m. le_trans (h.within d m) (raised_grows c e l d);
  balanced = h.balanced;
  carries = h.carries;
}

-- ── the drawing stays one that the solver takes ──
pub raised_drawn : {𝓜 : Map} {left : ℕ → ℕ} {faces outer : ℕ} {c : ℕ → ℤ} (e : ℕ) {v : ℤ} → c (2 * e) ≤ℤ v → v ≤ℤ pos 1000000
    → Drawn 𝓜 left faces outer c → Drawn 𝓜 left faces outer (raised c e v)
raised_drawn {𝓜} {c = c} e {v} from most h = record {
  plane = h.plane;
  few_nodes = h.few_nodes;
  few_edges = h.few_edges;
  left_is = h.left_is;
  counted = h.counted;
  outer_in = h.outer_in;
  small = λ d l. small d l;
  pairs = λ d l. le_trans (h.pairs d l) (le_add (raised_least c e from d) (raised_least c e from (rev d)));
}
  where
    small : (d : ℕ) → d < darts 𝓜 → Limited 2000000 (raised c e v d)
    small d l = record { low = le_trans (h.small d l).low (raised_least c e from d); high = by (eqb d (2 * e)) }
      where
        by : (b : Bool) → cond b v (c d) ≤ℤ pos 2000000
        by true = le_trans most (at_most (search parts) (omega arith))
        by false = (h.small d l).high

-- ── an array whose place of the forward dart is stored ──
-- two arrays that agree at every other place
abbrev pub Elsewhere : (e : ℕ) → List ℤ → List ℤ → Type 0
Elsewhere e now old = (d : ℕ) → d ≢ 2 * e → atℤ now d ≡ atℤ old d

module _ (e : ℕ) (now old : List ℤ) (same : Elsewhere e now old) (v : ℤ) where
  pub stored_elsewhere : Elsewhere e (set now (2 * e) v) old
  stored_elsewhere d n = get_or-set_other now (2 * e) d v (pos 0) n ∙ same d n

  pub stored : 2 * e < length now → atℤ (set now (2 * e) v) ≡ raised (atℤ old) e v
  stored l = fun_ext (λ d. by d (ℕ_discrete d (2 * e)))
    where
      by : (d : ℕ) → Dec (d ≡ 2 * e) → atℤ (set now (2 * e) v) d ≡ cond (eqb d (2 * e)) v (atℤ old d)
      by d (yes q) = rw (q, eqb_true (2 * e) (2 * e) refl) (get_or-set_same now (2 * e) v (pos 0) l)
      by d (no q) = stored_elsewhere d q ∙ (rw (eqb_false d (2 * e) q))
