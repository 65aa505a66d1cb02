-- The pass that fills the levels, on its way: the faces left of the darts passed have their levels, none of them too large for the machine.
use mathlib.Core.Path.{◌≡◌, sym, ◌∙◌, ap, ap₂, subst}
use mathlib.Core.Logic.{◌⊎◌, inl, inr, ◌≢◌}
use mathlib.Core.List.{List}
use Prim.Native.Nat.{ℕ, ◌+◌, ◌*◌, ◌≤◌, ◌<◌}
use native.Mathlib.Omega.{arith}
use native.Mathlib.Decide.{ℕ_discrete}
use lib.IntN.{ℤ, pos, ◌-ℤ◌}
use lib.ListN.{length, set}
use lib.Seq.{get_or-set_same, get_or-set_other}
use mir.Syntax.{w32}
use mir.Val.{to_z, of_z, SFits}
use Rattle.integers.proofs.Laws.{sub_sub}
use Rattle.maps.specs.Dart.{rev}
use Rattle.flows.specs.Settings.{on_darts}
use Rattle.levels.specs.inner.Laying.{Crossing, Fillable, PotentialsFrom, Filled, Kept}
use Rattle.arrays.specs.At.{atℤ}
use Rattle.integers.specs.inner.Limited.{Limited}
use Rattle.arrays.specs.inner.Sizes.{most_on_sheet}
use Rattle.integers.proofs.Limits.{limited_minus, limited_more, limited_zero}
use Rattle.signed.proofs.Limits.{limited_fits, same_bits}

pub record Filling (darts : ℕ) (left order from : ℕ → ℕ) (x level : ℕ → ℤ) (i : ℕ) : Type 0 where
  pub begun : 0 < i
  pub ordered : i ≤ darts
  pub limited : (j : ℕ) → j < i → Limited (i * most_on_sheet) (level (left (order j)))
  pub right : (ρ : ℕ → ℤ) → PotentialsFrom darts left order from x ρ → (j : ℕ) → j < i → level (left (order j)) ≡ ρ (left (order j))

-- the places that the pass reads and writes
module _ {darts room : ℕ} {left order from : ℕ → ℕ} {flows : List ℤ} (ok : Fillable darts room left order from flows) where
  pub dart_in : {i d : ℕ} → i < darts → d ≡ order i → d < darts
  dart_in {i} {d} l e = omega (arith, ok.crossing.inside i l)

  pub origin_in : {i d p : ℕ} → i < darts → d ≡ order i → p ≡ from d → p < darts
  origin_in {i} {d} {p} l e o = go (ok.crossing.met i l)
    where
      go : (from (order i) ≡ order i) ⊎ ((j : ℕ) × (j < i) × (order j ≡ from (order i)) × (left (order i) ≡ left (rev (from (order i))))) → p < darts
      go (inl q) = omega (arith, ap from e, q, ok.crossing.inside i l)
      go (inr r) = omega (arith, ap from e, r.2, ok.crossing.inside r.0 (omega (arith, r.1)))

  pub face_in : {d f : ℕ} → d < darts → f ≡ left d → f < room
  face_in {d} {f} l e = omega (arith, ok.left_in d l)

pub filling_start : {darts : ℕ} {left order from : ℕ → ℕ} {x level : ℕ → ℤ} → 0 < darts → from (order 0) ≡ order 0 → level (left (order 0)) ≡ pos 0
    → Filling darts left order from x level 1
filling_start {darts} {left} {order} {from} {x} {level} some own z = record {
  begun = omega arith;
  ordered = omega arith;
  limited = λ j l. subst (Limited (1 * most_on_sheet)) (sym (at_start j l)) (limited_zero (1 * most_on_sheet));
  right = λ ρ h j l. let e : j ≡ 0 = omega arith in at_start j l ∙ sym (ap (λ k. ρ (left (order k))) e ∙ h.rooted 0 some own);
}
  where
    at_start : (j : ℕ) → j < 1 → level (left (order j)) ≡ pos 0
    at_start j l = let e : j ≡ 0 = omega arith in ap (λ k. level (left (order k))) e ∙ z

module _ {darts : ℕ} {left order from : ℕ → ℕ} (crossing : Crossing darts left order from) {x level : ℕ → ℤ} {i : ℕ}
    (ξ : Filling darts left order from x level i) where
  -- one dart more: its face has a level that is right and not too large, and no other face's level changes
  passed : {level' : ℕ → ℤ} {value : ℤ} → i < darts → Limited ((i + 1) * most_on_sheet) value
      → ((ρ : ℕ → ℤ) → PotentialsFrom darts left order from x ρ → value ≡ ρ (left (order i)))
      → level' (left (order i)) ≡ value → ((f : ℕ) → f ≢ left (order i) → level' f ≡ level f) → Filling darts left order from x level' (i + 1)
  passed {level'} {value} l value_limited value_right put keep = record {
    begun = omega arith;
    ordered = omega arith;
    limited = λ j m. lim j m (ℕ_discrete (left (order j)) (left (order i)));
    right = λ ρ h j m. rig ρ h j m (ℕ_discrete (left (order j)) (left (order i)));
  }
    where
      more : (i + 1) * most_on_sheet ≡ i * most_on_sheet + most_on_sheet
      more = omega arith

      -- the dart at j has another face than the one at i, so j is less
      earlier : (j : ℕ) → j < i + 1 → left (order j) ≢ left (order i) → j < i
      earlier j m n = go (ℕ_discrete j i)
        where
          go : Dec (j ≡ i) → j < i
          go (yes e) = absurd (n (ap (λ k. left (order k)) e))
          go (no e) = omega (arith, e)

      lim : (j : ℕ) → j < i + 1 → Dec (left (order j) ≡ left (order i)) → Limited ((i + 1) * most_on_sheet) (level' (left (order j)))
      lim j m (yes e) = subst (Limited ((i + 1) * most_on_sheet)) (sym (ap level' e ∙ put)) value_limited
      lim j m (no n) = subst (Limited ((i + 1) * most_on_sheet)) (sym (keep (left (order j)) n))
          (limited_more (omega (arith, more)) (ξ.limited j (earlier j m n)))

      rig : (ρ : ℕ → ℤ) → PotentialsFrom darts left order from x ρ → (j : ℕ) → j < i + 1 → Dec (left (order j) ≡ left (order i))
          → level' (left (order j)) ≡ ρ (left (order j))
      rig ρ h j m (yes e) = ap level' e ∙ put ∙ value_right ρ h ∙ ap ρ (sym e)
      rig ρ h j m (no n) = keep (left (order j)) n ∙ ξ.right ρ h j (earlier j m n)

  -- a dart that begins a tree: its face is at 0
  pub filling_begun : {level' : ℕ → ℤ} → i < darts → from (order i) ≡ order i → level' (left (order i)) ≡ pos 0
      → ((f : ℕ) → f ≢ left (order i) → level' f ≡ level f) → Filling darts left order from x level' (i + 1)
  filling_begun l own put keep = passed l (limited_zero ((i + 1) * most_on_sheet)) (λ ρ h. sym (h.rooted i l own)) put keep

  -- the dart that the next one was met from was passed before
  before : i < darts → from (order i) ≢ order i → (j : ℕ) × (j < i) × (order j ≡ from (order i)) × (left (order i) ≡ left (rev (from (order i))))
  before l other = go (crossing.met i l)
    where
      go : (from (order i) ≡ order i) ⊎ ((j : ℕ) × (j < i) × (order j ≡ from (order i)) × (left (order i) ≡ left (rev (from (order i)))))
          → (j : ℕ) × (j < i) × (order j ≡ from (order i)) × (left (order i) ≡ left (rev (from (order i))))
      go (inl e) = absurd (other e)
      go (inr r) = r

  from_in : i < darts → from (order i) ≢ order i → from (order i) < darts
  from_in l other = let r = before l other in omega (arith, r.2, crossing.inside r.0 (omega (arith, r.1)))

  pub known_limited : i < darts → from (order i) ≢ order i → Limited (i * most_on_sheet) (level (left (from (order i))))
  known_limited l other = let r = before l other in subst (λ p. Limited (i * most_on_sheet) (level (left p))) r.2 (ξ.limited r.0 r.1)

  pub filling_on : {level' : ℕ → ℤ} {value flow : ℤ} → i < darts → from (order i) ≢ order i → flow ≡ on_darts x (from (order i)) → Limited most_on_sheet flow
      → value ≡ level (left (from (order i))) -ℤ flow
      → level' (left (order i)) ≡ value → ((f : ℕ) → f ≢ left (order i) → level' f ≡ level f) → Filling darts left order from x level' (i + 1)
  filling_on {level'} {value} {flow} l other is-flow small is-value put keep = passed l value_limited value_right put keep
    where
      more : (i + 1) * most_on_sheet ≡ i * most_on_sheet + most_on_sheet
      more = omega arith

      value_limited : Limited ((i + 1) * most_on_sheet) value
      value_limited = subst (λ b. Limited b value) (sym more)
          (subst (Limited (i * most_on_sheet + most_on_sheet)) (sym is-value) (limited_minus (known_limited l other) small))

      -- ρ across p is ρ left of p less the flow of p
      value_right : (ρ : ℕ → ℤ) → PotentialsFrom darts left order from x ρ → value ≡ ρ (left (order i))
      value_right ρ h =
          let r = before l other in
          let p = from (order i) in
          let known : level (left p) ≡ ρ (left p) = subst (λ c. level (left c) ≡ ρ (left c)) r.2 (ξ.right ρ h r.0 r.1) in
          is-value
          ∙ ap₂ (λ a b. a -ℤ b) known (is-flow ∙ h.differences p (from_in l other)) ∙ sub_sub (ρ (left p)) (ρ (left (rev p))) ∙ ap ρ (sym r.3)

  -- when all darts are passed
  pub filled : darts ≤ i → Filled darts left order from x level
  filled over ρ h d l =
      let r = crossing.every d l in
      subst (λ c. level (left c) ≡ ρ (left c)) r.2 (ξ.right ρ h r.0 (omega (arith, r.1)))

-- a store at the face of a dart keeps the places of no dart's face
pub kept_stored : {darts : ℕ} {left : ℕ → ℕ} (before now : List ℤ) {d f : ℕ} (v : ℤ) → d < darts → f ≡ left d → Kept darts left before now
    → Kept darts left before (set now f v)
kept_stored before now {d} {f} v l is_f kept g none = get_or-set_other now f g v (pos 0) (λ e. none d l (sym is_f ∙ sym e)) ∙ kept g none

-- one step of the machine: the level at `known` less the flow fits, and storing it at `across` passes one dart
module _ {darts room : ℕ} {left order from : ℕ → ℕ} {flows : List ℤ} (ok : Fillable darts room left order from flows) (levels : List ℤ)
    {i d p known : ℕ} {flow : ℤ}
    (ξ : Filling darts left order from (atℤ flows) (atℤ levels) i) (l : i < darts) (is-d : d ≡ order i) (is-p : p ≡ from d) (is_Known : known ≡ left p)
    (is-flow : flow ≡ on_darts (atℤ flows) p) (small : Limited most_on_sheet flow) (other : p ≢ d) where
  origin_is : p ≡ from (order i)
  origin_is = is-p ∙ ap from is-d

  not_own : from (order i) ≢ order i
  not_own e = other (origin_is ∙ e ∙ sym is-d)

  read_limited : Limited (i * most_on_sheet) (atℤ levels known)
  read_limited = subst (λ f. Limited (i * most_on_sheet) (atℤ levels f)) (sym (is_Known ∙ ap left origin_is)) (known_limited ok.crossing ξ l not_own)

  fits_32 : (i * most_on_sheet < 2147483648) × (i * most_on_sheet + most_on_sheet < 2147483648)
  fits_32 = (omega (arith, ok.few), omega (arith, ok.few))

  abbrev read : ℤ
  read = to_z w32 (of_z w32 (atℤ levels known)) -ℤ to_z w32 (of_z w32 flow)

  read_is : read ≡ atℤ levels known -ℤ flow
  read_is = ap₂ (λ a b. a -ℤ b) (same_bits fits_32.0 read_limited) (same_bits (omega arith) small)

  new_limited : Limited (i * most_on_sheet + most_on_sheet) read
  new_limited = subst (Limited (i * most_on_sheet + most_on_sheet)) (sym read_is) (limited_minus read_limited small)

  pub new_fits : SFits w32 read
  new_fits = limited_fits (i * most_on_sheet + most_on_sheet) read fits_32.1 new_limited

  pub filling_stored : {across : ℕ} {result : ℤ} → length levels ≡ room → across ≡ left d → result ≡ read
      → Filling darts left order from (atℤ flows) (atℤ (set levels across (to_z w32 (of_z w32 result)))) (i + 1)
  filling_stored {across} {result} long is-across is-result =
      filling_on ok.crossing ξ l not_own (is-flow ∙ ap (on_darts (atℤ flows)) origin_is) small
      (is-result ∙ read_is ∙ ap (λ f. atℤ levels f -ℤ flow) (is_Known ∙ ap left origin_is))
      (ap (atℤ (set levels across bits)) (sym place) ∙ get_or-set_same levels across bits (pos 0) (omega (arith, long, across_in)) ∙ back)
      (λ f n. get_or-set_other levels across f bits (pos 0) (λ e. n (e ∙ place)))
    where
      bits : ℤ
      bits = to_z w32 (of_z w32 result)

      place : across ≡ left (order i)
      place = is-across ∙ ap left is-d

      across_in : across < room
      across_in = face_in ok (dart_in ok l is-d) is-across

      back : bits ≡ result
      back = same_bits fits_32.1 (subst (Limited (i * most_on_sheet + most_on_sheet)) (sym is-result) new_limited)

-- a dart that begins a tree has its face set to 0
pub filling_rooted : {darts room : ℕ} {left order from : ℕ → ℕ} {flows : List ℤ} (ok : Fillable darts room left order from flows)
    (levels : List ℤ) {i d p across : ℕ}
    → Filling darts left order from (atℤ flows) (atℤ levels) i → i < darts → d ≡ order i → p ≡ from d → p ≡ d → length levels ≡ room → across ≡ left d
    → Filling darts left order from (atℤ flows) (atℤ (set levels across (pos 0))) (i + 1)
filling_rooted {left = left} {order = order} {from = from} ok levels {i} {d} {p} {across} ξ l is-d is-p own long is-across =
    filling_begun ok.crossing ξ l (ap from (sym is-d) ∙ sym is-p ∙ own ∙ is-d)
    (ap (atℤ (set levels across (pos 0))) (sym place)
    ∙ get_or-set_same levels across (pos 0) (pos 0) (omega (arith, long, face_in ok (dart_in ok l is-d) is-across)))
    (λ f n. get_or-set_other levels across f (pos 0) (pos 0) (λ e. n (e ∙ place)))
  where
    place : across ≡ left (order i)
    place = is-across ∙ ap left is-d
