-- Laws of `tabulate`: its length, its elements, and that a list is the table of its own elements.
use mathlib.Core.Path.{◌≡◌, refl, sym, ◌∙◌, ap, ap₂}
use mathlib.Core.List.{List, [], ◌∷◌, ◌++◌}
use Prim.Native.Nat.{ℕ, zero, suc, ◌≤◌, ◌<◌}
use native.Mathlib.Omega.{arith}
use native.Mathlib.Decide.{ℕ_discrete}
use lib.ListN.{length, get_or, length-append, get_or-append, get_or-eq_default}
use lib.Seq.{get_or_at, ext_get_or}
use Rattle.arrays.specs.Filled.{tabulate}

module _ {A : Type 0} where
  pub length_tabulate : (n : ℕ) (f : ℕ → A) → length (tabulate n f) ≡ n
  unfolding tabulate
  length_tabulate zero f = refl
  length_tabulate (suc n) f = length-append (tabulate n f) (f n ∷ []) ∙ omega (arith, length_tabulate n f)

  pub get_d_tabulate : (n d : ℕ) (f : ℕ → A) (z : A) → d < n → get_or (tabulate n f) d z ≡ f d
  unfolding tabulate
  get_d_tabulate zero d f z h = absurd (omega arith)
  get_d_tabulate (suc n) d f z h = go (ℕ_discrete d n) (get_d_tabulate n d f z)
    where
      go : Dec (d ≡ n) → (d < n → get_or (tabulate n f) d z ≡ f d) → get_or (tabulate n f ++ (f n ∷ [])) d z ≡ f d
      go (yes e) ih = get_or_at (tabulate n f) (f n) [] z d (length_tabulate n f ∙ sym e) ∙ ap f (sym e)
      go (no e) ih = let l : d < n = omega (arith, e) in get_or-append (tabulate n f) (f n ∷ []) z d (omega (arith, length_tabulate n f)) ∙ ih l

  pub get_d_past : (n d : ℕ) (f : ℕ → A) (z : A) → n ≤ d → get_or (tabulate n f) d z ≡ z
  get_d_past n d f z h = get_or-eq_default (tabulate n f) z (omega (arith, length_tabulate n f))

  pub tabulate_get_d : (n : ℕ) (l : List A) (z : A) → length l ≡ n → tabulate n (λ d. get_or l d z) ≡ l
  tabulate_get_d n l z e =
      let size = length_tabulate n (λ d. get_or l d z) in
      ext_get_or z (tabulate n (λ d. get_or l d z)) l (size ∙ sym e) (λ d h. get_d_tabulate n d (λ d. get_or l d z) z (omega arith))

  pub tabulate_ext : (n : ℕ) (f g : ℕ → A) → ((d : ℕ) → d < n → f d ≡ g d) → tabulate n f ≡ tabulate n g
  unfolding tabulate
  tabulate_ext zero f g h = refl
  tabulate_ext (suc n) f g h = ap₂ (λ l x. l ++ (x ∷ [])) (tabulate_ext n f g (λ d l. h d (omega arith))) (h n (omega arith))
