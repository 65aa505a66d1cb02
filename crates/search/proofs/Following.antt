-- A face follows its parent, as the code comes by it: p is the parent of y, w the face across it.
use mathlib.Core.Path.{◌≡◌, refl, sym, ◌∙◌, ap, subst}
use mathlib.Core.Bool.{Bool, true, false}
use mathlib.Core.List.{List}
use Prim.Native.Nat.{ℕ}
use lib.ListN.{set}
use lib.IntN.{ℤ}
use Rattle.arrays.specs.At.{at, atℤ}
use Rattle.arrays.specs.Maps.{right_of}
use Rattle.search.specs.Level.{HasLevel, far}
use Rattle.search.specs.Queue.{Pushed}
use Rattle.search.specs.Moves.{Relaxed}
use Rattle.search.specs.Configuration.{Tables, tables_of}
use Rattle.search.specs.Straightening.{Follows, leaves, keeps, falls}

module _ (lefts : List ℕ) (lengths : List ℤ) (t : Tables) (y p w : ℕ) (p-is : p ≡ at t.parents y) (w_is : w ≡ right_of lefts p) where
  w_at : w ≡ right_of lefts (at t.parents y)
  w_at = w_is ∙ ap (right_of lefts) p-is

  there : (ρ : List ℤ) (parents : List ℕ) (b c : Bool) → b ≡ c → Relaxed lefts lengths t.potentials t.parents ρ parents w p b
      → Relaxed lefts lengths t.potentials t.parents ρ parents (right_of lefts (at t.parents y)) (at t.parents y) c
  there ρ parents b c e r =
      subst (λ x. Relaxed lefts lengths t.potentials t.parents ρ parents x (at t.parents y) c) w_at
      (subst (λ x. Relaxed lefts lengths t.potentials t.parents ρ parents w x c) p-is
      (subst (Relaxed lefts lengths t.potentials t.parents ρ parents w p) e r))

  has_there : HasLevel (atℤ t.potentials) w → HasLevel (atℤ t.potentials) (right_of lefts (at t.parents y))
  has_there h e = h (ap (atℤ t.potentials) w_at ∙ e)

  pub follow_leaves : atℤ t.potentials w ≡ far
      → Follows lefts lengths y t (tables_of t.potentials (set t.parents y 1024) t.waiting t.queue t.last)
  follow_leaves e = leaves (ap (atℤ t.potentials) (sym w_at) ∙ e)

  pub follow_keeps : HasLevel (atℤ t.potentials) w → (ρ : List ℤ) (parents : List ℕ) (b : Bool) → b ≡ false
      → Relaxed lefts lengths t.potentials t.parents ρ parents w p b
      → Follows lefts lengths y t (tables_of ρ parents t.waiting t.queue t.last)
  follow_keeps h ρ parents b e r =
      let k = there ρ parents b false e r in
      rw (k.0, k.1) (keeps (has_there h) (refl, refl, k.2))

  pub follow_falls : HasLevel (atℤ t.potentials) w → (u : Tables) (b : Bool) → b ≡ true
      → Relaxed lefts lengths t.potentials t.parents u.potentials u.parents w p b
      → Pushed t.waiting t.queue u.waiting u.queue y t.last u.last → Follows lefts lengths y t u
  follow_falls h u b e r q = falls (has_there h) (there u.potentials u.parents b true e r) q
