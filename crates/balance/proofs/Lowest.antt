-- One check for each of 0, .., n - 1, by a loop upwards: the first that holds is named, and where the loop ends none holds.
use mathlib.Core.Path.{◌≡◌, refl}
use mathlib.Core.Logic.{inl}
use mathlib.Core.List.{[], ◌∷◌}
use Prim.Native.Nat.{ℕ, ◌<◌}
use Rattle.refusals.specs.Order.{◌at◌when◌, NoneOf, FirstOf, in_turn}
use Rattle.refusals.proofs.Order.{none_in_turn, in-turn-none, first_in_turn}

module _ (n k : ℕ) (P : ℕ → Type 0) where
  pub lowest : (e p : ℕ) → e < n → ((i : ℕ) → i < e → P i → ⊥) → P e → p ≡ e → FirstOf (in_turn n (λ i. (k at i when P i) ∷ [])) k p
  unfolding FirstOf NoneOf
  lowest e p l h g q = first_in_turn n _ e k p l (λ i m. (h i m, tt)) (inl (g, refl, q))

  pub none_holds : ((i : ℕ) → i < n → P i → ⊥) → NoneOf (in_turn n (λ i. (k at i when P i) ∷ []))
  unfolding NoneOf
  none_holds h = none_in_turn n _ (λ i l. (h i l, tt))

  pub holds_none : NoneOf (in_turn n (λ i. (k at i when P i) ∷ [])) → (i : ℕ) → i < n → P i → ⊥
  unfolding NoneOf
  holds_none h i l = (in-turn-none n _ h i l).0
