-- Two lists of checks that agree check by check have the same verdict. `Same` is a tool of proofs: no contract cites it.
use Prim.Native.Nat.{ℕ, zero, suc, ◌<◌}
use mathlib.Core.Path.{◌≡◌, refl, sym, ◌∙◌}
use mathlib.Core.Logic.{inl, inr}
use mathlib.Core.List.{List, [], ◌∷◌, ◌++◌}
use native.Mathlib.Omega.{arith}
use Rattle.refusals.specs.Order.{Check, ◌at◌when◌, NoneOf, FirstOf, in_turn, Judged}
use Rattle.std.specs.Prelude.{Result, Ok, Err}
use Rattle.refusals.specs.declared.Refusal.{Refusal}

-- the same numbers and places in the same order, and conditions that follow from each other
unfoldable pub Same : List Check → List Check → Type 0
Same [] [] = Unit
Same [] (d ∷ ds) = ⊥
Same (c ∷ cs) [] = ⊥
Same ((j at q when P) ∷ cs) ((k at p when Q) ∷ ds) = (j ≡ k) × (q ≡ p) × (P → Q) × (Q → P) × Same cs ds

-- ── made ──
pub same_refl : (cs : List Check) → Same cs cs
unfolding Same
same_refl [] = tt
same_refl ((j at q when P) ∷ cs) = (refl, refl, (λ h. h), (λ h. h), same_refl cs)

pub same_sym : (cs ds : List Check) → Same cs ds → Same ds cs
unfolding Same
same_sym [] [] s = tt
same_sym [] (d ∷ ds) s = absurd s
same_sym (c ∷ cs) [] s = absurd s
same_sym ((j at q when P) ∷ cs) ((k at p when Q) ∷ ds) s = (sym s.0, sym s.1, s.3, s.2, same_sym cs ds s.4)

pub same_trans : (cs ds es : List Check) → Same cs ds → Same ds es → Same cs es
unfolding Same
same_trans [] [] es s t = t
same_trans [] (d ∷ ds) es s t = absurd s
same_trans (c ∷ cs) [] es s t = absurd s
same_trans (c ∷ cs) (d ∷ ds) [] s t = absurd t
same_trans ((j at q when P) ∷ cs) ((k at p when Q) ∷ ds) ((l at r when R) ∷ es) s t =
    (s.0 ∙ t.0, s.1 ∙ t.1, (λ h. t.2 (s.2 h)), (λ h. s.3 (t.3 h)), same_trans cs ds es s.4 t.4)

pub same_append : (cs ds es fs : List Check) → Same cs ds → Same es fs → Same (cs ++ es) (ds ++ fs)
unfolding Same
same_append [] [] es fs s t = t
same_append [] (d ∷ ds) es fs s t = absurd s
same_append (c ∷ cs) [] es fs s t = absurd s
same_append ((j at q when P) ∷ cs) ((k at p when Q) ∷ ds) es fs s t = (s.0, s.1, s.2, s.3, same_append cs ds es fs s.4 t)

pub same_in_turn : (n : ℕ) (f g : ℕ → List Check) → ((i : ℕ) → i < n → Same (f i) (g i)) → Same (in_turn n f) (in_turn n g)
unfolding Same in_turn
same_in_turn zero f g s = tt
same_in_turn (suc n) f g s = same_append (in_turn n f) (in_turn n g) (f n) (g n) (same_in_turn n f g (λ i l. s i (omega arith))) (s n (omega arith))

-- ── used ──
pub none_same : (cs ds : List Check) → Same cs ds → NoneOf cs → NoneOf ds
unfolding Same NoneOf
none_same [] [] s h = tt
none_same [] (d ∷ ds) s h = absurd s
none_same (c ∷ cs) [] s h = tt
none_same ((j at q when P) ∷ cs) ((k at p when Q) ∷ ds) s h = ((λ x. h.0 (s.3 x)), none_same cs ds s.4 h.1)

pub first_same : (cs ds : List Check) (n o : ℕ) → Same cs ds → FirstOf cs n o → FirstOf ds n o
unfolding Same FirstOf
first_same [] ds n o s h = absurd h
first_same (c ∷ cs) [] n o s h = absurd s
first_same ((j at q when P) ∷ cs) ((k at p when Q) ∷ ds) n o s (inl h) = inl (s.2 h.0, h.1 ∙ s.0, h.2 ∙ s.1)
first_same ((j at q when P) ∷ cs) ((k at p when Q) ∷ ds) n o s (inr h) = inr ((λ x. h.0 (s.3 x)), first_same cs ds n o s.4 h.1)

pub judged_same : (cs ds : List Check) (v : Result Unit Refusal) → Same cs ds → Judged cs v → Judged ds v
judged_same cs ds (Ok done) s h = none_same cs ds s h
judged_same cs ds (Err r) s h = first_same cs ds r.number r.place s h
