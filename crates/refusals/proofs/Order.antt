-- Laws of checks in order: lists joined, lists in turn, one verdict only, phases one after another, and what a test said.
use Prim.Native.Nat.{ℕ, zero, suc, ◌<◌}
use mathlib.Core.Path.{◌≡◌, refl, sym, ◌∙◌, ap₂}
use mathlib.Core.Logic.{◌⊎◌, inl, inr}
use mathlib.Core.Bool.{Bool, true, false}
use mathlib.Core.List.{List, [], ◌∷◌, ◌++◌}
use native.Mathlib.Omega.{arith}
use native.Mathlib.Decide.{ℕ_discrete}
use Rattle.refusals.specs.Order.{Check, ◌at◌when◌, NoneOf, FirstOf, in_turn, Judged, Decides}
use Rattle.std.specs.Prelude.{Result, Ok, Err}
use Rattle.refusals.specs.declared.Refusal.{Refusal}
use Rattle.refusals.specs.Refused.{refused}

-- ── two lists joined ──
pub none_append : (xs ys : List Check) → NoneOf xs → NoneOf ys → NoneOf (xs ++ ys)
unfolding NoneOf
none_append [] ys h g = g
none_append ((j at q when P) ∷ xs) ys h g = (h.0, none_append xs ys h.1 g)

pub append_none : (xs ys : List Check) → NoneOf (xs ++ ys) → NoneOf xs × NoneOf ys
unfolding NoneOf
append_none [] ys h = (tt, h)
append_none ((j at q when P) ∷ xs) ys h = let r = append_none xs ys h.1 in ((h.0, r.0), r.1)

pub first_left : (xs ys : List Check) (k p : ℕ) → FirstOf xs k p → FirstOf (xs ++ ys) k p
unfolding FirstOf
first_left [] ys k p h = absurd h
first_left ((j at q when P) ∷ xs) ys k p (inl h) = inl h
first_left ((j at q when P) ∷ xs) ys k p (inr h) = inr (h.0, first_left xs ys k p h.1)

pub first_right : (xs ys : List Check) (k p : ℕ) → NoneOf xs → FirstOf ys k p → FirstOf (xs ++ ys) k p
unfolding FirstOf NoneOf
first_right [] ys k p h g = g
first_right ((j at q when P) ∷ xs) ys k p h g = inr (h.0, first_right xs ys k p h.1 g)

pub append_first : (xs ys : List Check) (k p : ℕ) → FirstOf (xs ++ ys) k p → FirstOf xs k p ⊎ (NoneOf xs × FirstOf ys k p)
unfolding FirstOf NoneOf
append_first [] ys k p h = inr (tt, h)
append_first ((j at q when P) ∷ xs) ys k p (inl h) = inl (inl h)
append_first ((j at q when P) ∷ xs) ys k p (inr h) = go (append_first xs ys k p h.1)
  where
    go : FirstOf xs k p ⊎ (NoneOf xs × FirstOf ys k p) → ((P × (k ≡ j) × (p ≡ q)) ⊎ ((P → ⊥) × FirstOf xs k p)) ⊎ (((P → ⊥) × NoneOf xs) × FirstOf ys k p)
    go (inl g) = inl (inr (h.0, g))
    go (inr g) = inr ((h.0, g.0), g.1)

-- ── each of 0, .., n - 1 in turn ──
pub none_in_turn : (n : ℕ) (f : ℕ → List Check) → ((i : ℕ) → i < n → NoneOf (f i)) → NoneOf (in_turn n f)
unfolding in_turn NoneOf
none_in_turn zero f h = tt
none_in_turn (suc n) f h = none_append (in_turn n f) (f n) (none_in_turn n f (λ i l. h i (omega arith))) (h n (omega arith))

pub in-turn-none : (n : ℕ) (f : ℕ → List Check) → NoneOf (in_turn n f) → (i : ℕ) → i < n → NoneOf (f i)
unfolding in_turn
in-turn-none zero f h i l = absurd (omega arith)
in-turn-none (suc n) f h i l = go (append_none (in_turn n f) (f n) h) (ℕ_discrete i n) (in-turn-none n f)
  where
    go : NoneOf (in_turn n f) × NoneOf (f n) → Dec (i ≡ n) → (NoneOf (in_turn n f) → (i : ℕ) → i < n → NoneOf (f i)) → NoneOf (f i)
    go r (yes e) ih = rw e r.1
    go r (no e) ih = ih r.0 i (omega (arith, e))

pub first_in_turn : (n : ℕ) (f : ℕ → List Check) (e k p : ℕ) → e < n → ((i : ℕ) → i < e → NoneOf (f i)) → FirstOf (f e) k p → FirstOf (in_turn n f) k p
unfolding in_turn
first_in_turn zero f e k p l h g = absurd (omega arith)
first_in_turn (suc n) f e k p l h g = go (ℕ_discrete e n) (first_in_turn n f e k p)
  where
    go : Dec (e ≡ n) → (e < n → ((i : ℕ) → i < e → NoneOf (f i)) → FirstOf (f e) k p → FirstOf (in_turn n f) k p) → FirstOf (in_turn n f ++ f n) k p
    go (yes q) r = first_right (in_turn n f) (f n) k p (none_in_turn n f (λ i m. h i (omega arith))) (rw q at g)
    go (no q) r = first_left (in_turn n f) (f n) k p (r (omega (arith, q)) h g)

-- the first that holds is of some e, and of none lower
pub in-turn-first : (n : ℕ) (f : ℕ → List Check) (k p : ℕ) → FirstOf (in_turn n f) k p → (e : ℕ) × (e < n) × ((i : ℕ) → i < e → NoneOf (f i)) × FirstOf (f e) k
    p
unfolding in_turn FirstOf
in-turn-first zero f k p h = absurd h
in-turn-first (suc n) f k p h = go (append_first (in_turn n f) (f n) k p h) (in-turn-first n f k p)
  where
    go : FirstOf (in_turn n f) k p ⊎ (NoneOf (in_turn n f) × FirstOf (f n) k p)
        → (FirstOf (in_turn n f) k p → (e : ℕ) × (e < n) × ((i : ℕ) → i < e → NoneOf (f i)) × FirstOf (f e) k p)
        → (e : ℕ) × (e < suc n) × ((i : ℕ) → i < e → NoneOf (f i)) × FirstOf (f e) k p
    go (inl g) ih = let r = ih g in (r.0, omega (arith, r.1), r.2, r.3)
    go (inr g) ih = (n, omega arith, in-turn-none n f g.0, g.1)

-- ── one verdict only ──
pub first_none : (cs : List Check) (k p : ℕ) → FirstOf cs k p → NoneOf cs → ⊥
unfolding FirstOf NoneOf
first_none [] k p h g = h
first_none ((j at q when P) ∷ cs) k p (inl h) g = g.0 h.0
first_none ((j at q when P) ∷ cs) k p (inr h) g = first_none cs k p h.1 g.1

pub first_one : (cs : List Check) (j q k p : ℕ) → FirstOf cs j q → FirstOf cs k p → (j ≡ k) × (q ≡ p)
unfolding FirstOf
first_one [] j q k p h g = absurd h
first_one ((i at o when P) ∷ cs) j q k p (inl h) (inl g) = (h.1 ∙ sym g.1, h.2 ∙ sym g.2)
first_one ((i at o when P) ∷ cs) j q k p (inl h) (inr g) = absurd (g.0 h.0)
first_one ((i at o when P) ∷ cs) j q k p (inr h) (inl g) = absurd (h.0 g.0)
first_one ((i at o when P) ∷ cs) j q k p (inr h) (inr g) = first_one cs j q k p h.1 g.1

pub judged_one : (cs : List Check) (v w : Result Unit Refusal) → Judged cs v → Judged cs w → v ≡ w
judged_one cs (Ok d) (Ok e) h g = refl
judged_one cs (Ok d) (Err r) h g = absurd (first_none cs r.number r.place g h)
judged_one cs (Err r) (Ok d) h g = absurd (first_none cs r.number r.place h g)
judged_one cs (Err r) (Err t) h g = let e = first_one cs r.number r.place t.number t.place h g in ap₂ refused e.0 e.1

-- ── phases: a refusal of the first stands, and after one that passed the next one's answer does ──
pub judged_left : (xs ys : List Check) (k p : ℕ) → Judged xs (refused k p) → Judged (xs ++ ys) (refused k p)
judged_left = first_left

pub judged_right : (xs ys : List Check) (v : Result Unit Refusal) → NoneOf xs → Judged ys v → Judged (xs ++ ys) v
judged_right xs ys (Ok done) h g = none_append xs ys h g
judged_right xs ys (Err r) h g = first_right xs ys r.number r.place h g

-- ── what a test said ──
pub said_yes : {P : Type 0} {b : Bool} → Decides P b → b ≡ true → P
said_yes h e = rw e at h

pub said_no : {P : Type 0} {b : Bool} → Decides P b → b ≡ false → P → ⊥
said_no h e = rw e at h

pub neither : {A B : Type 0} → (A → ⊥) → (B → ⊥) → A ⊎ B → ⊥
neither f g (inl a) = f a
neither f g (inr b) = g b
