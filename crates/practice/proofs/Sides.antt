-- The round of sides at a node. Which sides are present is four tests, so each law is a test over sixteen nodes and two sides, computed once.
use mathlib.Core.Path.{◌≡◌, refl, sym, ◌∙◌, ap}
use mathlib.Core.Logic.{◌⊎◌, inl, inr}
use mathlib.Core.Bool.{Bool, true, false, cond, not, ◌&&◌, ◌||◌}
use Prim.Native.Nat.{ℕ, zero, suc}
use lib.Dec.{eqb}
use Rattle.integers.proofs.Tests.{and_both, implied, eqb_eq, eqb_true, not_true}
use Rattle.practice.specs.Side.{turn, next}
use Rattle.practice.specs.declared.Side.{Side}
use Rattle.practice.specs.declared.Side.TheVariants.{North, East, South, West}

-- the sides that four tests say are present
unfoldable pub having : Bool → Bool → Bool → Bool → Side → Bool
having n e s w North = n
having n e s w East = e
having n e s w South = s
having n e s w West = w

-- the next side the other way round
unfoldable pub back : Side → Side
back North = West
back East = North
back South = East
back West = South

-- ── sides told apart by their number ──
unfoldable index : Side → ℕ
index North = 0
index East = 1
index South = 2
index West = 3

-- the side of a number
unfoldable side : ℕ → Side
side zero = North
side (suc zero) = East
side (suc (suc zero)) = South
side (suc (suc (suc n))) = West

side_index : (x : Side) → side (index x) ≡ x
unfolding side index
side_index North = refl
side_index East = refl
side_index South = refl
side_index West = refl

unfoldable same : Side → Side → Bool
same x y = eqb (index x) (index y)

same_eq : (x y : Side) → same x y ≡ true → x ≡ y
unfolding same
same_eq x y e = sym (side_index x) ∙ ap side (eqb_eq (index x) (index y) e) ∙ side_index y

same_refl : (x : Side) → same x x ≡ true
unfolding same
same_refl x = eqb_true (index x) (index x) refl

-- so many turns from a side
unfoldable pub turns : (Side → Side) → ℕ → Side → Side
turns f zero s = s
turns f (suc j) s = f (turns f j s)

-- ── a test at every node and two sides of it ──
unfoldable both : (Bool → Bool) → Bool
both t = t true && t false

unfoldable each : (Side → Bool) → Bool
each t = t North && (t East && (t South && t West))

at_bool : (t : Bool → Bool) → both t ≡ true → (b : Bool) → t b ≡ true
unfolding both
at_bool t h true = (and_both (t true) (t false) h).0
at_bool t h false = (and_both (t true) (t false) h).1

at_side : (t : Side → Bool) → each t ≡ true → (s : Side) → t s ≡ true
unfolding each
at_side t h North = (and_both (t North) (t East && (t South && t West)) h).0
at_side t h East = (and_both (t East) (t South && t West) (and_both (t North) (t East && (t South && t West)) h).1).0
at_side t h South = (and_both (t South) (t West) (and_both (t East) (t South && t West) (and_both (t North) (t East && (t South && t West)) h).1).1).0
at_side t h West = (and_both (t South) (t West) (and_both (t East) (t South && t West) (and_both (t North) (t East && (t South && t West)) h).1).1).1

unfoldable everywhere : ((Side → Bool) → Side → Side → Bool) → Bool
everywhere t = both (λ n. both (λ e. both (λ s. both (λ w. each (λ x. each (λ y. t (having n e s w) x y))))))

at : (t : (Side → Bool) → Side → Side → Bool) → everywhere t ≡ true → (n e s w : Bool) (x y : Side) → t (having n e s w) x y ≡ true
unfolding everywhere
at t h n e s w x y =
    at_side (λ y. t (having n e s w) x y)
    (at_side (λ x. each (λ y. t (having n e s w) x y))
    (at_bool (λ w. each (λ x. each (λ y. t (having n e s w) x y)))
    (at_bool (λ s. both (λ w. each (λ x. each (λ y. t (having n e s w) x y))))
    (at_bool (λ e. both (λ s. both (λ w. each (λ x. each (λ y. t (having n e s w) x y)))))
    (at_bool (λ n. both (λ e. both (λ s. both (λ w. each (λ x. each (λ y. t (having n e s w) x y)))))) h n) e) s) w) x) y

one_of : (a b : Bool) → a || b ≡ true → (a ≡ true) ⊎ (b ≡ true)
one_of true b h = inl refl
one_of false b h = inr h

-- the corner between a side and the next one, where both are present: its number, else 0
abbrev pub corner : (Side → Bool) → (Side → ℕ) → Side → ℕ
corner present cell x = cond (present x && present (turn x)) (cell x) 0

module _ (n e s w : Bool) where
  abbrev p : Side → Bool
  p = having n e s w

  -- the next side that is present is present
  pub next_present : (x : Side) → p x ≡ true → p (next p x) ≡ true
  unfolding everywhere both each having next turn
  next_present x h = implied (p x) (at (λ q x y. not (q x) || q (next q x)) refl n e s w x x) h

  -- no two sides have one next
  pub next_apart : (x y : Side) → p x ≡ true → p y ≡ true → next p x ≡ next p y → x ≡ y
  unfolding everywhere both each having next turn same index
  next_apart x y hx hy h =
      same_eq x y
      (implied (p x && (p y && same (next p x) (next p y))) (at (λ q x y. not (q x && (q y && same (next q x) (next q y))) || same x y) refl n e s w x y)
      (rw (hx, hy, h) (same_refl (next p y))))

  -- and at most three turns lead from one to any other
  pub one_round : (x y : Side) → p x ≡ true → p y ≡ true → (j : ℕ) × (turns (next p) j x ≡ y)
  unfolding everywhere both each having next turn same index turns
  one_round x y hx hy = go (one_of near far found)
    where
      near : Bool
      near = same x y || same (next p x) y

      far : Bool
      far = same (next p (next p x)) y || same (next p (next p (next p x))) y

      found : near || far ≡ true
      found =
          implied (p x && p y)
          (at (λ q x y. not (q x && q y)
          || ((same x y || same (next q x) y) || (same (next q (next q x)) y || same (next q (next q (next q x))) y))) refl n e s w x y)
          (rw (hx, hy))

      few : (same x y ≡ true) ⊎ (same (next p x) y ≡ true) → (j : ℕ) × (turns (next p) j x ≡ y)
      few (inl h) = (0, same_eq x y h)
      few (inr h) = (1, same_eq (next p x) y h)

      more : (same (next p (next p x)) y ≡ true) ⊎ (same (next p (next p (next p x))) y ≡ true) → (j : ℕ) × (turns (next p) j x ≡ y)
      more (inl h) = (2, same_eq (next p (next p x)) y h)
      more (inr h) = (3, same_eq (next p (next p (next p x))) y h)

      go : (near ≡ true) ⊎ (far ≡ true) → (j : ℕ) × (turns (next p) j x ≡ y)
      go (inl h) = few (one_of (same x y) (same (next p x) y) h)
      go (inr h) = more (one_of (same (next p (next p x)) y) (same (next p (next p (next p x))) y) h)

  -- the corner before the next side that is present is the corner behind this one, or both are 0
  pub corners : (cell : Side → ℕ) (x : Side) → p x ≡ true → corner p cell (back (next p x)) ≡ corner p cell x
  unfolding everywhere both each having next turn same index back
  corners cell x hx = go (one_of (same (back (next p x)) x) none found)
    where
      none : Bool
      none = not (p x && p (turn x)) && not (p (back (next p x)) && p (turn (back (next p x))))

      found : same (back (next p x)) x || none ≡ true
      found =
          implied (p x)
          (at (λ q x y. not (q x)
          || (same (back (next q x)) x || (not (q x && q (turn x)) && not (q (back (next q x)) && q (turn (back (next q x))))))) refl n e s w x x) hx

      zero_at : (y : Side) → not (p y && p (turn y)) ≡ true → corner p cell y ≡ 0
      zero_at y h = rw (not_true (p y && p (turn y)) h)

      go : (same (back (next p x)) x ≡ true) ⊎ (none ≡ true) → corner p cell (back (next p x)) ≡ corner p cell x
      go (inl h) = ap (corner p cell) (same_eq (back (next p x)) x h)
      go (inr h) =
          let q = and_both (not (p x && p (turn x))) (not (p (back (next p x)) && p (turn (back (next p x))))) h in
          zero_at (back (next p x)) q.1 ∙ sym (zero_at x q.0)
