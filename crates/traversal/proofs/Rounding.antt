-- A round listed dart by dart: what is known on the way, and that it is whole when the walk is back at its first dart.
use mathlib.Core.Path.{◌≡◌, refl, sym, ◌∙◌, ap}
use mathlib.Core.Logic.{◌⊎◌, inl, inr, ◌≢◌}
use Prim.Native.Nat.{ℕ, suc, ◌+◌, ◌≤◌, ◌<◌}
use native.Mathlib.Omega.{arith}
use native.Mathlib.Decide.{ℕ_discrete}
use Rattle.maps.specs.Dart.{rev}
use Rattle.maps.specs.Orbit.{Orbit}
use Rattle.maps.proofs.Orbits.{iter_zero, iter_suc}
use Rattle.traversal.specs.inner.Mark.{unmarked}
use Rattle.traversal.specs.inner.Spread.{Added}
use Rattle.traversal.specs.inner.Forest.{Growing}
use Rattle.traversal.specs.inner.Rounds.{Rounds}
use Rattle.traversal.specs.inner.FirstCome.{Unround, astray, merged}
use Rattle.traversal.proofs.Spreading.{growing_passed}

-- the round of d is listed as far as p: every marked dart but p has its rotation marked, and every one but d is the rotation of a marked dart that is not p
pub record Rounding (darts : ℕ) (tail rotation from owner : ℕ → ℕ) (d p : ℕ) : Type 0 where
  pub first_in : d < darts
  pub inside : p < darts
  pub met : Orbit rotation d p
  pub same : tail p ≡ tail d
  pub begun : from d ≢ unmarked
  pub owned : owner (tail d) ≡ d + 1
  pub held : (y : ℕ) → y < darts → from y ≢ unmarked → (l : ℕ) × (l < darts) × (owner (tail y) ≡ l + 1) × Orbit rotation l y
  pub turns : (y : ℕ) → y < darts → from y ≢ unmarked → (y ≡ p) ⊎ ((from (rotation y) ≢ unmarked) × (tail (rotation y) ≡ tail y))
  pub marked : from p ≢ unmarked
  pub came : (y : ℕ) → y < darts → from y ≢ unmarked → (y ≡ d) ⊎ ((x : ℕ) × (x < darts) × (rotation x ≡ y) × (from x ≢ unmarked) × (x ≢ p))
  pub leaves : (v : ℕ) → owner v ≢ 0 → (e : ℕ) × (e < darts) × (tail e ≡ v) × (from e ≢ unmarked)

pub rounds_none : {darts : ℕ} {tail rotation from owner : ℕ → ℕ} → darts ≤ 1024 → ((y : ℕ) → y < 1024 → from y ≡ unmarked) → ((v : ℕ) → owner v ≡ 0)
    → Rounds darts tail rotation from owner
rounds_none few none zeros = record {
  held = λ y m h. absurd (h (none y (omega arith)));
  turns = λ y m h. absurd (h (none y (omega arith)));
  came = λ y m h. absurd (h (none y (omega arith)));
  leaves = λ v h. absurd (h (zeros v));
}

-- y was marked before d was listed, or is d
abbrev Had : (ℕ → ℕ) → (d end end' y : ℕ) → Type 0
Had from d end end' y = (from y ≢ unmarked) ⊎ ((y ≡ d) × (end < end'))

-- a mark stays
pub stay : {d origin end end' : ℕ} {from from' order order' : ℕ → ℕ} → Added d origin from from' order order' end end'
    → (y : ℕ) → from y ≢ unmarked → from' y ≢ unmarked
stay a y h e = h (sym (a.grew y h) ∙ e)

module _ {darts : ℕ} {tail rotation : ℕ → ℕ} where
  -- d is listed, and its node had no round
  pub rounding_start : {d origin end end' : ℕ} {from from' order order' owner owner' : ℕ → ℕ} → Rounds darts tail rotation from owner
      → d < darts → Added d origin from from' order order' end end' → from d ≡ unmarked → owner (tail d) ≡ 0 → owner' (tail d) ≡ d + 1
      → ((v : ℕ) → v ≢ tail d → owner' v ≡ owner v) → Rounding darts tail rotation from' owner' d d
  rounding_start {d} {origin} {end} {end'} {from} {from'} {order} {order'} {owner} {owner'} ρ l a fresh none put kept = record {
    first_in = l;
    inside = l;
    met = (0, iter_zero rotation d);
    same = refl;
    begun = a.has;
    owned = put;
    marked = a.has;
    held = λ y m h. held' y m (a.only y h);
    turns = λ y m h. turns' y m (a.only y h);
    came = λ y m h. came' y m (a.only y h);
    leaves = λ v h. leaves' v h (ℕ_discrete v (tail d));
  }
    where
      held' : (y : ℕ) → y < darts → Had from d end end' y → (l : ℕ) × (l < darts) × (owner' (tail y) ≡ l + 1) × Orbit rotation l y
      held' y m (inl h) =
          let r = ρ.held y m h in
          (r.0, r.1, kept (tail y) (λ e. omega (arith, r.2, none, ap owner e)) ∙ r.2, r.3)
      held' y m (inr e) = (d, l, ap (λ x. owner' (tail x)) e.0 ∙ put, (0, iter_zero rotation d ∙ sym e.0))

      turns' : (y : ℕ) → y < darts → Had from d end end' y → (y ≡ d) ⊎ ((from' (rotation y) ≢ unmarked) × (tail (rotation y) ≡ tail y))
      turns' y m (inl h) = let r = ρ.turns y m h in inr (stay a (rotation y) r.0, r.1)
      turns' y m (inr e) = inl e.0

      came' : (y : ℕ) → y < darts → Had from d end end' y
          → (y ≡ d) ⊎ ((x : ℕ) × (x < darts) × (rotation x ≡ y) × (from' x ≢ unmarked) × (x ≢ d))
      came' y m (inl h) = let r = ρ.came y m h in inr (r.0, r.1, r.2, stay a r.0 r.3, λ e. r.3 (ap from e ∙ fresh))
      came' y m (inr e) = inl e.0

      leaves' : (v : ℕ) → owner' v ≢ 0 → Dec (v ≡ tail d) → (e : ℕ) × (e < darts) × (tail e ≡ v) × (from' e ≢ unmarked)
      leaves' v h (yes p) = (d, l, sym p, a.has)
      leaves' v h (no p) = let r = ρ.leaves v (λ e. h (kept v p ∙ e)) in (r.0, r.1, r.2, stay a r.0 r.3)

  module _ {d p : ℕ} {from owner : ℕ → ℕ} (ρ : Rounding darts tail rotation from owner d p) where
    -- the rotation of p is listed: it leaves the same node
    pub rounding_on : {x end end' : ℕ} {from' order order' : ℕ → ℕ} → Added x p from from' order order' end end' → from x ≡ unmarked → x ≡ rotation p
        → x < darts → tail x ≡ tail d → Rounding darts tail rotation from' owner d x
    rounding_on {x} {end} {end'} {from'} a fresh is l leave = record {
      first_in = ρ.first_in;
      inside = l;
      met = met';
      same = leave;
      begun = stay a d ρ.begun;
      owned = ρ.owned;
      marked = a.has;
      held = λ y m h. held' y m (a.only y h);
      turns = λ y m h. turns' y m (a.only y h);
      came = λ y m h. came' y m (a.only y h);
      leaves = λ v h. let r = ρ.leaves v h in (r.0, r.1, r.2, stay a r.0 r.3);
    }
      where
        met' : Orbit rotation d x
        met' = let r = ρ.met in (suc r.0, iter_suc rotation r.0 d ∙ ap rotation r.1 ∙ sym is)

        held' : (y : ℕ) → y < darts → Had from x end end' y → (l : ℕ) × (l < darts) × (owner (tail y) ≡ l + 1) × Orbit rotation l y
        held' y m (inl h) = ρ.held y m h
        held' y m (inr e) = (d, ρ.first_in, ap owner (ap tail e.0 ∙ leave) ∙ ρ.owned, (met'.0, met'.1 ∙ sym e.0))

        turns' : (y : ℕ) → y < darts → Had from x end end' y → (y ≡ x) ⊎ ((from' (rotation y) ≢ unmarked) × (tail (rotation y) ≡ tail y))
        turns' y m (inr e) = inl e.0
        turns' y m (inl h) = go (ρ.turns y m h)
          where
            go : (y ≡ p) ⊎ ((from (rotation y) ≢ unmarked) × (tail (rotation y) ≡ tail y))
                → (y ≡ x) ⊎ ((from' (rotation y) ≢ unmarked) × (tail (rotation y) ≡ tail y))
            go (inl e) =
                let q : rotation y ≡ x = ap rotation e ∙ sym is in
                inr (λ z. a.has (sym (ap from' q) ∙ z), ap tail q ∙ leave ∙ sym ρ.same ∙ ap tail (sym e))
            go (inr r) = inr (stay a (rotation y) r.0, r.1)

        came' : (y : ℕ) → y < darts → Had from x end end' y
            → (y ≡ d) ⊎ ((z : ℕ) × (z < darts) × (rotation z ≡ y) × (from' z ≢ unmarked) × (z ≢ x))
        came' y m (inl h) = go (ρ.came y m h)
          where
            go : (y ≡ d) ⊎ ((z : ℕ) × (z < darts) × (rotation z ≡ y) × (from z ≢ unmarked) × (z ≢ p))
                → (y ≡ d) ⊎ ((z : ℕ) × (z < darts) × (rotation z ≡ y) × (from' z ≢ unmarked) × (z ≢ x))
            go (inl e) = inl e
            go (inr r) = inr (r.0, r.1, r.2, stay a r.0 r.3, λ e. r.3 (ap from e ∙ fresh))
        came' y m (inr e) = inr (p, ρ.inside, sym is ∙ sym e.0, stay a p ρ.marked, λ e. ρ.marked (ap from e ∙ fresh))

    -- back at d
    pub rounding_end : rotation p ≡ d → Rounds darts tail rotation from owner
    rounding_end back = record {
      held = ρ.held;
      turns = λ y m h. turns' y (ρ.turns y m h);
      came = λ y m h. came' y (ρ.came y m h);
      leaves = ρ.leaves;
    }
      where
        turns' : (y : ℕ) → (y ≡ p) ⊎ ((from (rotation y) ≢ unmarked) × (tail (rotation y) ≡ tail y))
            → (from (rotation y) ≢ unmarked) × (tail (rotation y) ≡ tail y)
        turns' y (inl e) =
            let q : rotation y ≡ d = ap rotation e ∙ back in
            (λ z. ρ.begun (sym (ap from q) ∙ z), ap tail q ∙ sym ρ.same ∙ ap tail (sym e))
        turns' y (inr r) = r

        came' : (y : ℕ) → (y ≡ d) ⊎ ((x : ℕ) × (x < darts) × (rotation x ≡ y) × (from x ≢ unmarked) × (x ≢ p))
            → (x : ℕ) × (x < darts) × (rotation x ≡ y) × (from x ≢ unmarked)
        came' y (inl e) = (p, ρ.inside, back ∙ sym e, ρ.marked)
        came' y (inr r) = (r.0, r.1, r.2, r.3)

    -- the rotation of p is marked, and is not d: two darts lead to it
    pub rounding_merged : {next : ℕ} → next ≡ rotation p → next < darts → from next ≢ unmarked → (next ≡ d → ⊥) → Unround darts tail rotation
    rounding_merged {next} is l h other = by (ρ.came next l h)
      where
        by : (next ≡ d) ⊎ ((x : ℕ) × (x < darts) × (rotation x ≡ next) × (from x ≢ unmarked) × (x ≢ p)) → Unround darts tail rotation
        by (inl e) = absurd (other e)
        by (inr r) = merged r.0 p r.1 ρ.inside r.4 (r.2 ∙ is)

    -- the rotation of p leaves another node
    pub rounding_astray : {next : ℕ} → next ≡ rotation p → (tail next ≡ tail d → ⊥) → Unround darts tail rotation
    rounding_astray is other = astray p ρ.inside (λ e. other (ap tail is ∙ e ∙ ρ.same))

-- among whole rounds the dart at the front is passed, once its reverse is listed
pub growing_turned : {darts : ℕ} {tail rotation : ℕ → ℕ} {first : ℕ} {order from owner : ℕ → ℕ} {front end trees back : ℕ}
    → Growing darts rotation first order from front end trees → Rounds darts tail rotation from owner → front < end
    → back ≡ rev (order front) → from back ≢ unmarked → Growing darts rotation first order from (front + 1) end trees
growing_turned {order = order} {from = from} {front = front} ξ ρ l e h =
    growing_passed ξ l (ρ.turns (order front) (ξ.inside front l) (ξ.marked front l)).0 (λ z. h (ap from e ∙ z))
