-- The walk round a face lays the reverse of each dart that it leaves; once round, it has laid them all.
use mathlib.Core.Path.{◌≡◌, refl, sym, ◌∙◌, ap}
use mathlib.Core.Logic.{◌≢◌}
use Prim.Native.Nat.{ℕ, suc, ◌+◌, ◌*◌, ◌-◌, ◌≤◌, ◌<◌}
use native.Mathlib.Omega.{arith}
use native.Mathlib.Decide.{ℕ_discrete}
use Rattle.maps.specs.Dart.{rev}
use Rattle.maps.specs.Orbit.{iter, Orbit, Permutes}
use Rattle.maps.proofs.Darts.{rev_in, rev_rev}
use Rattle.maps.proofs.Orbits.{iter_in}
use Rattle.grouping.specs.inner.InRounds.{Rounded}
use Rattle.rotations.specs.inner.Laying.{Laid}
use Rattle.rotations.proofs.Trail.{wrap}

-- the reverses of the first k places from `start` on are laid, the first of them right before `end`, each further one before it
pub record Laying (next before after : ℕ → ℕ) (start end k begin : ℕ) : Type 0 where
  pub counted : begin + k ≡ end
  pub kept : (i : ℕ) → end ≤ i → after i ≡ before i
  pub lays : (i j : ℕ) → i < k → j + suc i ≡ end → after j ≡ rev (iter next i start)

pub laying_none : (next before : ℕ → ℕ) (start end : ℕ) → Laying next before before start end 0 end
laying_none next before start end = record { counted = omega arith; kept = λ i l. refl; lays = λ i j l e. absurd (omega arith) }

module _ {next before after : ℕ → ℕ} {start end k begin : ℕ} (λ₀ : Laying next before after start end k begin) where
  -- the place that the walk stands at is laid
  pub laying_on : {x begin' : ℕ} (after' : ℕ → ℕ) → begin' + 1 ≡ begin → iter next k start ≡ x → after' begin' ≡ rev x
      → ((i : ℕ) → i ≢ begin' → after' i ≡ after i) → Laying next before after' start end (suc k) begin'
  laying_on {x} {begin'} after' one here put rest = record {
    counted = omega (arith, λ₀.counted, one);
    kept = λ i l. rest i (λ e. omega (arith, e, λ₀.counted, one)) ∙ λ₀.kept i l;
    lays = λ i j l e. each i j l e (ℕ_discrete i k);
  }
    where
      each : (i j : ℕ) → i < suc k → j + suc i ≡ end → Dec (i ≡ k) → after' j ≡ rev (iter next i start)
      each i j l e (yes p) =
          let q : j ≡ begin' = omega (arith, p, e, one, λ₀.counted) in
          ap after' q ∙ put ∙ ap rev (sym here ∙ ap (λ m. iter next m start) (sym p))
      each i j l e (no p) = rest j (λ q. omega (arith, e, q, p, l, one, λ₀.counted)) ∙ λ₀.lays i j (omega (arith, p)) e

-- once round
pub laying_end : (edges : ℕ) {next before after : ℕ → ℕ} {start end k begin : ℕ} → Permutes (2 * edges) next → start < 2 * edges
    → iter next (suc k) start ≡ start → Laying next before after start end (suc k) begin → Laid (2 * edges) next before after start begin end
laying_end edges {next} {before} {after} {start} {end} {k} {begin} π inside round λ₁ = record {
  some = omega (arith, λ₁.counted);
  kept = λ₁.kept;
  has = has';
  holds = λ j a b. holds' j (end - suc j) (omega arith) (omega (arith, λ₁.counted));
}
  where
    has' : (y : ℕ) → Orbit next start y → (j : ℕ) × (begin ≤ j) × (j < end) × (after j ≡ rev y)
    has' y o =
        let r = wrap next start k round o.0 in
        let c = λ₁.counted in (
          end - suc r.0,
          omega (arith, r.1, c),
          omega (arith, r.1, c),
          λ₁.lays r.0 (end - suc r.0) r.1 (omega (arith, r.1, c)) ∙ ap rev (sym r.2 ∙ o.1),
        )

    holds' : (j i : ℕ) → j + suc i ≡ end → i < suc k → (after j < 2 * edges) × Orbit next start (rev (after j))
    holds' j i e l =
        let is = λ₁.lays i j l e in
        (omega (arith, is, rev_in edges (iter next i start) (iter_in π i start inside)), (i, sym (rev_rev (iter next i start)) ∙ ap rev (sym is)))

-- the same, place by place
pub laying_rounded : {next before after : ℕ → ℕ} {start end k begin : ℕ} → Laying next before after start end (suc k) begin
    → iter next (suc k) start ≡ start → ((i : ℕ) → 0 < i → i ≤ k → iter next i start ≢ start) → Rounded next after start begin end
laying_rounded {next} {start = start} {end} {k} {begin} λ₁ round away = record {
  some = omega (arith, λ₁.counted);
  lays = λ i j a e. λ₁.lays i j (omega (arith, a, e, λ₁.counted)) e;
  closes = λ i e. let n : i ≡ suc k = omega (arith, e, λ₁.counted) in ap (λ m. iter next m start) n ∙ round;
  opens = λ i a l. away i a (omega (arith, l, λ₁.counted));
}
