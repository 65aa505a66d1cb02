-- A walk round one orbit that marks each place it leaves: what is known on the way, that the next place is new, and what is known at the end.
use mathlib.Core.Path.{◌≡◌, refl, sym, ◌∙◌, ap}
use mathlib.Core.Logic.{◌≢◌}
use mathlib.Core.List.{List}
use Prim.Native.Nat.{ℕ, zero, suc, ◌+◌, ◌-◌, ◌≤◌, ◌<◌}
use native.Mathlib.Omega.{arith}
use native.Mathlib.Decide.{ℕ_discrete}
use lib.ListN.{length, set}
use lib.Seq.{get_or-set_same, get_or-set_other}
use Rattle.maps.specs.Orbit.{iter, Orbit, Permutes}
use Rattle.maps.proofs.Orbits.{iter_zero, iter_suc, iter_in}
use Rattle.arrays.specs.At.{at}
use Rattle.rotations.specs.inner.Holding.{holding}
use Rattle.rotations.specs.inner.Marking.{Markable, Marked}
use Rattle.traversal.specs.inner.Mark.{unmarked}
use Rattle.rotations.proofs.Holding.{holding_less}

-- two places of a walk that are equal: the steps between them lead round
round_between : {n : ℕ} {next : ℕ → ℕ} → Permutes n next → (s i k : ℕ) → s < n → i ≤ k → iter next i s ≡ iter next k s → iter next (k - i) s ≡ s
round_between {next = next} π s zero k l h e = let q : k - 0 ≡ k = omega arith in ap (λ m. iter next m s) q ∙ sym e ∙ iter_zero next s
round_between π s (suc i) zero l h e = absurd (omega arith)
round_between {next = next} π s (suc i) (suc k) l h e =
    let q : suc k - suc i ≡ k - i = omega arith in
    ap (λ m. iter next m s) q
    ∙ round_between π s i k l (omega arith)
    (π.apart (iter next i s) (iter next k s) (iter_in π i s l) (iter_in π k s l) (sym (iter_suc next i s) ∙ e ∙ iter_suc next k s))

-- once round, the places come again
pub wrap : (next : ℕ → ℕ) (s k : ℕ) → iter next (suc k) s ≡ s → (i : ℕ) → (m : ℕ) × (m < suc k) × (iter next i s ≡ iter next m s)
wrap next s k e zero = (0, omega arith, refl)
wrap next s k e (suc i) = go (wrap next s k e i)
  where
    go : ((m : ℕ) × (m < suc k) × (iter next i s ≡ iter next m s)) → (m : ℕ) × (m < suc k) × (iter next (suc i) s ≡ iter next m s)
    go r = on (ℕ_discrete r.0 k)
      where
        ahead : iter next (suc i) s ≡ iter next (suc r.0) s
        ahead = iter_suc next i s ∙ ap next r.2 ∙ sym (iter_suc next r.0 s)

        on : Dec (r.0 ≡ k) → (m : ℕ) × (m < suc k) × (iter next (suc i) s ≡ iter next m s)
        on (yes p) = (0, omega arith, ahead ∙ ap (λ m. iter next (suc m) s) p ∙ e ∙ sym (iter_zero next s))
        on (no p) = (suc r.0, omega (arith, r.1, p), ahead)

-- k places from `start` on are marked, the walk stands at x, and nothing else has changed
pub record Trail (next before after : ℕ → ℕ) (start number k x : ℕ) : Type 0 where
  pub here : iter next k start ≡ x
  pub on : (i : ℕ) → i < k → after (iter next i start) ≡ number
  pub off : (y : ℕ) → ((i : ℕ) → i < k → iter next i start ≢ y) → after y ≡ before y

-- the same, before the walk is back at `start`
pub record Walking (next before after : ℕ → ℕ) (start number k x : ℕ) : Type 0 where
  pub trail : Trail next before after start number k x
  pub away : (i : ℕ) → 0 < i → i ≤ k → iter next i start ≢ start

pub set_off : (next before : ℕ → ℕ) (start number : ℕ) → Walking next before before start number 0 start
set_off next before start number = record {
  trail = record { here = iter_zero next start; on = λ i l. absurd (omega arith); off = λ y h. refl };
  away = λ i a b. absurd (omega arith);
}

module _ {n : ℕ} {next before after : ℕ → ℕ} {start number k x : ℕ}
    (μ : Markable n next before start number) (w : Walking next before after start number k x) where
  pub still_in : x < n
  still_in = rw w.trail.here at (iter_in μ.permutes k start μ.inside)

  -- else the walk would have come back to `start`
  fresh : after x ≡ unmarked
  fresh = w.trail.off x new ∙ μ.free x (k, w.trail.here)
    where
      new : (i : ℕ) → i < k → iter next i start ≢ x
      new i l e = w.away (k - i) (omega arith) (omega arith) (round_between μ.permutes start i k μ.inside (omega arith) (e ∙ sym w.trail.here))

  -- the place x is marked, and the walk steps on
  module _ (after' : ℕ → ℕ) (put : after' x ≡ number) (kept : (y : ℕ) → y ≢ x → after' y ≡ after y) where
    trail_on : Trail next before after' start number (suc k) (next x)
    trail_on = record { here = iter_suc next k start ∙ ap next w.trail.here; on = λ i l. marked i l (ℕ_discrete (iter next i start) x); off = unchanged }
      where
        marked : (i : ℕ) → i < suc k → Dec (iter next i start ≡ x) → after' (iter next i start) ≡ number
        marked i l (yes p) = ap after' p ∙ put
        marked i l (no p) = kept (iter next i start) p ∙ w.trail.on i (before_k (ℕ_discrete i k))
          where
            before_k : Dec (i ≡ k) → i < k
            before_k (yes q) = absurd (p (ap (λ m. iter next m start) q ∙ w.trail.here))
            before_k (no q) = omega (arith, q)

        unchanged : (y : ℕ) → ((i : ℕ) → i < suc k → iter next i start ≢ y) → after' y ≡ before y
        unchanged y h = kept y (λ e. h k (omega arith) (w.trail.here ∙ sym e)) ∙ w.trail.off y (λ i l. h i (omega arith))

    on_step : next x ≢ start → Walking next before after' start number (suc k) (next x)
    on_step h = record { trail = trail_on; away = λ i a b. still i a b (ℕ_discrete i (suc k)) }
      where
        still : (i : ℕ) → 0 < i → i ≤ suc k → Dec (i ≡ suc k) → iter next i start ≢ start
        still i a b (yes p) = λ e. h (sym trail_on.here ∙ ap (λ m. iter next m start) (sym p) ∙ e)
        still i a b (no p) = w.away i a (omega (arith, p))

    at_end : next x ≡ start → Marked n next before after' start number
    at_end h = record { on = on'; off = λ y l far. trail_on.off y (λ i m e. far (i, e)) }
      where
        on' : (y : ℕ) → Orbit next start y → after' y ≡ number
        on' y o = let r = wrap next start k (trail_on.here ∙ h) o.0 in ap after' (sym o.1 ∙ r.2) ∙ trail_on.on r.0 r.1

    -- the measure of the loop
    less : holding unmarked n after' + 1 ≡ holding unmarked n after
    less = holding_less unmarked n after after' x still_in fresh (λ e. omega (arith, put, e, μ.small)) kept

-- the same of an array of labels
module _ {n : ℕ} {next before : ℕ → ℕ} {start number k x : ℕ} (label : List ℕ) (long : length label ≡ 1024)
    (μ : Markable n next before start number) (w : Walking next before (at label) start number k x) where
  put : at (set label x number) x ≡ number
  put = get_or-set_same label x number 0 (omega (arith, still_in μ w, μ.few, long))

  kept : (y : ℕ) → y ≢ x → at (set label x number) y ≡ at label y
  kept y h = get_or-set_other label x y number 0 h

  pub walk_on : next x ≢ start → Walking next before (at (set label x number)) start number (suc k) (next x)
  walk_on = on_step μ w (at (set label x number)) put kept

  pub walk_end : next x ≡ start → Marked n next before (at (set label x number)) start number
  walk_end = at_end μ w (at (set label x number)) put kept

  pub fewer : holding unmarked n (at (set label x number)) + 1 ≡ holding unmarked n (at label)
  fewer = less μ w (at (set label x number)) put kept

  -- the walk is once round
  pub walk_round : next x ≡ start → iter next (suc k) start ≡ start
  walk_round h = (trail_on μ w (at (set label x number)) put kept).here ∙ h
