-- How a decision comes to name its set, for the functions on the way: from equal values and from bits.
use mathlib.Core.Path.{◌≡◌, subst}
use mathlib.Core.Logic.{◌≢◌}
use mathlib.Core.Bool.{Bool, false}
use mathlib.Core.List.{List}
use Prim.Native.Nat.{ℕ, ◌<◌}
use lib.IntN.{ℤ}
use Rattle.maps.specs.Map.{Map, darts}
use Rattle.arrays.specs.At.{at, atℤ}
use Rattle.arrays.specs.inner.Drawn.{Drawn}
use Rattle.grouping.specs.inner.Walked.{Walked}
use Rattle.lengths.specs.inner.Lengths.{Along, Filled}
use Rattle.solver.specs.inner.Named.{ApartBy, MeasuredBy, NamedBy, Named}

-- by the lengths filled, of the value's bits
pub measured_by : {𝓜 : Map} {start finish : ℕ} {order from : ℕ → ℕ} {c : ℕ → ℤ} {value asked : ℤ} {length : ℕ → ℤ} {joined : Bool} {S : ℕ → Bool} {b : Bool}
    → value ≡ asked → Filled (darts 𝓜) start finish order from c value length joined → ApartBy 𝓜 start finish asked joined S b
    → MeasuredBy 𝓜 start finish from c asked length S b
measured_by {𝓜} {start} {finish} {order} {from} {c} {value} {asked} {length} {joined} e h w =
    record { joined = joined; along = subst (λ v. Along (darts 𝓜) start finish from c v length joined) e h.way; way = w }

-- for an equal value
pub measured_by_for : (𝓜 : Map) {start finish : ℕ} (from : ℕ → ℕ) (c : ℕ → ℤ) {v v' : ℤ} (length : ℕ → ℤ) (S : ℕ → Bool) (b : Bool)
    → v' ≡ v → MeasuredBy 𝓜 start finish from c v' length S b → MeasuredBy 𝓜 start finish from c v length S b
measured_by_for 𝓜 from c length S b e h = rw (← e) h

-- where the ends are not apart, the flags tell nothing
pub measured_other : {𝓜 : Map} {start finish : ℕ} {from : ℕ → ℕ} {c : ℕ → ℤ} {value : ℤ} {length : ℕ → ℤ} {S S' : ℕ → Bool}
    → MeasuredBy 𝓜 start finish from c value length S false → MeasuredBy 𝓜 start finish from c value length S' false
measured_other m = record { joined = m.joined; along = m.along; way = m.way }

-- ── the set named ──
pub named_of : {𝓜 : Map} {outer count parts : ℕ} {c : ℕ → ℤ} (lefts order from grouped starts : List ℕ)
    → Drawn 𝓜 (at lefts) count outer c → Walked (darts 𝓜) count outer parts 𝓜.rotation lefts order from grouped starts
    → {s t start finish : ℕ} {value : ℤ}
    → (start < darts 𝓜) × (𝓜.tail start ≡ s) × ((e : ℕ) → e < start → 𝓜.tail e ≢ s)
    → (finish < darts 𝓜) × (𝓜.tail finish ≡ t) × ((e : ℕ) → e < finish → 𝓜.tail e ≢ t)
    → (proposal : List ℕ) {S : ℕ → Bool} (lengths : List ℤ) (apart : Bool) → MeasuredBy 𝓜 start finish (at from) c value (atℤ lengths) S apart
    → NamedBy 𝓜 outer count parts lefts order from grouped starts lengths proposal S apart → Named 𝓜 outer c s t value proposal S
named_of {𝓜} {outer} {count} {parts} lefts order from grouped starts drawn walked {s} {t} {start} {finish} a b proposal lengths apart m n = record {
  sound = drawn.plane.sound;
  lefts = lefts;
  order = order;
  from = from;
  grouped = grouped;
  starts = starts;
  count = count;
  parts = parts;
  left_is = drawn.left_is;
  counted = drawn.counted;
  walked = walked;
  start = start;
  finish = finish;
  start_first = record { inside = a.0; leaves = a.1; none_before = a.2 };
  finish_first = record { inside = b.0; leaves = b.1; none_before = b.2 };
  lengths = lengths;
  apart = apart;
  measured = m;
  by = n;
}
