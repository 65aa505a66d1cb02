-- What happened to the faces on a run of the search: one fell, or was looked at. Document 02, Job 3: "take up only faces whose level fell since they were last
-- looked at, first come first; a first level counts as a fall".
use Rattle.std.specs.Prelude.{◌≡◌, List, [], ◌∷◌, ℕ, zero, suc, ℤ, Result}
use Rattle.arrays.specs.At.{at}
use Rattle.search.specs.Given.{Given}
use Rattle.search.specs.Configuration.{Tables, Configuration, front}
use Rattle.search.specs.Look.{Crosses, done, keep, lower}
use Rattle.search.specs.Straightening.{Follows, leaves, keeps, falls, Descends, down, Straightens, end, ring, next}
use Rattle.search.specs.Straightening as straightening
use Rattle.search.specs.Trace.{Step, look, straighten, Goes, stay, go}
use Rattle.search.specs.declared.Ring.{Ring}

pub data Event : Type 0 where
  fell : ℕ → Event
  looked : ℕ → Event

-- ── the events of a run, the latest first, put before those of the time before it ──
unfoldable pub crossed : {G : Given} {i e j : ℕ} {t u : Tables} → Crosses G i e j t u → List Event → List Event
crossed (done l) past = past
crossed (keep l a q) past = crossed q past
crossed {G} {j = j} (lower l a p q) past = crossed q (fell (at G.lefts (at G.order j)) ∷ past)

unfoldable pub followed : {lefts : List ℕ} {lengths : List ℤ} {y : ℕ} {t u : Tables} → Follows lefts lengths y t u → List Event → List Event
followed (leaves e) past = past
followed (keeps h a) past = past
followed {y = y} (falls h a p) past = fell y ∷ past

unfoldable pub descended : {lefts : List ℕ} {lengths : List ℤ} {upward : ℕ → ℕ} {f k : ℕ} {t u : Tables} → Descends lefts lengths upward f k t u
    → List Event → List Event
descended straightening.done past = past
descended (down s q) past = descended q (followed s past)

unfoldable pub straight : {lefts : List ℕ} {lengths : List ℤ} {darts faces f : ℕ} {marks : List ℕ} {t u : Tables} {r : Result ℕ Ring}
    → Straightens lefts lengths darts faces f marks t u r → List Event → List Event
straight (end l e) past = past
straight (ring count l a h e) past = past
straight (next count l a h q s) past = straight s (descended q past)

unfoldable pub stepped : {G : Given} {c d : Configuration} → Step G c d → List Event → List Event
stepped {c = c} (look l m q) past = crossed q (looked (front c) ∷ past)
stepped (straighten l s) past = straight s past

unfoldable pub history : {G : Given} {c d : Configuration} → Goes G c d → List Event → List Event
history stay past = past
history (go s g) past = history g (stepped s past)

-- at first each root falls to its level of 0
unfoldable pub first_levels : (queue : List ℕ) (roots : ℕ) → List Event
first_levels queue zero = []
first_levels queue (suc m) = fell (at queue m) ∷ first_levels queue m

-- of what happened to the face f, a fall is the latest: it fell since it was last looked at
pub data FellSince (f : ℕ) : List Event → Type 0 where
  now : {g : ℕ} {past : List Event} → g ≡ f → FellSince f (fell g ∷ past)
  before_fall : {g : ℕ} {past : List Event} → FellSince f past → FellSince f (fell g ∷ past)
  before_look : {g : ℕ} {past : List Event} → (g ≡ f → ⊥) → FellSince f past → FellSince f (looked g ∷ past)
