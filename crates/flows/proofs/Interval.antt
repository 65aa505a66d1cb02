-- The values that can be carried are an interval, and cuts tell its ends: what a set proves impossible, it proves impossible for all values further out; the
-- outward total of a set around the source is at least every value, and that of a set around the sink at least every value's negative; where two such totals
-- leave no value between them, the union or the intersection proves that there is none.
use mathlib.Core.Path.{◌≡◌, refl, sym, ◌∙◌}
use mathlib.Core.Logic.{◌≢◌, ◌⊎◌, inl, inr}
use mathlib.Core.Bool.{Bool, true, false, cond}
use Prim.Native.Nat.{ℕ, ◌<◌}
use native.Mathlib.Omega.{arith}
use lib.IntN.{ℤ, pos, neg_ℤ, ◌+ℤ◌, ◌-ℤ◌}
use lib.Signed.{◌≤ℤ◌, ◌<ℤ◌}
use Rattle.integers.proofs.Omega.{atoms₁, atoms₂, atoms₃, atoms₄, parts, less, from_at_most, from_less}
use Rattle.integers.proofs.Laws.{lt_or_ge}
use Rattle.integers.proofs.Tests.{either}
use Rattle.maps.specs.Dart.{rev}
use Rattle.maps.specs.Map.{Map, darts}
use Rattle.maps.specs.Check.{InRange}
use Rattle.maps.specs.Cut.{cut, union, intersection}
use Rattle.maps.proofs.Submodular.{submodular}
use Rattle.flows.specs.Settings.{Carries}
use Rattle.flows.specs.ProvingSet.{bound, Proves}
use Rattle.flows.proofs.Exact.{proves_excludes}
use Rattle.flows.specs.inner.Sides.{AtSource, AtSink, Beside}

module _ (s t : ℕ) (S : ℕ → Bool) where
  pub which : AtSource s t S ⊎ (AtSink s t S ⊎ Beside s t S)
  which = go (either (S s)) (either (S t))
    where
      go : (S s ≡ true) ⊎ (S s ≡ false) → (S t ≡ true) ⊎ (S t ≡ false) → AtSource s t S ⊎ (AtSink s t S ⊎ Beside s t S)
      go (inl p) (inl q) = inr (inr (p ∙ sym q))
      go (inl p) (inr q) = inl (p, q)
      go (inr p) (inl q) = inr (inl (p, q))
      go (inr p) (inr q) = inr (inr (p ∙ sym q))

  module _ (value : ℤ) where
    pub bound_source : AtSource s t S → bound S s t value ≡ value
    unfolding bound
    bound_source h = rw (h.0, h.1)

    pub bound_sink : AtSink s t S → bound S s t value ≡ neg_ℤ value
    unfolding bound
    bound_sink h = rw (h.0, h.1)

    pub bound_beside : Beside s t S → bound S s t value ≡ pos 0
    unfolding bound
    bound_beside h = rw h (go (S t))
      where
        go : (b : Bool) → cond b (cond b (pos 0) value) (cond b (neg_ℤ value) (pos 0)) ≡ pos 0
        go true = refl
        go false = refl

-- ── what a set proves ──
module _ (𝓜 : Map) (c : ℕ → ℤ) (s t : ℕ) (S : ℕ → Bool) where
  -- just the values above its outward total
  pub source_proves : AtSource s t S → (value : ℤ) → cut 𝓜 c S <ℤ value → Proves 𝓜 c s t value S
  source_proves h value l = rw (bound_source s t S value h) l

  pub source_short : AtSource s t S → (value : ℤ) → Proves 𝓜 c s t value S → cut 𝓜 c S <ℤ value
  source_short h value l = rw (bound_source s t S value h) at l

  -- just the values below the negative of its outward total
  pub sink_proves : AtSink s t S → (value : ℤ) → value <ℤ neg_ℤ (cut 𝓜 c S) → Proves 𝓜 c s t value S
  sink_proves h value l =
      rw (bound_sink s t S value h) (let a = atoms₂ (cut 𝓜 c S) value in less (search parts) (omega (arith, from_less l (search parts))))

  pub sink_short : AtSink s t S → (value : ℤ) → Proves 𝓜 c s t value S → value <ℤ neg_ℤ (cut 𝓜 c S)
  sink_short h value l =
      let a = atoms₂ (cut 𝓜 c S) value in less (search parts) (omega (arith, from_less (rw (bound_sink s t S value h) at l) (search parts)))

  -- every value or none
  pub beside_proves : Beside s t S → cut 𝓜 c S <ℤ pos 0 → (value : ℤ) → Proves 𝓜 c s t value S
  beside_proves h l value = rw (bound_beside s t S value h) l

  pub beside_short : Beside s t S → (value : ℤ) → Proves 𝓜 c s t value S → cut 𝓜 c S <ℤ pos 0
  beside_short h value l = rw (bound_beside s t S value h) at l

  -- so what it proves impossible carries over
  pub source_proves_more : AtSource s t S → (value more : ℤ) → value ≤ℤ more → Proves 𝓜 c s t value S → Proves 𝓜 c s t more S
  source_proves_more h value more l short =
      let a = atoms₃ (cut 𝓜 c S) value more in
      source_proves h more (less (search parts) (omega (arith, from_at_most l (search parts), from_less (source_short h value short) (search parts))))

  pub sink_proves_less : AtSink s t S → (value fewer : ℤ) → fewer ≤ℤ value → Proves 𝓜 c s t value S → Proves 𝓜 c s t fewer S
  sink_proves_less h value fewer l short =
      let a = atoms₃ (cut 𝓜 c S) value fewer in
      sink_proves h fewer (less (search parts) (omega (arith, from_at_most l (search parts), from_less (sink_short h value short) (search parts))))

  pub beside_proves_all : Beside s t S → (value : ℤ) → Proves 𝓜 c s t value S → (other : ℤ) → Proves 𝓜 c s t other S
  beside_proves_all h value short = beside_proves h (beside_short h value short)

  -- the first value that it proves impossible
  pub source_proves_next : AtSource s t S → Proves 𝓜 c s t (cut 𝓜 c S +ℤ pos 1) S
  source_proves_next h = source_proves h (cut 𝓜 c S +ℤ pos 1) (let a = atoms₁ (cut 𝓜 c S) in less (search parts) (omega arith))

  pub sink_proves_next : AtSink s t S → Proves 𝓜 c s t (neg_ℤ (cut 𝓜 c S) -ℤ pos 1) S
  sink_proves_next h = sink_proves h (neg_ℤ (cut 𝓜 c S) -ℤ pos 1) (let a = atoms₁ (cut 𝓜 c S) in less (search parts) (omega arith))

-- ── no value between two sets ──
module _ (𝓜 : Map) (c : ℕ → ℤ) (s t : ℕ) (A B : ℕ → Bool) (at_source : AtSource s t A) (at_sink : AtSink s t B) where
  pub union_both : (union A B s ≡ true) × (union A B t ≡ true)
  union_both = (rw at_source.0, rw at_source.1 at_sink.1)

  pub intersection_neither : (intersection A B s ≡ false) × (intersection A B t ≡ false)
  intersection_neither = (rw at_source.0 at_sink.0, rw at_source.1)

  pub union_proves : cut 𝓜 c (union A B) <ℤ pos 0 → (value : ℤ) → Proves 𝓜 c s t value (union A B)
  union_proves = beside_proves 𝓜 c s t (union A B) (union_both.0 ∙ sym union_both.1)

  pub intersection_proves : cut 𝓜 c (intersection A B) <ℤ pos 0 → (value : ℤ) → Proves 𝓜 c s t value (intersection A B)
  intersection_proves = beside_proves 𝓜 c s t (intersection A B) (intersection_neither.0 ∙ sym intersection_neither.1)

  module _ (pairs : (d : ℕ) → d < darts 𝓜 → pos 0 ≤ℤ (c d +ℤ c (rev d))) (none_between : (cut 𝓜 c A +ℤ cut 𝓜 c B) <ℤ pos 0) where
    -- where the union does not prove it, the intersection does
    pub intersection_short : pos 0 ≤ℤ cut 𝓜 c (union A B) → cut 𝓜 c (intersection A B) <ℤ pos 0
    intersection_short h =
        let a = atoms₄ (cut 𝓜 c A) (cut 𝓜 c B) (cut 𝓜 c (union A B)) (cut 𝓜 c (intersection A B)) in
        less (search parts) (omega
        (arith, from_at_most (submodular 𝓜 c pairs A B) (search parts), from_less none_between (search parts), from_at_most h (search parts)))

    pub join_none : ((cut 𝓜 c (union A B) <ℤ pos 0) × ((value : ℤ) → Proves 𝓜 c s t value (union A B)))
        ⊎ ((cut 𝓜 c (intersection A B) <ℤ pos 0) × ((value : ℤ) → Proves 𝓜 c s t value (intersection A B)))
    join_none = go (lt_or_ge (cut 𝓜 c (union A B)) (pos 0))
      where
        go : (cut 𝓜 c (union A B) <ℤ pos 0) ⊎ (pos 0 ≤ℤ cut 𝓜 c (union A B))
            → ((cut 𝓜 c (union A B) <ℤ pos 0) × ((value : ℤ) → Proves 𝓜 c s t value (union A B)))
            ⊎ ((cut 𝓜 c (intersection A B) <ℤ pos 0) × ((value : ℤ) → Proves 𝓜 c s t value (intersection A B)))
        go (inl h) = inl (h, union_proves h)
        go (inr h) = inr (intersection_short h, intersection_proves (intersection_short h))

-- ── what can be carried ──
module _ {𝓜 : Map} (range : InRange 𝓜) {s t : ℕ} (s_in : s < 𝓜.nodes) (t_in : t < 𝓜.nodes) (s≢t : s ≢ t) (c : ℕ → ℤ) where
  pub source_limits : (S : ℕ → Bool) → AtSource s t S → (value : ℤ) (x : ℕ → ℤ) → Carries 𝓜 c s t value x → value ≤ℤ cut 𝓜 c S
  source_limits S h value x flow = go (lt_or_ge (cut 𝓜 c S) value)
    where
      go : (cut 𝓜 c S <ℤ value) ⊎ (value ≤ℤ cut 𝓜 c S) → value ≤ℤ cut 𝓜 c S
      go (inl l) = absurd (proves_excludes range s_in t_in s≢t c value S (source_proves 𝓜 c s t S h value l) x flow)
      go (inr l) = l

  pub sink_limits : (S : ℕ → Bool) → AtSink s t S → (value : ℤ) (x : ℕ → ℤ) → Carries 𝓜 c s t value x → neg_ℤ (cut 𝓜 c S) ≤ℤ value
  sink_limits S h value x flow = go (lt_or_ge value (neg_ℤ (cut 𝓜 c S)))
    where
      go : (value <ℤ neg_ℤ (cut 𝓜 c S)) ⊎ (neg_ℤ (cut 𝓜 c S) ≤ℤ value) → neg_ℤ (cut 𝓜 c S) ≤ℤ value
      go (inl l) = absurd (proves_excludes range s_in t_in s≢t c value S (sink_proves 𝓜 c s t S h value l) x flow)
      go (inr l) = l

  -- between two values that can be carried each can: a set that proved it impossible would prove one of the two so
  pub carried_between : (least value most : ℤ) → least ≤ℤ value → value ≤ℤ most
      → ((x : ℕ → ℤ) × Carries 𝓜 c s t value x) ⊎ ((S : ℕ → Bool) × Proves 𝓜 c s t value S)
      → (x y : ℕ → ℤ) → Carries 𝓜 c s t least x → Carries 𝓜 c s t most y → (z : ℕ → ℤ) × Carries 𝓜 c s t value z
  carried_between least value most l m (inl r) x y lower upper = r
  carried_between least value most l m (inr r) x y lower upper = absurd (go (which s t r.0))
    where
      go : AtSource s t r.0 ⊎ (AtSink s t r.0 ⊎ Beside s t r.0) → ⊥
      go (inl h) = proves_excludes range s_in t_in s≢t c most r.0 (source_proves_more 𝓜 c s t r.0 h value most m r.1) y upper
      go (inr (inl h)) = proves_excludes range s_in t_in s≢t c least r.0 (sink_proves_less 𝓜 c s t r.0 h value least l r.1) x lower
      go (inr (inr h)) = proves_excludes range s_in t_in s≢t c most r.0 (beside_proves_all 𝓜 c s t r.0 h value r.1 most) y upper
