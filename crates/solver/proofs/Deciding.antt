-- One value decided, once its lengths are known: they are what the search and the ring's set ask for; settled potentials are the highest flow, and a cut of
-- the lengths below zero is a proving set.
use mathlib.Core.Path.{◌≡◌, refl, sym, ◌∙◌, ap, ap₂, subst}
use mathlib.Core.Bool.{Bool, true, false}
use mathlib.Core.List.{List, [], ◌++◌}
use Prim.Native.Nat.{ℕ, ◌*◌, ◌≤◌, ◌<◌}
use native.Mathlib.Omega.{arith}
use lib.ListN.{length, take, drop}
use lib.Seq.{length-take-le, get_or-take}
use lib.IntN.{ℤ, pos, negsuc, ◌+ℤ◌, ◌-ℤ◌, ◌*ℤ◌}
use lib.Signed.{◌≤ℤ◌, ◌<ℤ◌, mag}
use Rattle.integers.specs.Sum.{Integers, when}
use Rattle.integers.specs.inner.Limited.{Limited}
use Rattle.integers.proofs.Omega.{atoms₄, parts, equal, from_at_most}
use Rattle.integers.proofs.Sums.{sum_ext}
use Rattle.maps.specs.Dart.{rev}
use Rattle.maps.specs.Map.{Map, darts}
use Rattle.maps.specs.Face.{left, right, faces}
use Rattle.maps.specs.Check.{Sound}
use Rattle.maps.specs.Cut.{leaves, cut}
use Rattle.maps.proofs.Darts.{rev_in}
use Rattle.maps.proofs.Faces.{left_in}
use Rattle.flows.specs.ZeroFace.{ZeroFace}
use Rattle.flows.specs.Highest.{Highest}
use Rattle.flows.specs.inner.UnitFlow.{Carrier}
use Rattle.flows.specs.inner.Lengths.{length_for, Feasible, edge_flow}
use Rattle.flows.proofs.HighestFlow.{top_is_highest}
use Rattle.flows.proofs.Exact.{negative_proves}
use Rattle.arrays.specs.At.{at, atℤ}
use Rattle.arrays.proofs.Tabulate.{tabulate_ext}
use Rattle.arrays.specs.Filled.{filled}
use Rattle.search.specs.Dual.{Dual, dual_of}
use Rattle.search.specs.Parents.{ParentRing}
use Rattle.search.specs.inner.Settled.{Settled}
use Rattle.search.proofs.OfMap.{sound_of_map, joined_of_map}
use Rattle.traversal.specs.inner.Forest.{RootsOf}
use Rattle.traversal.proofs.Forests.{start_in, trees_components, tree_of_start}
use Rattle.traversal.proofs.Rooting.{roots_few, root_is, root_zero, zero_root}
use Rattle.search.specs.inner.OfMap.{OfMap}
use Rattle.search.proofs.Highest as settled
use Rattle.edge_flows.specs.inner.Flow.{flow_of}
use Rattle.arrays.specs.inner.Drawn.{Drawn}
use Rattle.solver.specs.inner.Ends.{Ends}
use Rattle.solver.specs.inner.Search.{Lengthened, Measured, Searchable, Ringed}
use Rattle.solver.specs.inner.Decision.{Decided}
use Rattle.arrays.specs.inner.Flags.{flagged}
use Rattle.solver.proofs.Preparing.{faces_most}

-- a limited number's magnitude
limited_mag : (b : ℕ) (x : ℤ) → Limited b x → mag x ≤ b
limited_mag b (pos n) h = omega (arith, from_at_most h.high (search parts))
limited_mag b (negsuc n) h = omega (arith, from_at_most h.low (search parts))

module _ {𝓜 : Map} (lefts : List ℕ) {count outer : ℕ} {c : ℕ → ℤ} (drawn : Drawn 𝓜 (at lefts) count outer c)
    {s t : ℕ} (two : Ends 𝓜 s t) {value : ℤ} (row : List ℤ)
    (known : Lengthened 𝓜 s t c value (atℤ row)) (queue : List ℕ) (sized : length queue ≡ 1024) {roots : ℕ}
    (rooted : RootsOf (darts 𝓜) 𝓜.rotation outer (at lefts) (at queue) roots) where
  abbrev N : Dual
  N = dual_of lefts row (darts 𝓜) count (take roots queue)

  abbrev π : ℕ → ℤ
  π = known.along

  carrier : Carrier 𝓜 s t value known.along
  carrier = known.carrier

  length_is : (d : ℕ) → d < darts 𝓜 → atℤ row d ≡ length_for c known.along value d
  length_is = known.is

  of : OfMap N 𝓜
  of = record {
    darts_are = refl;
    faces_are = drawn.counted;
    left_is = drawn.left_is;
    right_is = λ d l. drawn.left_is (rev d) (rev_in 𝓜.edges d l);
  }

  -- ── the roots are the faces at 0 ──
  σ₀ : Sound 𝓜
  σ₀ = drawn.plane.sound

  pub few_roots : roots ≤ 1024
  few_roots = omega (arith, roots_few rooted, drawn.few_edges)

  as_many : length (take roots queue) ≡ roots
  as_many = length-take-le roots queue (omega (arith, few_roots, sized))

  root_at : (m : ℕ) → m < roots → at (take roots queue) m ≡ left 𝓜 (rooted.order (rooted.forest.planted.begins m))
  root_at m l = get_or-take roots queue m 0 l ∙ root_is σ₀ drawn.left_is rooted m l

  root_below : (m : ℕ) → m < N.roots → at (take roots queue) m < faces 𝓜
  root_below m l =
      let h : m < roots = omega (arith, as_many) in
      omega (arith, root_at m h, left_in σ₀ (rooted.order (rooted.forest.planted.begins m)) (start_in σ₀ rooted.forest m h))

  root_zeroed : (m : ℕ) → m < N.roots → ZeroFace 𝓜 outer (at (take roots queue) m)
  root_zeroed m l =
      let h : m < roots = omega (arith, as_many) in
      subst (ZeroFace 𝓜 outer) (sym (get_or-take roots queue m 0 h)) (root_zero σ₀ drawn.left_is rooted m h)

  -- what a value takes from a dart it gives to the reverse
  sums : (d : ℕ) → d < darts 𝓜 → atℤ row d +ℤ atℤ row (rev d) ≡ c d +ℤ c (rev d)
  sums d l =
      ap₂ ◌+ℤ◌ (length_is d l) (length_is (rev d) (rev_in 𝓜.edges d l) ∙ ap (λ z. c (rev d) -ℤ value *ℤ z) (carrier.antisymmetric d l))
      ∙ (let a = atoms₄ (c d) (c (rev d)) value (π d) in equal (search parts) (omega arith))

  pub searchable : Searchable N 𝓜.edges c
  searchable = record {
    sound =
        sound_of_map of σ₀ (omega (arith, drawn.few_edges)) root_below
        (λ d l. omega (arith, limited_mag 602000000 (atℤ row d) (known.short d l)));
    joined =
        joined_of_map of σ₀ (trees_components σ₀ rooted.forest) as_many
        (λ m l.
        (rooted.order (rooted.forest.planted.begins m), start_in σ₀ rooted.forest m l, sym (root_at m l), tree_of_start σ₀ rooted.forest m l));
    darts_are = refl;
    small = drawn.small;
    sums = sums;
  }

  -- ── settled: the highest flow ──
  module _ (ρ : ℕ → ℤ) (σ : Settled N ρ) where
    feasible : Feasible 𝓜 (length_for c π value) ρ
    feasible d l = rw (drawn.left_is d l, drawn.left_is (rev d) (rev_in 𝓜.edges d l), length_is d l) at (σ.still d l)

    top : (τ : ℕ → ℤ) → Feasible 𝓜 (length_for c π value) τ → ((f : ℕ) → ZeroFace 𝓜 outer f → τ f ≡ pos 0) → (f : ℕ) → f < faces 𝓜 → τ f ≤ℤ ρ f
    top τ h zero f l = settled.highest σ τ still (λ m r. zero (at (take roots queue) m) (root_zeroed m r)) f (omega (arith, drawn.counted))
      where
        still : (d : ℕ) → d < darts 𝓜 → τ (at lefts d) ≤ℤ (τ (at lefts (rev d)) +ℤ atℤ row d)
        still d l = rw (drawn.left_is d l, drawn.left_is (rev d) (rev_in 𝓜.edges d l), length_is d l) (h d l)

    highest : Highest 𝓜 outer c s t value (edge_flow 𝓜 π value ρ)
    highest =
        top_is_highest drawn.plane two.source_in two.sink_in two.two c value carrier outer drawn.outer_in ρ feasible
        (λ f z.
        let r = zero_root σ₀ drawn.left_is rooted f z in
        ap ρ (sym (get_or-take roots queue r.0 0 r.1 ∙ r.2)) ∙ σ.rooted r.0 (omega (arith, r.1, as_many))) top

    flows_are : (e : ℕ) → e < 𝓜.edges → flow_of (at lefts) c (atℤ row) ρ e ≡ edge_flow 𝓜 π value ρ e
    flows_are e l =
        ap₂ (λ x y. (ρ x -ℤ ρ y) +ℤ (c (2 * e) -ℤ atℤ row (2 * e))) (drawn.left_is (2 * e) d_in)
        (drawn.left_is (rev (2 * e)) (rev_in 𝓜.edges (2 * e) d_in))
        ∙ ap (λ z. (ρ (left 𝓜 (2 * e)) -ℤ ρ (right 𝓜 (2 * e))) +ℤ (c (2 * e) -ℤ z)) (length_is (2 * e) d_in)
        ∙ (let a = atoms₄ (ρ (left 𝓜 (2 * e))) (ρ (right 𝓜 (2 * e))) (c (2 * e)) (value *ℤ π (2 * e)) in equal (search parts) (omega arith))
      where
        d_in : 2 * e < darts 𝓜
        d_in = omega arith

    pub decided_can : (flows flows' : List ℤ) (inside : List ℕ) → flows' ≡ filled 𝓜.edges (flow_of (at lefts) c (atℤ row) ρ) flows
        → Decided 𝓜 outer c s t value flows flows' inside true
    decided_can flows flows' inside e =
        (edge_flow 𝓜 π value ρ, highest, e ∙ ap (λ l. l ++ drop 𝓜.edges flows) (tabulate_ext 𝓜.edges _ _ flows_are))

  -- ── a ring: a proving set ──
  -- a ring knows no roots
  abbrev bare : Dual
  bare = dual_of lefts row (darts 𝓜) count []

  pub ringed : (parent : ℕ → ℕ) {y face : ℕ} → y ≡ face → ParentRing N parent face → Ringed 𝓜 bare parent y
  ringed parent e r = record {
    plane = drawn.plane;
    few_nodes = drawn.few_nodes;
    few_edges = drawn.few_edges;
    of = record { darts_are = of.darts_are; faces_are = of.faces_are; left_is = of.left_is; right_is = of.right_is };
    few_faces = omega (arith, drawn.counted, faces_most drawn);
    short = known.short;
    pairs = λ d l. rw (sums d l) (drawn.pairs d l);
    ring =
        subst (ParentRing bare parent) (sym e)
        record {
          size = r.size;
          some = r.some;
          few = r.few;
          closes = r.closes;
          first = r.first;
          inside = r.inside;
          dart = r.dart;
          left_is = r.left_is;
          negative = r.negative;
        };
  }

  pub decided_cannot : (flows flows' : List ℤ) (inside : List ℕ) → flows' ≡ flows → cut 𝓜 (atℤ row) (flagged inside) <ℤ pos 0
      → Decided 𝓜 outer c s t value flows flows' inside false
  unfolding cut
  decided_cannot flows flows' inside e h =
      (e, negative_proves drawn.plane.sound.range two.source_in two.sink_in two.two c value carrier (flagged inside) (rw by_lengths at h))
    where
      by_lengths : cut 𝓜 (atℤ row) (flagged inside) ≡ cut 𝓜 (length_for c π value) (flagged inside)
      by_lengths =
          sum_ext Integers (darts 𝓜) (λ d. when (leaves 𝓜 (flagged inside) d) (atℤ row d)) (λ d. when (leaves 𝓜 (flagged inside) d) (length_for c π value d))
          (λ d l. ap (λ z. when (leaves 𝓜 (flagged inside) d) z) (length_is d l))

-- source and sink are in different parts
pub decided_apart : (𝓜 : Map) (outer : ℕ) (c : ℕ → ℤ) (s t : ℕ) (value : ℤ) (length : ℕ → ℤ) (flows : List ℤ) (inside : List ℕ) {r : Bool}
    → r ≡ true → Measured 𝓜 s t c value length inside r → Decided 𝓜 outer c s t value flows flows inside false
decided_apart 𝓜 outer c s t value length flows inside e h = (refl, rw e at h)

pub measured_long : (𝓜 : Map) (s t : ℕ) (c : ℕ → ℤ) (value : ℤ) (length : ℕ → ℤ) (inside : List ℕ) {r : Bool}
    → r ≡ false → Measured 𝓜 s t c value length inside r → Lengthened 𝓜 s t c value length
measured_long 𝓜 s t c value length inside e h = rw e at h

-- the same drawing with another outer dart
pub redrawn : {𝓜 : Map} {left : ℕ → ℕ} {count outer first : ℕ} {c : ℕ → ℤ} → Drawn 𝓜 left count outer c → first < darts 𝓜 → Drawn 𝓜 left count first c
redrawn drawn first_in = record {
  plane = drawn.plane;
  few_nodes = drawn.few_nodes;
  few_edges = drawn.few_edges;
  left_is = drawn.left_is;
  counted = drawn.counted;
  outer_in = first_in;
  small = drawn.small;
  pairs = drawn.pairs;
}
