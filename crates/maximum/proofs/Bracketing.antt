-- Probing between two bounds: how it begins, what a carried value and a proving set do to the bounds, and the three ways in which it ends.
use mathlib.Core.Path.{◌≡◌, refl, sym, ◌∙◌, ap, subst}
use mathlib.Core.Logic.{◌⊎◌, inl, inr}
use mathlib.Core.Bool.{Bool, true, false}
use mathlib.Core.List.{List, ◌++◌}
use Prim.Native.Nat.{ℕ, ◌*◌, ◌≤◌, ◌<◌}
use native.Mathlib.Omega.{arith}
use lib.Dec.{eqb}
use lib.ListN.{length, drop}
use lib.IntN.{ℤ, pos, neg_ℤ, ◌+ℤ◌}
use lib.Signed.{◌≤ℤ◌, ◌<ℤ◌}
use Rattle.std.specs.Prelude.{Option, Some, None}
use Rattle.std.proofs.lemmas.List.{drop_all, drop_at}
use mir.Syntax.{w32}
use mir.Val.{to_z, of_z}
use Rattle.integers.specs.inner.Limited.{Limited}
use Rattle.integers.proofs.Omega.{atoms₂, atoms₃, atoms₄, parts, at_most, less, from_equal, from_at_most, from_less}
use Rattle.integers.proofs.Laws.{lt_le_clash, le_trans, le_antisym, le_of_lt, lt_or_ge}
use Rattle.integers.proofs.Limits.{limited_neg, limited_more}
use Rattle.integers.proofs.Tests.{eqb_true, eqb_false}
use Rattle.signed.proofs.Limits.{same_bits}
use Rattle.maps.specs.Dart.{rev}
use Rattle.maps.specs.Map.{Map, darts}
use Rattle.maps.specs.Cut.{cut, union}
use Rattle.flows.specs.Highest.{Highest}
use Rattle.flows.specs.ProvingSet.{Proves}
use Rattle.flows.specs.inner.Plane.{Plane}
use Rattle.flows.proofs.Exact.{proves_excludes}
use Rattle.flows.proofs.Agreement.{cut_agrees}
use Rattle.flows.proofs.Interval.{
  source_short,
  sink_short,
  sink_proves_less,
  beside_short,
  beside_proves,
  beside_proves_all,
  source_limits,
  union_both,
  intersection_neither,
  intersection_short,
}
use Rattle.flows.specs.inner.Sides.{AtSource, AtSink, Beside}
use Rattle.flows.proofs.ValueBound.{value_small, cut_small}
use Rattle.arrays.specs.Filled.{tabulate, filled}
use Rattle.arrays.specs.At.{atℤ}
use Rattle.arrays.proofs.Tabulate.{length_tabulate}
use Rattle.arrays.proofs.FillLoops.{filled_length}
use Rattle.cuts.specs.inner.Cut.{cut_of}
use Rattle.cuts.proofs.CutOfMap.{cut-of}
use Rattle.node_flags.specs.inner.Flags.{Sided}
use Rattle.arrays.specs.inner.Flags.{flagged}
use Rattle.node_flags.specs.declared.Side.{Side}
use Rattle.node_flags.specs.declared.Side.TheVariants as side
use Rattle.arrays.specs.Maps.{map_of}
use Rattle.arrays.specs.declared.Sizes.{Sizes}
use Rattle.arrays.specs.declared.Terminals.{Terminals}
use Rattle.solver.specs.inner.Ends.{Ends}
use Rattle.solver.specs.inner.Lent.{Lent}
use Rattle.solver.specs.inner.Decision.{Decided}
use Rattle.maximum.specs.inner.Bracket.{Ceiling, Floor, Bracket, Closer}
use Rattle.maximum.specs.inner.Narrowing.{SameFlags, Narrows, Lowers, stays, falls, Joins}
use Rattle.maximum.specs.inner.Maximum.{Maximized}
use Rattle.maximum.specs.inner.Underway.{LentPivots}
use Rattle.maximum.specs.declared.Narrowed.{Narrowed}

-- ── numbers between the bounds ──
pub between_limited : (n : ℕ) (low value high : ℤ) → low ≤ℤ value → value ≤ℤ high → Limited n low → Limited n high → Limited n value
between_limited n low value high l h a b = record { low = le_trans a.low l; high = le_trans h b.high }

pub above_low : (low high value : ℤ) (found : Bool) → low ≤ℤ high → (found ≡ true → low ≡ high → ⊥) → (low <ℤ high → low <ℤ value) → found ≡ true → low <ℤ value
above_low low high value found l apart h e = by (lt_or_ge low high)
  where
    by : (low <ℤ high) ⊎ (high ≤ℤ low) → low <ℤ value
    by (inl k) = h k
    by (inr k) = absurd (apart e (le_antisym l k))

le_of_equal : {x y : ℤ} → x ≡ y → x ≤ℤ y
le_of_equal {x} {y} e = let a = atoms₂ x y in at_most (search parts) (omega (arith, from_equal e (search parts)))

lt_le : {x y z : ℤ} → x <ℤ y → y ≤ℤ z → x <ℤ z
lt_le {x} {y} {z} l k = let a = atoms₃ x y z in less (search parts) (omega (arith, from_less l (search parts), from_at_most k (search parts)))

le_lt : {x y z : ℤ} → x ≤ℤ y → y <ℤ z → x <ℤ z
le_lt {x} {y} {z} k l = let a = atoms₃ x y z in less (search parts) (omega (arith, from_less l (search parts), from_at_most k (search parts)))

-- filled twice is filled once
pub filled_again : (n : ℕ) (f g : ℕ → ℤ) (before flows : List ℤ) → flows ≡ filled n g before → filled n f flows ≡ filled n f before
filled_again n f g before flows e = ap (λ l. tabulate n f ++ l) (ap (drop n) e ∙ drop_at (tabulate n g) (drop n before) n (length_tabulate n g))

-- a slice that was filled, as one that fills another of the same length
pub copied : (n : ℕ) (x : ℕ → ℤ) (old known before : List ℤ) → known ≡ filled n x old → length old ≡ n → length before ≡ n → known ≡ filled n x before
copied n x old known before e l k = e ∙ ap (λ r. tabulate n x ++ r) (drop_all n old (omega arith) ∙ sym (drop_all n before (omega arith)))

-- the ground of a question: a plane map with the capacities of a sheet, and two ends
pub record Ground (𝓜 : Map) (c : ℕ → ℤ) (s t : ℕ) : Type 0 where
  pub plane : Plane 𝓜
  pub few_nodes : 𝓜.nodes ≤ 1024
  pub few_edges : 𝓜.edges ≤ 512
  pub small : (d : ℕ) → d < darts 𝓜 → Limited 1000000 (c d)
  pub pairs : (d : ℕ) → d < darts 𝓜 → pos 0 ≤ℤ (c d +ℤ c (rev d))
  pub two : Ends 𝓜 s t

pub ground_of : {n : Sizes} {s t : ℕ} {tails rotations lefts : List ℕ} {capacities : List ℤ} {order from grouped starts : List ℕ} {flows : List ℤ}
    → Lent n s t tails rotations lefts capacities order from grouped starts flows → ((d : ℕ) → d < 2 * n.edges → Limited 1000000 (atℤ capacities d))
    → Ground (map_of n.nodes n.edges tails rotations) (atℤ capacities) s t
ground_of p small =
    let d = p.opened.drawn in
    record { plane = d.plane; few_nodes = d.few_nodes; few_edges = d.few_edges; small = small; pairs = d.pairs; two = p.ends }

module _ {𝓜 : Map} {c : ℕ → ℤ} {s t : ℕ} (ground : Ground 𝓜 c s t) where
  pub source_few : s < 1024
  source_few = omega (arith, ground.two.source_in, ground.few_nodes)

  pub sink_few : t < 1024
  sink_few = omega (arith, ground.two.sink_in, ground.few_nodes)

  pub tails_few : (d : ℕ) → d < darts 𝓜 → 𝓜.tail d < 1024
  tails_few d l = omega (arith, ground.few_nodes, ground.plane.sound.range.tail_in d l)

  pub capacities_few : (d : ℕ) → d < darts 𝓜 → Limited 2000000 (c d)
  capacities_few d l = limited_more (omega arith) (ground.small d l)

pub lent_pivots : {n : Sizes} {t : Terminals} {tails : List ℕ} (rotations : List ℕ) {capacities flows : List ℤ} {parents A : List ℕ}
    → Ground (map_of n.nodes n.edges tails rotations) (atℤ capacities) t.source t.sink → length parents ≡ 1024 → length A ≡ 1024
    → length flows ≡ n.edges → LentPivots n t tails capacities flows parents A
lent_pivots rotations g p a e = record {
  few_nodes = g.few_nodes;
  few_edges = g.few_edges;
  source_in = source_few g;
  sink_in = sink_few g;
  tails_in = tails_few g;
  small = capacities_few g;
  size_parents = p;
  size_a = a;
  exact = e;
}

-- what the loop keeps: the sizes of its arrays, and the bounds
pub record Probing (𝓜 : Map) (outer : ℕ) (c : ℕ → ℤ) (s t : ℕ) (before flows : List ℤ) (A B parents : List ℕ)
    (low high : ℤ) (found : Bool) : Type 0 where
  pub size_a : length A ≡ 1024
  pub size_b : length B ≡ 1024
  pub size_parents : length parents ≡ 1024
  pub bracket : Bracket 𝓜 outer c s t before flows A B low high found

module _ {𝓜 : Map} (outer : ℕ) {c : ℕ → ℤ} {s t : ℕ} (ground : Ground 𝓜 c s t) where
  -- flags that agree have one cut
  same_cut : (xs ys : List ℕ) → SameFlags xs ys → cut 𝓜 c (flagged xs) ≡ cut 𝓜 c (flagged ys)
  same_cut xs ys same = cut_agrees ground.plane.sound.range (flagged xs) (flagged ys) (λ v l. same v (omega (arith, ground.few_nodes))) c

  s_in : s < 1024
  s_in = source_few ground

  t_in : t < 1024
  t_in = sink_few ground

  -- ── the bounds stay small ──
  pub high_small : {A : ℕ → Bool} {high : ℤ} → Ceiling 𝓜 c s t A high → Limited 512000000 high
  high_small {A} h = subst (Limited 512000000) (sym h.is_cut) (cut_small 𝓜 c ground.few_edges ground.small A)

  pub low_small : (before flows : List ℤ) (B : ℕ → Bool) (low : ℤ) (found : Bool) → Floor 𝓜 outer c s t before flows B low found → Limited 512000000 low
  low_small before flows B low true h =
      value_small ground.plane.sound.range ground.two.source_in ground.two.sink_in
      ground.two.two c ground.few_edges (λ d l. limit d l) low h.0 h.1.carries
    where
      limit : (d : ℕ) → d < darts 𝓜 → c d ≤ℤ pos 1000000
      limit d l = (ground.small d l).high
  low_small before flows B low false h = h.3

  -- what a low bound may be before any is found: the least that a cut's negative can be, or the negative of B's cut
  low_at_most : (B : ℕ → Bool) (low : ℤ) → (low ≡ neg_ℤ (pos 512000000)) ⊎ (low ≡ neg_ℤ (cut 𝓜 c B)) → (low ≤ℤ neg_ℤ (cut 𝓜 c B)) × Limited 512000000 low
  low_at_most B low (inl e) =
      rw e (
        (limited_neg (cut_small 𝓜 c ground.few_edges ground.small B)).low,
        record { low = at_most (search parts) (omega arith); high = at_most (search parts) (omega arith) },
      )
  low_at_most B low (inr e) = (le_of_equal e, subst (Limited 512000000) (sym e) (limited_neg (cut_small 𝓜 c ground.few_edges ground.small B)))

  -- ── how it begins: a set at the source, and the sink alone or a value that is known ──
  ceiling_of : (A : List ℕ) (high : ℤ) → AtSource s t (flagged A) → high ≡ cut_of (darts 𝓜) 𝓜.tail c (flagged A) → Ceiling 𝓜 c s t (flagged A) high
  ceiling_of A high side is-high = record { side = side; is_cut = is-high ∙ sym (cut-of 𝓜 c (flagged A)) }

  pub begins : (before : List ℤ) (A B : List ℕ) (low high : ℤ) → AtSource s t (flagged A) → ((u : ℕ) → u < 1024 → flagged B u ≡ eqb u t)
      → high ≡ cut_of (darts 𝓜) 𝓜.tail c (flagged A) → (low ≡ neg_ℤ (pos 512000000)) ⊎ (low ≡ neg_ℤ (cut_of (darts 𝓜) 𝓜.tail c (flagged B)))
      → Bracket 𝓜 outer c s t before before A B low high false
  begins before A B low high side one_b is-high is-low = record {
    ceiling = ceiling_of A high side is-high;
    floor = (
      refl,
      (one_b s s_in ∙ eqb_false s t ground.two.two, one_b t t_in ∙ eqb_true t t refl),
      small.0,
      small.1,
    );
  }
    where
      small : (low ≤ℤ neg_ℤ (cut 𝓜 c (flagged B))) × Limited 512000000 low
      small = low_at_most (flagged B) low (subst (λ x. (low ≡ neg_ℤ (pos 512000000)) ⊎ (low ≡ neg_ℤ x)) (sym (cut-of 𝓜 c (flagged B))) is-low)

  pub begins_on : (before flows : List ℤ) (A B : List ℕ) (low high : ℤ) (x : ℕ → ℤ) → AtSource s t (flagged A)
      → high ≡ cut_of (darts 𝓜) 𝓜.tail c (flagged A) → Highest 𝓜 outer c s t low x → flows ≡ filled 𝓜.edges x before
      → Bracket 𝓜 outer c s t before flows A B low high true
  begins_on before flows A B low high x side is-high h e = record { ceiling = ceiling_of A high side is-high; floor = (x, h, e) }

  -- ── the bounds after a probe of a value between them are closer ──
  module _ (low high value : ℤ) (found : Bool) (at_least_lem : low ≤ℤ value) (at_most : value ≤ℤ high) where
    pub narrowed_closer : (inside : List ℕ) → Proves 𝓜 c s t value (flagged inside) → (A A' B B' : List ℕ) (n : Narrowed) (side : Side)
        → Sided s t (flagged inside) side → Narrows (cut_of (darts 𝓜) 𝓜.tail c (flagged inside)) low high inside A A' B B' (Some n) side
        → Closer low high found n.low n.high found
    narrowed_closer inside proves A A' B B' n side.Source h r = record {
      rises = le_of_equal (sym r.0);
      falls = le_of_lt below;
      still = λ k. k;
      less = inr (inl below);
    }
      where
        below : n.high <ℤ high
        below =
            lt_le (rw (r.1, ← cut-of 𝓜 c (flagged inside)) (source_short 𝓜 c s t (flagged inside) h value proves)) at_most
    narrowed_closer inside proves A A' B B' n side.Sink h r = record {
      rises = le_of_lt above;
      falls = le_of_equal r.1;
      still = λ k. k;
      less = inl above;
    }
      where
        above : low <ℤ n.low
        above = le_lt at_least_lem (rw (r.0, ← cut-of 𝓜 c (flagged inside)) (sink_short 𝓜 c s t (flagged inside) h value proves))
    narrowed_closer inside proves A A' B B' n side.Beside h r = absurd r

    pub carried_closer : (high' : ℤ) → high' ≤ℤ high → (found ≡ true → low <ℤ value) → Closer low high found value high' true
    carried_closer high' l above = record { rises = at_least_lem; falls = l; still = λ _. refl; less = by found above }
      where
        by : (f : Bool) → (f ≡ true → low <ℤ value) → (low <ℤ value) ⊎ ((high' <ℤ high) ⊎ ((f ≡ false) × (true ≡ true)))
        by true h = inl (h refl)
        by false h = inr (inr (refl, refl))

  -- ── what is found from these bounds on, told of the slice before they were ──
  pub told_before : (before since : List ℤ) (A B : List ℕ) (low high : ℤ) (found : Bool) → Bracket 𝓜 outer c s t before since A B low high found
      → (flows : List ℤ) (A' : List ℕ) (r : Option ℤ) → Maximized 𝓜 outer c s t since flows A' r → Maximized 𝓜 outer c s t before flows A' r
  told_before before since A B low high true b flows A' (Some v) r =
      ((r.0.0, r.0.1, r.0.2 ∙ filled_again 𝓜.edges r.0.0 b.floor.0 before since b.floor.2), r.1, r.2)
  told_before before since A B low high true b flows A' None r =
      absurd (proves_excludes ground.plane.sound.range ground.two.source_in ground.two.sink_in ground.two.two c low (flagged A')
      (beside_proves 𝓜 c s t (flagged A') r.1 r.2 low) b.floor.0 b.floor.1.carries)
  told_before before since A B low high false b flows A' r h = subst (λ l. Maximized 𝓜 outer c s t l flows A' r) b.floor.0 h

  module _ (before flows : List ℤ) (A B : List ℕ) (low high : ℤ) (found : Bool) (b : Bracket 𝓜 outer c s t before flows A B low high found) where
    -- what is carried lies between the bounds
    carried_low : found ≡ true → (x : ℕ → ℤ) × Highest 𝓜 outer c s t low x
    carried_low e = let r = subst (Floor 𝓜 outer c s t before flows (flagged B) low) e b.floor in (r.0, r.1)

    excluded : (S : ℕ → Bool) → Proves 𝓜 c s t low S → found ≡ true → ⊥
    excluded S p e =
        let r = carried_low e in
        proves_excludes ground.plane.sound.range ground.two.source_in ground.two.sink_in ground.two.two c low S p r.0 r.1.carries

    -- ── a carried value is the new low bound ──
    pub carried : (value : ℤ) (flows' : List ℤ) (inside : List ℕ) → Decided 𝓜 outer c s t value flows flows' inside true
        → Bracket 𝓜 outer c s t before flows' A B value high true
    carried value flows' inside d = record { ceiling = b.ceiling; floor = (d.0, d.1, d.2 ∙ again found b.floor) }
      where
        again : (f : Bool) → Floor 𝓜 outer c s t before flows (flagged B) low f → filled 𝓜.edges d.0 flows ≡ filled 𝓜.edges d.0 before
        again true h = filled_again 𝓜.edges d.0 h.0 before flows h.2
        again false h = ap (filled 𝓜.edges d.0) h.0

    -- ── a set that was proposed ──
    pub lowered : (inside A' : List ℕ) (high' : ℤ) → Lowers s t (cut_of (darts 𝓜) 𝓜.tail c (flagged inside)) high high' inside A A'
        → Bracket 𝓜 outer c s t before flows A' B low high' found × (high' ≤ℤ high)
    lowered inside A' high' (stays e a) = (
      subst (λ h. Bracket 𝓜 outer c s t before flows A' B low h found) (sym e)
          (subst (λ l. Bracket 𝓜 outer c s t before flows l B low high found) (sym a) b),
      le_of_equal e,
    )
    lowered inside A' high' (falls side e l same) = (
      record {
        ceiling = record {
          side = (same s s_in ∙ side.0, same t t_in ∙ side.1);
          is_cut = e ∙ sym (cut-of 𝓜 c (flagged inside)) ∙ sym (same_cut A' inside same);
        };
        floor = b.floor;
      },
      le_of_lt l,
    )

    -- ── a proving set at the source, at the sink, beside both ──
    module _ (value : ℤ) (at_least_lem : low ≤ℤ value) (inside : List ℕ) (proves : Proves 𝓜 c s t value (flagged inside)) where
      pub at_source : AtSource s t (flagged inside) → (A' : List ℕ) → SameFlags A' inside → (total : ℤ) → total ≡ cut_of (darts 𝓜) 𝓜.tail c (flagged inside)
          → Bracket 𝓜 outer c s t before flows A' B low total found × (total <ℤ value)
      at_source side A' same total e = (
        record {
          ceiling = record { side = (same s s_in ∙ side.0, same t t_in ∙ side.1); is_cut = is_cut ∙ sym (same_cut A' inside same) };
          floor = b.floor;
        },
        rw is_cut (source_short 𝓜 c s t (flagged inside) side value proves),
      )
        where
          is_cut : total ≡ cut 𝓜 c (flagged inside)
          is_cut = e ∙ sym (cut-of 𝓜 c (flagged inside))

      pub at_sink : AtSink s t (flagged inside) → (B' : List ℕ) → SameFlags B' inside
          → (total : ℤ) → total ≡ neg_ℤ (cut_of (darts 𝓜) 𝓜.tail c (flagged inside))
          → (found ≡ false) × Bracket 𝓜 outer c s t before flows A B' total high found × (value <ℤ total)
      at_sink side B' same total e = go found refl b.floor
        where
          is_cut : total ≡ neg_ℤ (cut 𝓜 c (flagged inside))
          is_cut = e ∙ ap neg_ℤ (sym (cut-of 𝓜 c (flagged inside)))

          lies : (total ≤ℤ neg_ℤ (cut 𝓜 c (flagged B'))) × Limited 512000000 total
          lies = low_at_most (flagged B') total (inr (is_cut ∙ ap neg_ℤ (sym (same_cut B' inside same))))

          go : (f : Bool) → found ≡ f → Floor 𝓜 outer c s t before flows (flagged B) low f
              → (found ≡ false) × Bracket 𝓜 outer c s t before flows A B' total high found × (value <ℤ total)
          go true q h = absurd (excluded (flagged inside) (sink_proves_less 𝓜 c s t (flagged inside) side value low at_least_lem proves) q)
          go false q h = (
            q,
            record {
              ceiling = b.ceiling;
              floor = subst (Floor 𝓜 outer c s t before flows (flagged B') total) (sym q)
                  (h.0, (same s s_in ∙ side.0, same t t_in ∙ side.1), lies.0, lies.1);
            },
            rw is_cut (sink_short 𝓜 c s t (flagged inside) side value proves),
          )

      pub beside : Beside s t (flagged inside) → (A' : List ℕ) → SameFlags A' inside → Maximized 𝓜 outer c s t before flows A' None
      beside side A' same = go found refl b.floor
        where
          go : (f : Bool) → found ≡ f → Floor 𝓜 outer c s t before flows (flagged B) low f → Maximized 𝓜 outer c s t before flows A' None
          go true q h = absurd (excluded (flagged inside) (beside_proves_all 𝓜 c s t (flagged inside) side value proves low) q)
          go false q h = (h.0, same s s_in ∙ side ∙ sym (same t t_in), rw (same_cut A' inside same) (beside_short 𝓜 c s t (flagged inside) side value proves))

    -- ── the bounds have met: the high one is carried ──
    pub met : found ≡ true → low ≡ high → Maximized 𝓜 outer c s t before flows A (Some high)
    met e q =
        let r = subst (Floor 𝓜 outer c s t before flows (flagged B) low) e b.floor in
        ((r.0, subst (λ v. Highest 𝓜 outer c s t v r.0) q r.1, r.2), b.ceiling.side, b.ceiling.is_cut)

    -- ── the bounds have passed each other: the two sets joined ──
    pub passed : high <ℤ low → (A' : List ℕ) → Joins (darts 𝓜) 𝓜.tail c A A' B → Maximized 𝓜 outer c s t before flows A' None
    passed l A' j = go found refl b.floor
      where
        go : (f : Bool) → found ≡ f → Floor 𝓜 outer c s t before flows (flagged B) low f → Maximized 𝓜 outer c s t before flows A' None
        go true q h =
            absurd (lt_le_clash l (rw b.ceiling.is_cut (source_limits ground.plane.sound.range ground.two.source_in
            ground.two.sink_in ground.two.two c (flagged A) b.ceiling.side low h.0 h.1.carries)))
        go false q h = by j
          where
            none_between : (cut 𝓜 c (flagged A) +ℤ cut 𝓜 c (flagged B)) <ℤ pos 0
            none_between =
                let a = atoms₄ (cut 𝓜 c (flagged A)) (cut 𝓜 c (flagged B)) low high in
                less (search parts) (omega
                (arith, from_less l (search parts), from_equal b.ceiling.is_cut (search parts), from_at_most h.2 (search parts)))

            agree : (S : ℕ → Bool) → ((u : ℕ) → u < 1024 → flagged A' u ≡ S u) → cut 𝓜 c (flagged A') ≡ cut 𝓜 c S
            agree S same = cut_agrees ground.plane.sound.range (flagged A') S (λ v m. same v (omega (arith, ground.few_nodes))) c

            by : Joins (darts 𝓜) 𝓜.tail c A A' B → Maximized 𝓜 outer c s t before flows A' None
            by (inl r) =
                let both = union_both 𝓜 c s t (flagged A) (flagged B) b.ceiling.side h.1 in
                (h.0, r.0 s s_in ∙ both.0 ∙ sym (r.0 t t_in ∙ both.1), rw (agree _ r.0, cut-of 𝓜 c (union (flagged A) (flagged B))) r.1)
            by (inr r) =
                let neither = intersection_neither 𝓜 c s t (flagged A) (flagged B) b.ceiling.side h.1 in (
                  h.0,
                  r.0 s s_in ∙ neither.0 ∙ sym (r.0 t t_in ∙ neither.1),
                  rw (agree _ r.0) (intersection_short 𝓜 c s t (flagged A) (flagged B) b.ceiling.side h.1
                      ground.pairs none_between (rw (cut-of 𝓜 c (union (flagged A) (flagged B))) r.1)),
                )

    -- ── what a probe that cannot does, on whichever side its set lies ──
    module _ (value : ℤ) (at_least_lem : low ≤ℤ value) (at_most : value ≤ℤ high) (inside : List ℕ)
        (proves : Proves 𝓜 c s t value (flagged inside)) (A' B' : List ℕ) where
      abbrev total : ℤ
      total = cut_of (darts 𝓜) 𝓜.tail c (flagged inside)

      pub nothing : (side : Side) → Sided s t (flagged inside) side → Narrows total low high inside A A' B B' None side
          → Maximized 𝓜 outer c s t before flows A' None
      nothing side.Source h r = absurd r
      nothing side.Sink h r = absurd r
      nothing side.Beside h r = beside value at_least_lem inside proves h A' r

      pub narrowed : (n : Narrowed) (side : Side) → Sided s t (flagged inside) side → Narrows total low high inside A A' B B' (Some n) side
          → Bracket 𝓜 outer c s t before flows A' B' n.low n.high found
      narrowed n side.Source h r = rw (r.0, r.3) (at_source value at_least_lem inside proves h A' r.2 n.high r.1).0
      narrowed n side.Sink h r = rw (r.1, r.2) (at_sink value at_least_lem inside proves h B' r.3 n.low r.0).1
      narrowed n side.Beside h r = absurd r

-- ── bounds that are passed on come as the numbers of their bits ──
module _ {𝓜 : Map} (outer : ℕ) {c : ℕ → ℤ} {s t : ℕ} (ground : Ground 𝓜 c s t) (before flows : List ℤ) (A B : List ℕ) (low high : ℤ) (found : Bool)
    (b : Bracket 𝓜 outer c s t before flows A B low high found) where
  pub same_low : to_z w32 (of_z w32 low) ≡ low
  same_low = same_bits (omega arith) (low_small outer ground before flows (flagged B) low found b.floor)

  pub same_high : to_z w32 (of_z w32 high) ≡ high
  same_high = same_bits (omega arith) (high_small outer ground b.ceiling)

  pub bits_bracket : Bracket 𝓜 outer c s t before flows A B (to_z w32 (of_z w32 low)) (to_z w32 (of_z w32 high)) found
  bits_bracket =
      subst (λ l. Bracket 𝓜 outer c s t before flows A B l (to_z w32 (of_z w32 high)) found) (sym same_low)
      (subst (λ h. Bracket 𝓜 outer c s t before flows A B low h found) (sym same_high) b)

  pub bits_closer : {low₀ high₀ : ℤ} {found₀ : Bool} → Closer low₀ high₀ found₀ low high found
      → Closer low₀ high₀ found₀ (to_z w32 (of_z w32 low)) (to_z w32 (of_z w32 high)) found
  bits_closer {low₀} {high₀} {found₀} h =
      subst (λ l. Closer low₀ high₀ found₀ l (to_z w32 (of_z w32 high)) found) (sym same_low)
      (subst (λ k. Closer low₀ high₀ found₀ low k found) (sym same_high) h)

-- a probe that cannot leaves the slice
pub same_bracket : {𝓜 : Map} {outer : ℕ} {c : ℕ → ℤ} {s t : ℕ} {before flows flows' : List ℤ} {A B : List ℕ} {low high : ℤ} {found : Bool} → flows' ≡ flows
    → Bracket 𝓜 outer c s t before flows A B low high found → Bracket 𝓜 outer c s t before flows' A B low high found
same_bracket {𝓜} {outer} {c} {s} {t} {before} {A = A} {B = B} {low = low} {high = high} {found = found} e b =
    subst (λ f. Bracket 𝓜 outer c s t before f A B low high found) (sym e) b

pub nothing_here : (𝓜 : Map) (outer : ℕ) (c : ℕ → ℤ) (s t : ℕ) (before flows flows' : List ℤ) (A : List ℕ) → flows' ≡ flows
    → Maximized 𝓜 outer c s t before flows A None → Maximized 𝓜 outer c s t before flows' A None
nothing_here 𝓜 outer c s t before flows flows' A e h = (e ∙ h.0, h.1, h.2)

-- the slice is as long as it was
pub bracket_length : {𝓜 : Map} {outer : ℕ} {c : ℕ → ℤ} {s t : ℕ} {before flows : List ℤ} {A B : List ℕ} {low high : ℤ} (found : Bool)
    → 𝓜.edges ≤ length before → Bracket 𝓜 outer c s t before flows A B low high found → length flows ≡ length before
bracket_length {𝓜} {before = before} {flows = flows} true room b = filled_length 𝓜.edges b.floor.0 before flows b.floor.2 room
bracket_length false room b = ap length b.floor.0

-- the same bounds, with the slice as it is for the slice before
pub anew : {𝓜 : Map} {outer : ℕ} {c : ℕ → ℤ} {s t : ℕ} {before flows : List ℤ} {A B : List ℕ} {low high : ℤ} (found : Bool)
    → Bracket 𝓜 outer c s t before flows A B low high found → Bracket 𝓜 outer c s t flows flows A B low high found
anew {𝓜} {before = before} {flows = flows} true b = record {
  ceiling = b.ceiling;
  floor = (b.floor.0, b.floor.1, b.floor.2 ∙ sym (filled_again 𝓜.edges b.floor.0 b.floor.0 before flows b.floor.2));
}
anew false b = record { ceiling = b.ceiling; floor = (refl, b.floor.1, b.floor.2, b.floor.3) }
