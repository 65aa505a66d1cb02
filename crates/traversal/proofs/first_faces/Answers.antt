-- A dart marked with its own number begins the next tree, and its face is the next root.
use Rattle.std.proofs.Common.{◌≡◌, ℕ, ◌+◌, ◌<◌, ◌≤◌, ◌≢◌, List, length, sym, ◌∙◌, ap, arith}
use lib.ListN.{set, length-set}
use lib.Seq.{get_or-set_same, get_or-set_other}
use Rattle.arrays.specs.At.{at}
use Rattle.traversal.specs.inner.Forest.{Forest}
use Rattle.traversal.proofs.Rooting.{Rooting, rooting_ahead, trees_few, rooting_written, rooting_passed, rooting_end}
use Rattle.traversal.proofs.first_faces.Goals as goal
use Rattle.traversal.proofs.first_faces.Goals.{then-p-d+else-count-trees, else-p-d}

module _ {rotation : ℕ → ℕ} {first : ℕ} {order from : ℕ → ℕ} {n trees : ℕ} (𝓕 : Forest n rotation first order from trees)
    (left : ℕ → ℕ) (roots : List ℕ) {i count d p : ℕ} where
  next_root : Rooting rotation first order from n trees 𝓕.planted left (at roots) i count → i < n → d ≡ order i → p ≡ from d → p ≡ d
      → count < length roots → Rooting rotation first order from n trees 𝓕.planted left (at (set roots count (left d))) (i + 1) (count + 1)
  next_root ξ l is met own room =
      rooting_written 𝓕.planted ξ l 𝓕.apart (ap from (sym is) ∙ sym met ∙ own ∙ is)
      (get_or-set_same roots count (left d) 0 room ∙ ap left is) (λ u h. get_or-set_other roots count u (left d) 0 h)

  no_root : Rooting rotation first order from n trees 𝓕.planted left (at roots) i count → i < n → d ≡ order i → p ≡ from d → p ≢ d
      → Rooting rotation first order from n trees 𝓕.planted left (at roots) (i + 1) count
  no_root ξ l is met other = rooting_passed 𝓕.planted ξ l (λ e. other (met ∙ ap from is ∙ e ∙ sym is))

-- the places behind the next root are kept
kept_behind : (roots before : List ℕ) {count : ℕ} (x : ℕ) → ((u : ℕ) → count ≤ u → at roots u ≡ at before u) → (u : ℕ) → count + 1 ≤ u
    → at (set roots count x) u ≡ at before u
kept_behind roots before {count} x kept u l = get_or-set_other roots count u x 0 (λ e. omega (arith, e, l)) ∙ kept u (omega (arith, l))

pub offset_bounds-roots-count : goal.offset_bounds-roots-count
offset_bounds-roots-count c = omega (arith, trees_few c.requires.2)

pub bounds-roots-count : goal.bounds-roots-count
bounds-roots-count c = omega (arith, trees_few c.requires.2)

pub returns-then-count-trees : goal.returns-then-count-trees
returns-then-count-trees c =
    let o = c.loop-i in
    let i = o.invariant in
    let face = at c.args.lefts.now c.wide-d.result in
    let here : o.count < length o.roots = omega (arith, i.long, trees_few c.requires.2) in
    let ξ = λ (𝓕 : Forest c.args.darts (at c.args.rotations.now) c.args.first (at c.args.order.now) (at c.args.from.now) c.args.trees).
    next_root 𝓕 (at c.args.lefts.now) o.roots (i.written 𝓕) c.loop-i-test.true c.wide-d.ensures c.wide-p.ensures c.if-p-d.true here in (
      length-set o.roots o.count face ∙ i.long,
      rooting_end c.requires.2 (omega (arith, c.if-count-trees.true)) (ξ c.requires.2),
      record {
        are = λ 𝓕 t l. ((ξ 𝓕).written t (omega (arith, l, c.if-count-trees.true))).2;
        kept = λ u l. kept_behind o.roots c.args.roots.now face i.kept u (omega (arith, l, c.if-count-trees.true));
      },
    )

pub loop-i-preserved : goal.loop-i-preserved
loop-i-preserved c =
    let o = c.loop-i in
    let i = o.invariant in
    let face = at c.args.lefts.now c.wide-d.result in
    let here : o.count < length o.roots = omega (arith, i.long, trees_few c.requires.2) in
    elim c.if-p-d.branch [
      | then-p-d+else-count-trees w ↦ rw (w.roots-is, w.count-is) (record {
        long = length-set o.roots o.count face ∙ i.long;
        ahead = omega (arith, i.ahead, w.if-count-trees.false);
        written = λ 𝓕. next_root 𝓕 (at c.args.lefts.now) o.roots (i.written 𝓕) c.loop-i-test.true c.wide-d.ensures c.wide-p.ensures w.if-p-d.true here;
        kept = kept_behind o.roots c.args.roots.now face i.kept;
      })
      | else-p-d w ↦ rw (w.roots-is, w.count-is) (record {
        long = i.long;
        ahead = i.ahead;
        written = λ 𝓕. no_root 𝓕 (at c.args.lefts.now) o.roots (i.written 𝓕) c.loop-i-test.true c.wide-d.ensures c.wide-p.ensures w.if-p-d.false;
        kept = i.kept;
      })
    ]

pub returns : goal.returns
returns c =
    let i = c.loop-i.invariant in
    let 𝓕 = c.requires.2 in
    absurd (omega (arith, c.loop-i-test.false, rooting_ahead 𝓕.planted (i.written 𝓕) i.ahead))
