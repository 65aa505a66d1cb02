use mathlib.Core.Path.{◌≡◌, refl, sym, ◌∙◌}
use mathlib.Core.Logic.{◌≢◌}
use Prim.Native.Nat.{ℕ, ◌*◌, ◌-◌, ◌≤◌, ◌<◌}
use native.Mathlib.Omega.{arith}
use native.Mathlib.Decide.{dec_lt}
use lib.ListN.{set, length-set}
use lib.Seq.{get_or-set_same, get_or-set_other}
use Rattle.maps.specs.Orbit.{Permutes}
use Rattle.arrays.specs.At.{at}
use Rattle.rotations.specs.inner.Holding.{holding}
use Rattle.traversal.specs.inner.Mark.{unmarked}
use Rattle.rotations.proofs.Holding.{holding_all, holding_none, none_holds}
use Rattle.rotations.proofs.Numbering.{Numbering, numbering_start, numbering_end, number_small, used_few, pass, pass_all}
use Rattle.rotations.proofs.Numbering.{markable, mark, is-lowest, number_is}
use Rattle.rotations.proofs.Grouping.{grouping_none, grouping_on, grouping_end, rounding_none, rounding_on}
use Rattle.rotations.proofs.number_faces.Goals as goal

-- where some dart has no number, there is a next one
next-in : {n : ℕ} {next label : ℕ → ℕ} {d f free : ℕ} → n ≤ 1024 → Permutes n next → Numbering n next label d f → free ≡ holding unmarked n label
    → 0 < free → d < n
next-in {n} {label = label} {d} few π ν counted some = go (dec_lt d n)
  where
    none : n ≤ d → holding unmarked n label ≡ 0
    none m =
        let done = numbering_end few π ν (omega (arith, ν.upto, m)) in
        holding_none unmarked _ _ (λ y l e. omega (arith, done.1 y l, number_small few π y l, e))

    go : Dec (d < n) → d < n
    go (yes l) = l
    go (no l) = absurd (omega (arith, counted, none (omega (arith, l))))

pub loop-free-init : goal.loop-free-init
loop-free-init c =
    let p = c.requires in
    let e = c.unmark_all.ensures in
    let few : 2 * c.args.edges ≤ 1024 = omega (arith, p.0) in
    record {
      long = e.0;
      long_grouped = p.2;
      long_starts = p.3;
      numbered = numbering_start few p.4 e.1;
      grouping = grouping_none few e.1;
      ahead = λ l. l;
      counted = sym (holding_all unmarked _ _ (λ y l. e.1 y (omega (arith, l, few))));
      rounding = rounding_none;
    }

-- the face of the next dart may be numbered
pub mark_face-free-requires : goal.mark_face-free-requires
mark_face-free-requires c =
    let i = c.loop-free.invariant in
    let few : 2 * c.args.edges ≤ 1024 = omega (arith, c.requires.0) in (
      i.long,
      i.long_grouped,
      rw c.narrow.ensures (markable few c.requires.4 i.numbered (i.ahead c.loop-free-test.true) c.if-lefts-d.true),
      i.counted,
      i.grouping.room,
    )

pub bounds-starts-f : goal.bounds-starts-f
bounds-starts-f c =
    let i = c.loop-free.invariant in
    let few : 2 * c.args.edges ≤ 1024 = omega (arith, c.requires.0) in
    omega (arith, few, used_few few c.requires.4 i.numbered, i.ahead c.loop-free-test.true)

-- the face is numbered
pub loop-free-preserved-then-lefts-d : goal.loop-free-preserved-then-lefts-d
loop-free-preserved-then-lefts-d c =
    let o = c.loop-free in
    let i = o.invariant in
    let few : 2 * c.args.edges ≤ 1024 = omega (arith, c.requires.0) in
    let π = c.requires.4 in
    let inside = i.ahead c.loop-free-test.true in
    let free = c.if-lefts-d.true in
    let e = c.mark_face-free.ensures in
    let last = c.narrow-then-lefts-d in
    let marked = rw c.narrow.ensures at e.2 in
    let on = mark few π i.numbered inside free marked in
    let begins = get_or-set_same o.starts o.f last.result 0 (omega (arith, few, used_few few π i.numbered, i.long_starts)) ∙ last.ensures in
    let starts-kept : (g : ℕ) → g ≢ o.f → at (set o.starts o.f last.result) g ≡ at o.starts g =
    λ g h. get_or-set_other o.starts o.f g last.result 0 h in
    record {
      long = e.0;
      long_grouped = e.1;
      long_starts = length-set o.starts o.f last.result ∙ i.long_starts;
      numbered = on;
      grouping = grouping_on i.grouping (markable few π i.numbered inside free) marked e.3 begins starts-kept;
      ahead = next-in few π on e.4;
      counted = e.4;
      rounding = rounding_on i.rounding inside (is-lowest few π i.numbered inside free) (number_is few π i.numbered inside free) e.5 e.3.kept begins
          starts-kept i.grouping.low_is;
    }

-- the dart has a number already
pub loop-free-preserved : goal.loop-free-preserved
loop-free-preserved c =
    let i = c.loop-free.invariant in
    let few : 2 * c.args.edges ≤ 1024 = omega (arith, c.requires.0) in
    let on = pass few c.requires.4 i.numbered (i.ahead c.loop-free-test.true) c.if-lefts-d.false in
    record {
      long = i.long;
      long_grouped = i.long_grouped;
      long_starts = i.long_starts;
      numbered = on;
      grouping = i.grouping;
      ahead = next-in few c.requires.4 on i.counted;
      counted = i.counted;
      rounding = i.rounding;
    }

-- all darts have their numbers
pub returns : goal.returns
returns c =
    let o = c.loop-free in
    let i = o.invariant in
    let few : 2 * c.args.edges ≤ 1024 = omega (arith, c.requires.0) in
    let π = c.requires.4 in
    let n = 2 * c.args.edges in
    let all = none_holds unmarked n (at o.lefts) (omega (arith, i.counted)) in
    let done = numbering_end few π (pass_all few π (n - o.next) o.next i.numbered (omega (arith, i.numbered.upto)) all) refl in (
      i.long,
      i.long_grouped,
      i.long_starts,
      done.0,
      done.1,
      grouping_end o.lefts o.grouped o.starts i.grouping (λ y l e. omega (arith, done.1 y l, number_small few π y l, e)),
      i.rounding.so_far,
    )
