-- Source and sink are in one tree, and the path through it is what the lengths are made of; or they are not, and no walk joins the two (`Preparing`).
use mathlib.Core.Logic.{inl, inr}
use native.Mathlib.Omega.{arith}
use lib.IntN.{pos}
use lib.Signed.{◌≤ℤ◌, ◌<ℤ◌}
use Rattle.integers.proofs.Laws.{lt_of_test, ge_of_test, le_antisym}
use Rattle.signed.proofs.Laws.{number_of_bits}
use Rattle.arrays.specs.inner.Flags.{flagged}
use Rattle.solver.proofs.Preparing.{same_value, small_value, lengths_fillable, lengthened, lengthened_none, source_part, sink_part}
use Rattle.solver.proofs.Naming.{measured_by}
use Rattle.solver.proofs.cut_apart.Statement.{statement}
use Rattle.solver.proofs.cut_apart.Tie as tie

mul-fill-lengths : tie.Need-overflow_mul-edges
mul-fill-lengths c = omega (arith, c.requires.2)

fill-lengths-requires : tie.Need-fill_lengths-requires
fill-lengths-requires c κs =
    let p = c.requires in
    (p.0, lengths_fillable p.2 p.6 p.4 p.5 p.7 (small_value p.8))

-- ── in one tree ──
abbrev begun : tie.After-fill_lengths → tie.Start
begun c = c.before.before

returns : tie.Need-returns-then-fill_lengths
returns c =
    let w = c in
    let p = (begun w.before).requires in
    let e = w.fill_lengths.ensures in
    (e.0, p.1, lengthened p.2 p.6 (same_value p.8) e.1 c.if-fill_lengths.true, measured_by (same_value p.8) e.1 (inl c.if-fill_lengths.true))

-- ── in two: above 0 ──
flag-part-requires : tie.Need-flag_part-requires
flag-part-requires c κs =
    let p = (begun c.before.before.before).requires in
    (p.1, p.2, p.3, p.4, p.6.sound)

returns-2 : tie.Need-returns-then-value-gt0
returns-2 c =
    let t = c in
    let o = t in
    let w = o in
    let s = begun w.before.before.before.before in
    let p = s.requires in
    let f = w.fill_lengths.ensures in
    let e = c.flag_part.ensures in
    let above : pos 0 <ℤ s.args.value = lt_of_test _ _ (rw (number_of_bits _ s.ranges.value) at t.if-value-gt0.true) in (
      f.0,
      e.0,
      source_part p.2 p.6 (same_value p.8) f.1 (flagged c.flag_part.new.inside) o.if-fill_lengths.false p.5 e.1
          above,
      measured_by (same_value p.8) f.1 (o.if-fill_lengths.false, inl (above, e.1)),
    )

-- ── below 0 ──
flag-part-requires-2 : tie.Need-flag_part-requires-then-value-lt0
flag-part-requires-2 c κs =
    let p = (begun c.before.before.before.before).requires in
    (p.1, p.2, p.3, p.5, p.6.sound)

returns-3 : tie.Need-returns-then-value-lt0
returns-3 c =
    let t = c in
    let o = t in
    let w = o in
    let s = begun w.before.before.before.before.before in
    let p = s.requires in
    let f = w.fill_lengths.ensures in
    let e = c.flag_part-then-value-lt0.ensures in
    let below : s.args.value <ℤ pos 0 = lt_of_test _ _ (rw (number_of_bits _ s.ranges.value) at t.if-value-lt0.true) in (
      f.0,
      e.0,
      sink_part p.2 p.6 (same_value p.8) f.1 (flagged c.flag_part-then-value-lt0.new.inside) o.if-fill_lengths.false p.4 e.1
          below,
      measured_by (same_value p.8) f.1 (o.if-fill_lengths.false, inr (below, e.1)),
    )

-- ── 0: along no path ──
returns-4 : tie.Need-returns
returns-4 c =
    let w = c in
    let s = begun w.before.before.before in
    let p = s.requires in
    let e = w.fill_lengths.ensures in
    let high : s.args.value ≤ℤ pos 0 = ge_of_test _ _ (rw (number_of_bits _ s.ranges.value) at c.if-value-gt0.false) in
    let low : pos 0 ≤ℤ s.args.value = ge_of_test _ _ (rw (number_of_bits _ s.ranges.value) at c.if-value-lt0.false) in
    let none = le_antisym high low in
    (e.0, p.1, lengthened_none p.2 p.6 (same_value p.8) e.1 none, measured_by (same_value p.8) e.1 (inr none))

pub cut_apart_spec : {M : Type 1} → statement M
cut_apart_spec =
    tie.close
    (tie.spec
    mul-fill-lengths
    fill-lengths-requires
    returns
    flag-part-requires
    returns-2
    flag-part-requires-2
    returns-3
    returns-4)
