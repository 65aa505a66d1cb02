-- The record of an edge: where it begins and ends, by division, among the edges that run east or among those that run south.
use mathlib.Core.Path.{◌≡◌}
use Prim.Native.Nat.{ℕ, ◌+◌, ◌*◌, ◌-◌, ◌/◌, ◌%◌, ◌≤◌, ◌<◌}
use native.Mathlib.Omega.{arith}
use lib.IntN.{ℤ, pos}
use mathlib.Core.List.{List}
use Rattle.integers.proofs.Tests.{ltb_true}
use Rattle.signed.proofs.Laws.{number_of_bits}
use Rattle.fields.specs.Fields.{put}
use Rattle.records.specs.Encode.{edge_bytes}
use Rattle.practice.specs.Grid.{Place, present, node_at, rotation_at}
use Rattle.practice.proofs.Coordinates.{row_of}
use Rattle.practice.proofs.Writing.{begins_across, ends_across, begins_down, ends_down}
use Rattle.practice.proofs.write_edge.Goals as goal

-- the record of an edge with these ends, and with what they are
same-record : (rows columns place : ℕ) (old : List ℕ) {l : List ℕ} {p p' q q' : Place} {x x' : ℤ}
    → l ≡ put place (edge_bytes (node_at rows columns p) (node_at rows columns q) (rotation_at rows columns p) (rotation_at rows columns q) x (pos 0)) old
    → p' ≡ p → q' ≡ q → x ≡ x'
    → l ≡ put place (edge_bytes (node_at rows columns p') (node_at rows columns q') (rotation_at rows columns p') (rotation_at rows columns q') x' (pos 0)) old
same-record rows columns place old h b e f = rw (b, e, ← f) h

-- ── the edges that run east ──
pub write_between-requires : goal.write_between-requires
unfolding present
write_between-requires c =
    let a = c.args in
    let p = c.requires in
    let q = row_of (a.columns - 1) a.rows a.e (omega (arith, c.if-e-first.true, c.times-first.ensures.0)) in
    let column = a.e % (a.columns - 1) in
    let next : column + 1 < a.columns = omega (arith, q.1) in (
      p.0,
      p.1,
      p.2,
      p.4,
      q.0,
      omega (arith, q.1),
      ltb_true (column + 1) a.columns next,
      q.0,
      next,
      ltb_true 0 (column + 1) (omega arith),
    )

pub returns-then-e-first : goal.returns-then-e-first
returns-then-e-first c =
    let a = c.args in
    let first : a.e < a.rows * (a.columns - 1) = omega (arith, c.if-e-first.true, c.times-first.ensures.0) in
    same-record a.rows a.columns a.place a.out.now c.write_between.ensures
    (begins_across a.rows a.columns a.e first) (ends_across a.rows a.columns a.e first) (number_of_bits a.forward c.ranges.forward)

-- ── the edges that run south ──
pub write_between-requires-2 : goal.write_between-requires-2
unfolding present
write_between-requires-2 c =
    let a = c.args in
    let p = c.requires in
    let rest = a.e - c.times-first.result in
    let q = row_of a.columns (a.rows - 1) rest (omega (arith, p.5, c.if-e-first.false, c.times-first.ensures.0)) in
    let row = rest / a.columns in
    let next : row + 1 < a.rows = omega (arith, q.0) in (
      p.0,
      p.1,
      p.2,
      p.4,
      omega (arith, q.0),
      q.1,
      ltb_true (row + 1) a.rows next,
      next,
      q.1,
      ltb_true 0 (row + 1) (omega arith),
    )

pub returns : goal.returns
returns c =
    let a = c.args in
    let k = c.times-first.ensures.0 in
    let second : a.rows * (a.columns - 1) ≤ a.e = omega (arith, c.if-e-first.false, k) in
    same-record a.rows a.columns a.place a.out.now (rw k at c.write_between-2.ensures)
    (begins_down a.rows a.columns a.e second) (ends_down a.rows a.columns a.e second) (number_of_bits a.forward c.ranges.forward)
