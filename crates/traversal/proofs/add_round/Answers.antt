use Rattle.std.proofs.Common.{◌≡◌, ℕ, ◌+◌, ◌<◌, length, sym, ◌∙◌, ap, arith}
use mathlib.Core.Logic.{inr}
use lib.ListN.{set, length-set}
use lib.Seq.{get_or-set_same, get_or-set_other}
use Rattle.arrays.specs.At.{at}
use Rattle.traversal.proofs.Spreading.{room, added_grew, growing_added}
use Rattle.traversal.proofs.Rounding.{stay, rounding_start, rounding_on, rounding_end, rounding_merged, rounding_astray}
use Rattle.traversal.proofs.Coming.{first_come_added, comes_turned, parted_owned}
use Rattle.traversal.proofs.add_round.Goals as goal

pub returns-then-owner-v-ne0 : goal.returns-then-owner-v-ne0
returns-then-owner-v-ne0 c =
    let p = c.requires in
    (p.0, p.1, p.2, parted_owned p.11 p.4 p.6 p.9 (λ e. c.if-owner-v-ne0.true (ap (at c.args.owner.now) c.wide-v.ensures ∙ e)))

pub loop-next-init : goal.loop-next-init
loop-next-init c =
    let p = c.requires in
    let e = c.add-listed.ensures in
    let v = c.wide-v.result in
    let is-v = c.wide-v.ensures in
    let owner = c.args.owner.now in
    let n = c.narrow in
    let longer = added_grew e.2 p.9 in
    let here : v < length owner = omega (arith, p.2, is-v, p.5 c.args.d p.6) in
    record {
      order_long = e.0;
      from_long = e.1;
      owner_long = length-set owner v n.result ∙ p.2;
      grown = p.10 _ _ _ e.2;
      round = rounding_start p.11 p.6 e.2 p.9 (ap (at owner) (sym is-v) ∙ c.if-owner-v-ne0.false)
          (ap (at (set owner v n.result)) (sym is-v) ∙ get_or-set_same owner v n.result 0 here ∙ n.ensures)
          (λ u h. get_or-set_other owner v u n.result 0 (λ q. h (q ∙ is-v)));
      turned = c.wide-next.ensures;
      ends = (c.args.end, omega (arith, e.2.by_one), (e.2.new (omega arith)).0);
      longer = omega arith;
      kept = e.2.kept;
      stay = stay e.2;
      came = first_come_added e.2 p.13 p.12 (p.14 _ _ _ e.2);
    }

-- ── in the loop ──
pub returns-then-from-next : goal.returns-then-from-next
returns-then-from-next c =
    let i = c.loop-next.invariant in
    let below : c.loop-next.next < c.args.darts = omega (arith, i.turned, c.requires.4 c.loop-next.last i.round.inside) in
    (i.order_long, i.from_long, i.owner_long, rounding_merged i.round i.turned below c.if-from-next.true c.loop-next-test.true)

pub returns-then-wide-v : goal.returns-then-wide-v
returns-then-wide-v c =
    let i = c.loop-next.invariant in (
      i.order_long,
      i.from_long,
      i.owner_long,
      rounding_astray i.round i.turned (λ e. c.if-wide-v.true (c.wide.ensures ∙ e ∙ sym c.wide-v.ensures)),
    )

pub add-listed-requires-in-loop-next : goal.add-listed-requires-in-loop-next
add-listed-requires-in-loop-next c =
    let i = c.loop-next.invariant in
    let p = c.requires in
    let below : c.loop-next.next < c.args.darts = omega (arith, i.turned, p.4 c.loop-next.last i.round.inside) in (
      i.order_long,
      i.from_long,
      omega (arith, below, p.3),
      omega (arith, i.round.inside, p.3),
      λ z. omega (arith, room i.grown c.loop-next.next below z, p.3),
    )

pub loop-next-smaller : goal.loop-next-smaller
loop-next-smaller c =
    let i = c.loop-next.invariant in
    let below : c.loop-next.next < c.args.darts = omega (arith, i.turned, c.requires.4 c.loop-next.last i.round.inside) in
    let fresh = c.if-from-next.false in
    omega (arith, added_grew c.add-listed-in-loop-next.ensures.2 fresh, room i.grown c.loop-next.next below fresh)

pub loop-next-preserved : goal.loop-next-preserved
loop-next-preserved c =
    let o = c.loop-next in
    let i = o.invariant in
    let below : o.next < c.args.darts = omega (arith, i.turned, c.requires.4 o.last i.round.inside) in
    let fresh = c.if-from-next.false in
    let q = c.add-listed-in-loop-next.ensures in
    let longer = added_grew q.2 fresh in
    record {
      order_long = q.0;
      from_long = q.1;
      owner_long = i.owner_long;
      grown = growing_added i.grown below q.2 (omega (arith, i.ends.1)) (sym i.ends.2)
          (inr (i.turned ∙ ap (at c.args.rotations.now) (sym i.ends.2)));
      round = rounding_on i.round q.2 fresh i.turned below (sym c.wide.ensures ∙ c.if-wide-v.false ∙ c.wide-v.ensures);
      turned = c.wide-next-in-loop-next.ensures;
      ends = (o.listed, omega (arith, q.2.by_one), (q.2.new (omega arith)).0);
      longer = omega (arith, i.longer);
      kept = λ k m. q.2.kept k (omega (arith, i.longer)) ∙ i.kept k m;
      stay = λ y h. stay q.2 y (i.stay y h);
      came = first_come_added q.2 i.grown.marked i.came (comes_turned q.2 fresh i.ends.1 i.ends.2 i.turned);
    }

pub returns : goal.returns
returns c =
    let o = c.loop-next in
    let i = o.invariant in
    let rotation = at c.args.rotations.now in
    -- the dart listed last leads back to the first
    let back = λ (k : ℕ) (n : o.listed ≡ k + 1). sym c.loop-next-test.false ∙ i.turned
    ∙ ap rotation (sym i.ends.2 ∙ ap (at o.order) (omega (arith, n, i.ends.1))) in (
      i.order_long,
      i.from_long,
      i.owner_long,
      (
        i.grown,
        rounding_end i.round (sym i.turned ∙ c.loop-next-test.false),
        i.round.begun,
        i.kept,
        i.longer,
        i.stay,
        i.came,
        λ k n. let m = i.grown.listed _ c.requires.6 i.round.begun in (m.0, m.1, m.2 ∙ back k n),
      ),
    )
