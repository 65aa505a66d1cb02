use Rattle.std.proofs.Common.{◌≡◌, ◌+◌, ◌-◌, ◌<◌, subst, arith}
use lib.ListN.{set}
use Rattle.search.specs.Configuration.{tables_of}
use Rattle.search.proofs.Falling.{Falling, falling_first, falling_on, falling_last, face_in, dart_in, left_in, right_in, right_near, length_near}
use Rattle.search.proofs.descend.Goals as goal

pub loop-k-init : goal.loop-k-init
loop-k-init c =
    let a = c.args in
    let all : a.count ≡ a.count - 0 = omega arith in
    let t = tables_of a.potentials.now a.parents.now a.waiting.now a.queue.now a.last in
    subst (λ k. Falling a.lefts.now a.lengths.now a.darts a.faces t a.f a.count a.links.now k a.from a.links.now t) all (falling_first c.requires)

pub offset_bounds-links-y : goal.offset_bounds-links-y
offset_bounds-links-y c = let i = c.loop-k.invariant in omega (arith, face_in i (omega (arith, c.loop-k-test.true)), i.sound.few_faces)

pub bounds-links-y : goal.bounds-links-y
bounds-links-y c = let i = c.loop-k.invariant in omega (arith, face_in i (omega (arith, c.loop-k-test.true)), i.sound.few_faces)

pub offset_bounds-links-y-in-loop-k : goal.offset_bounds-links-y-in-loop-k
offset_bounds-links-y-in-loop-k c = let i = c.loop-k.invariant in omega (arith, face_in i (omega (arith, c.loop-k-test.true)), i.sound.few_faces)

pub bounds-links-y-in-loop-k : goal.bounds-links-y-in-loop-k
bounds-links-y-in-loop-k c = let i = c.loop-k.invariant in omega (arith, face_in i (omega (arith, c.loop-k-test.true)), i.sound.few_faces)

pub follow-end-requires : goal.follow-end-requires
follow-end-requires c =
    let i = c.loop-k.invariant in
    let some : 0 < c.args.count - c.loop-k._k = omega (arith, c.loop-k-test.true) in
    let r = i.descending.passing in
    let few = i.sound.few_faces in (
      r.size_potentials,
      r.size_parents,
      r.size_waiting,
      r.size_queue,
      omega (arith, face_in i some, few),
      omega (arith, dart_in i some, i.sound.few_darts),
      omega (arith, left_in i some),
      omega (arith, right_in i some),
      omega (arith, r.spent),
      λ has. omega (arith, right_near i some has, length_near i some),
    )

pub loop-k-preserved : goal.loop-k-preserved
loop-k-preserved c =
    let a = c.args in
    let o = c.loop-k in
    let n = c.follow-end.new in
    let some : 0 < a.count - o._k = omega (arith, c.loop-k-test.true) in
    let one_less : a.count - o._k - 1 ≡ a.count - (o._k + 1) = omega arith in
    subst
    (λ k. Falling a.lefts.now a.lengths.now a.darts a.faces
    (tables_of a.potentials.now a.parents.now a.waiting.now a.queue.now a.last) a.f a.count a.links.now k c.wide-below.result
    (set o.links o.y 1025) (tables_of n.potentials n.parents n.waiting n.queue c.follow-end.result))
    one_less (falling_on o.invariant some c.wide-below.result c.wide-below.ensures c.follow-end.ensures)

pub returns : goal.returns
returns c = falling_last c.loop-k.invariant (omega (arith, c.loop-k-test.false))
