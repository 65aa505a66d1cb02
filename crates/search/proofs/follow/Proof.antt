-- `follow` meets its contract: its three ways out are the three cases of `Follows`.
use mathlib.Core.Path.{◌≡◌, ◌∙◌, ap}
use Prim.Native.Nat.{◌<◌}
use native.Mathlib.Omega.{arith}
use lib.Signed.{mag}
use borrow.Author.Rules.{rules}
use Rattle.arrays.specs.At.{at, atℤ}
use Rattle.arrays.specs.Maps.{right_of}
use Rattle.search.specs.Level.{HasLevel}
use Rattle.search.specs.Configuration.{Tables, tables_of}
use Rattle.search.proofs.Following.{follow_leaves, follow_keeps, follow_falls}
use Rattle.search.proofs.follow.Statement.{statement}
use Rattle.search.proofs.follow.Tie as tie

abbrev tablesAt : tie.Start → Tables
tablesAt s = let a = s.args in tables_of a.potentials.now a.parents.now a.waiting.now a.queue.now a.last

abbrev base : tie.After-right-w → tie.Start
base c = c.before.before.before.before

across : (c : tie.After-right-w) → c.right-w.result ≡ right_of (base c).args.lefts.now (at (base c).args.parents.now (base c).args.y)
across c = c.right-w.ensures ∙ ap (right_of (base c).args.lefts.now) c.wide-p.ensures

w-small : (c : tie.After-right-w) → c.right-w.result < 1024
w-small c = omega (arith, across c, (base c).requires.7)

returns : tie.Need-returns-then-is_far
returns c =
    let k = c in
    let r = k in
    follow_leaves _ _ (tablesAt (base r.before.before)) _ r.wide-p.result r.right-w.result r.wide-p.ensures r.right-w.ensures
    (k.is_far.ensures.0 c.if-is_far.true)

-- ── the face across has a level ──
abbrev crossing : tie.Else-is_far → tie.After-right-w
crossing c = c.before.before

has : (c : tie.Else-is_far) → HasLevel (atℤ (base (crossing c)).args.potentials.now) (crossing c).right-w.result
has c = c.is_far.ensures.1 c.if-is_far.false

relax-requires : tie.Need-relax-requires
relax-requires c κs =
    let e = c in
    let r = crossing e.before.before in
    let s = base r in
    let a = s.args in
    let w = r.wide-p.ensures in
    let near = s.requires.9 (λ q. has e.before.before (ap (atℤ a.potentials.now) (across r) ∙ q)) in (
      s.requires.0,
      s.requires.1,
      w-small r,
      omega (arith, w, s.requires.5),
      omega (arith, ap (at a.lefts.now) w, s.requires.6),
      omega (arith, near, ap (λ x. mag (atℤ a.potentials.now x)) (across r), ap (λ x. mag (atℤ a.lengths.now x)) w),
    )

returns-2 : tie.Need-returns-then-relax
returns-2 c =
    let t = c in
    let x = t.relax in
    let e = t in
    let r = crossing e.before.before.before.before.before.before.before in
    follow_falls _ _ (tablesAt (base r)) _ r.wide-p.result r.right-w.result r.wide-p.ensures r.right-w.ensures
    (has e.before.before.before.before.before.before.before) _
    x.result t.if-relax.true x.ensures c.push.ensures

returns-3 : tie.Need-returns
returns-3 c =
    let x = c.relax in
    let e = c in
    let r = crossing e.before.before.before.before in
    follow_keeps _ _ (tablesAt (base r)) _ r.wide-p.result r.right-w.result r.wide-p.ensures r.right-w.ensures (has e.before.before.before.before) _ _
    x.result c.if-relax.false x.ensures

pub follow_spec : {M : Type 1} → statement M
follow_spec =
    tie.close
    (tie.spec
    (λ c. search rules)
    (λ c. search rules)
    (λ c κs. search rules)
    (λ c κs. search rules)
    (λ c κs. w-small c)
    (λ c. search rules)
    (λ c. search rules)
    returns
    relax-requires
    (λ c κs. search rules)
    returns-2
    returns-3)
