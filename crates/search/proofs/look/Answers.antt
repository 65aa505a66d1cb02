-- Each way through the loop is a law of `Halfway`.
use Rattle.std.proofs.Common.{◌<◌, arith}
use Rattle.search.specs.Given.{given, end_at}
use Rattle.search.specs.Configuration.{tables_of}
use Rattle.search.proofs.Trying.{try_in, try_left, try_near}
use Rattle.search.proofs.Halfway.{look_begins, look_keeps, look_lowers, look_ends}
use Rattle.search.proofs.look.Goals as goal
use Rattle.search.proofs.look.Goals.{then-relax, else-relax}

pub loop-j-init : goal.loop-j-init
loop-j-init c =
    let a = c.args in
    let G = given a.lefts.now a.lengths.now a.order.now a.starts.now a.darts a.faces in
    look_begins G c.requires.1 a.i c.wide-start.result c.requires.0 c.wide-start.ensures

pub relax-requires : goal.relax-requires
relax-requires c =
    let a = c.args in
    let G = given a.lefts.now a.lengths.now a.order.now a.starts.now a.darts a.faces in
    let h = c.loop-j.invariant in
    let d = c.wide-d in
    let more : c.loop-j.j < end_at G a.i = omega (arith, c.loop-j-test.true, c.group_end-e.ensures) in (
      h.trying.stage.size_potentials,
      h.trying.stage.size_parents,
      omega (arith, h.trying.i_in, h.sound.few_faces),
      omega (arith, try_in h.sound c.requires.1 h.trying d.result more d.ensures, h.sound.few_darts),
      omega (arith, try_left h.sound c.requires.1 h.trying d.result more d.ensures, h.sound.few_faces),
      try_near h.sound c.requires.1 h.trying d.result more d.ensures,
    )

pub loop-j-preserved : goal.loop-j-preserved
loop-j-preserved c =
    let a = c.args in
    let o = c.loop-j in
    let G = given a.lefts.now a.lengths.now a.order.now a.starts.now a.darts a.faces in
    let d = c.wide-d in
    let more : o.j < end_at G a.i = omega (arith, c.loop-j-test.true, c.group_end-e.ensures) in
    elim c.if-relax.branch [
      | then-relax w ↦ rw (w.waiting-is, w.queue-is, w.end-is)
          (look_lowers G c.requires.1 o.invariant d.result more d.ensures
          (tables_of c.relax.new.potentials c.relax.new.parents w.push-end.new.waiting w.push-end.new.queue w.push-end.result)
          c.wide-f.result c.wide-f.ensures c.relax.result w.if-relax.true c.relax.ensures w.push-end.ensures)
      | else-relax w ↦ rw (w.waiting-is, w.queue-is, w.end-is)
          (look_keeps G c.requires.1 o.invariant d.result more d.ensures _ _ c.relax.result w.if-relax.false c.relax.ensures)
    ]

pub returns : goal.returns
returns c =
    let a = c.args in
    let G = given a.lefts.now a.lengths.now a.order.now a.starts.now a.darts a.faces in
    look_ends G c.requires.1 c.loop-j.invariant (omega (arith, c.loop-j-test.false, c.group_end-e.ensures)) c.wide-start.ensures
