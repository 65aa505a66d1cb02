-- The darts of the face before place j are tried (`Halfway`).
use Rattle.search.specs.Given.{given}
use Rattle.search.specs.Configuration.{tables_of}
use Rattle.search.proofs.Halfway.{Halfway}
use Rattle.search.proofs.look.Given as goal

abbrev pub invariant-loop-j : goal.invariant-loop-j
invariant-loop-j l =
    Halfway (given l.lefts l.lengths l.order l.starts l.darts l.faces)
    (tables_of l.initial.potentials l.initial.parents l.initial.waiting l.initial.queue l.initial.end) l.i l.start l.j
    (tables_of l.potentials l.parents l.waiting l.queue l.end)
