-- The straightening has come to the face f (`Pass`).
use Rattle.search.specs.Configuration.{tables_of}
use Rattle.search.proofs.Passes.{Pass}
use Rattle.search.proofs.straighten.Given as goal

abbrev pub invariant-loop-f : goal.invariant-loop-f
invariant-loop-f l =
    Pass l.lefts l.lengths l.darts l.faces (tables_of l.fn.potentials l.fn.parents l.fn.waiting l.fn.queue l.last) l.f l.links
    (tables_of l.potentials l.parents l.waiting l.queue l.end)
