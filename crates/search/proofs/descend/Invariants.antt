-- The faces of the ascent from the last one on have followed their parents, so many as were counted (`Falling`).
use Rattle.std.proofs.Common.{◌-◌}
use Rattle.search.specs.Configuration.{tables_of}
use Rattle.search.proofs.Falling.{Falling}
use Rattle.search.proofs.descend.Given as goal

abbrev pub invariant-loop-k : goal.invariant-loop-k
invariant-loop-k l =
    Falling l.lefts l.lengths l.darts l.faces (tables_of l.fn.potentials l.fn.parents l.fn.waiting l.fn.queue l.last) l.f l.count l.fn.links (l.count - l._k)
    l.y l.links (tables_of l.potentials l.parents l.waiting l.queue l.end)
