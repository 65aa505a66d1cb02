-- Both loops keep that the search has come this far from where they began (`Goes`): what is true between looks, and the answer, follow from that. It ends
-- because each look takes a face from the queue, and each face that comes to it has fallen: what is left to fall (`heights`) is bounded, as a straightening
-- bounds the levels.
use Rattle.std.proofs.Common.{◌≡◌, ◌+◌, ◌-◌, ◌*◌}
use Rattle.search.specs.inner.Progress.{heights}
use Rattle.search.specs.Given.{given}
use Rattle.search.specs.Configuration.{tables_of, configuration}
use Rattle.search.specs.Trace.{Goes}
use Rattle.search.proofs.search.Given as goal

abbrev pub invariant-search : goal.invariant-search
invariant-search l =
    Goes (given l.lefts l.lengths l.order l.starts l.darts l.faces)
    (configuration (tables_of l.initial.potentials l.initial.parents l.initial.waiting l.initial.queue l.initial.last) l.initial.first l.initial.left)
    (configuration (tables_of l.potentials l.parents l.waiting l.queue l.last) l.first l.left)

-- a round without a look is one at most: a straightening with which the search begins
abbrev pub decreases-search : goal.decreases-search
decreases-search l = 2 * (heights l.faces l.potentials + heights l.faces l.potentials + (l.last - l.first)) + (1 - l.left)

abbrev pub invariant-loop-k : goal.invariant-loop-k
invariant-loop-k l = record {
  goes : Goes (given l.lefts l.lengths l.order l.starts l.darts l.faces)
      (configuration (tables_of l.initial.potentials l.initial.parents l.initial.waiting l.initial.queue l.initial.last) l.initial.first l.left)
      (configuration (tables_of l.potentials l.parents l.waiting l.queue l.last) l.first (l.left - l._k));
  taken : l.first ≡ l.initial.first + l._k;
}
