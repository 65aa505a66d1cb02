-- The ascent so far (`Rising`). It ends because each face that it goes through had no link.
use Rattle.arrays.specs.Maps.{right_of}
use Rattle.search.proofs.Heights.{fresh}
use Rattle.search.proofs.Rising.{Rising}
use Rattle.search.proofs.ascend.Given as goal

abbrev pub invariant-up : goal.invariant-up
invariant-up l = Rising (right_of l.lefts) l.darts l.faces l.parents l.f l.fn.links l.links l.y l.below l.count

abbrev pub decreases-up : goal.decreases-up
decreases-up l = fresh l.faces l.links
