-- The faces at 0 stand in the queue, and the search is asked with them.
use Rattle.std.proofs.Common.{◌∙◌}
use Rattle.arrays.proofs.FillLoops.{same_everywhere}
use Rattle.solver.proofs.settle_all.Goals as goal

pub returns : goal.returns
returns c =
    let o = c.first_faces.ensures in
    let e = c.settle.ensures in
    (e.0, (_, o.0, o.1, e.1, record { are = o.2.are; kept = λ i l. o.2.kept i l ∙ same_everywhere 1024 0 i }, e.2))
