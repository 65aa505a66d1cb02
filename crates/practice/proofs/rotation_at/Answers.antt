-- The dart next clockwise: the next side has an edge, and its dart is one of at most 960.
use mathlib.Core.Path.{◌≡◌, ◌∙◌, ap}
use mathlib.Core.Bool.{true}
use native.Mathlib.Omega.{arith}
use Rattle.practice.specs.Grid.{present, dart_at}
use Rattle.practice.proofs.Coordinates.{dart_in}
use Rattle.practice.proofs.GridSound.{next_here}
use Rattle.practice.proofs.Accepted.{few_edges}
use Rattle.practice.proofs.rotation_at.Goals as goal

-- the next side has an edge
pub dart_at-requires : goal.dart_at-requires
dart_at-requires c =
    let a = c.args in
    let p = c.requires in
    (p.0, p.1, p.2, p.3, ap (present a.rows a.columns a.r a.c) c.next_side-t.ensures ∙ next_here a.rows a.columns a.r a.c p.2 p.3 a.s p.4)

pub narrow-requires : goal.narrow-requires
narrow-requires c =
    let a = c.args in
    let p = c.requires in
    let here : present a.rows a.columns a.r a.c c.next_side-t.result ≡ true =
    ap (present a.rows a.columns a.r a.c) c.next_side-t.ensures ∙ next_here a.rows a.columns a.r a.c p.2 p.3 a.s p.4 in
    omega (arith, c.dart_at.ensures, dart_in a.rows a.columns a.r a.c p.2 p.3 c.next_side-t.result here, few_edges a.rows a.columns p.0 p.1)

pub returns : goal.returns
returns c =
    let a = c.args in
    c.narrow.ensures ∙ c.dart_at.ensures ∙ ap (dart_at a.rows a.columns a.r a.c) c.next_side-t.ensures
