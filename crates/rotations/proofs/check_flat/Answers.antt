-- The orbits of the face step are the faces, so their count decides check 12 of a sound map. Both ways out have their verdict.
use mathlib.Core.Path.{refl}
use native.Mathlib.Omega.{arith}
use Rattle.maps.proofs.Faces.{step_permutes}
use Rattle.arrays.specs.Maps.{map_of}
use Rattle.rotations.proofs.Accepted.{no_rotation_fault, no_node_fault}
use Rattle.rotations.proofs.Steps.{faces_le, faces_are, lefts_are}
use Rattle.rotations.proofs.Order.{refused_12, none_refused}
use Rattle.rotations.proofs.check_flat.Goals as goal

pub number_faces-faces-requires : goal.number_faces-faces-requires
number_faces-faces-requires c =
    let p = c.requires in
    (p.0, p.2, p.3, p.4, step_permutes p.5)

pub overflow_add-nodes : goal.overflow_add-nodes
overflow_add-nodes c =
    let a = c.args in
    let 𝓜 = map_of a.nodes a.edges a.tails.now a.rotations.now in
    omega (arith, faces_are 𝓜 c.number_faces-faces.ensures.3, faces_le 𝓜)

pub returns-then-nodes-faces : goal.returns-then-nodes-faces
returns-then-nodes-faces c =
    let a = c.args in
    let 𝓜 = map_of a.nodes a.edges a.tails.now a.rotations.now in
    let σ = c.requires.5 in
    let e = c.number_faces-faces.ensures in
    rw c.refused.ensures (
      e.0,
      e.1,
      e.2,
      refused_12 𝓜 (no_rotation_fault σ) (no_node_fault σ) σ c.requires.7.1 (faces_are 𝓜 e.3) c.if-nodes-faces.true,
      tt,
    )

pub returns : goal.returns
returns c =
    let a = c.args in
    let 𝓜 = map_of a.nodes a.edges a.tails.now a.rotations.now in
    let σ = c.requires.5 in
    let e = c.number_faces-faces.ensures in
    let count = faces_are 𝓜 e.3 in (
      e.0,
      e.1,
      e.2,
      (none_refused 𝓜 (no_rotation_fault σ) (no_node_fault σ) σ c.requires.7.1 count c.if-nodes-faces.false, lefts_are 𝓜 e.4, count),
      (refl, e.5, e.6),
    )
