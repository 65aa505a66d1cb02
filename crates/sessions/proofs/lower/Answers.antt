use mathlib.Core.Path.{◌≡◌, ◌∙◌}
use Prim.Native.Nat.{◌/◌}
use native.Mathlib.Omega.{arith}
use lib.IntN.{◌-ℤ◌}
use borrow.Author.Rules.{rules}
use Rattle.signed.proofs.Laws.{number_of_bits}
use Rattle.flows.specs.Settings.{on_darts}
use Rattle.arrays.specs.At.{atℤ}
use Rattle.arrays.proofs.FillLoops.{copy_start, copy_step}
use Rattle.sessions.proofs.Lowering.{own_flow, not_yet}
use Rattle.sessions.proofs.lower.Goals as goal

pub loop-d-init : goal.loop-d-init
loop-d-init c = copy_start _ _

-- the limit that is read is the one at entry
pub lowered_by-requires : goal.lowered_by-requires
lowered_by-requires c =
    let a = c.args in
    let d = c.loop-d.d in
    let flow = atℤ a.offer.now (d / 2) in
    rw (
      number_of_bits (atℤ c.loop-d.left d) (record { sfits = search rules }),
      number_of_bits flow (record { sfits = search rules }),
      not_yet d _ a.left.now c.loop-d.left c.loop-d.invariant (omega arith),
      own_flow (atℤ a.left.now d) (atℤ a.offer.now) d,
    ) (c.requires.2 d (omega arith))

pub loop-d-preserved : goal.loop-d-preserved
loop-d-preserved c =
    let a = c.args in
    let d = c.loop-d.d in
    let flow = atℤ a.offer.now (d / 2) in
    let new : c.lowered_by.result ≡ atℤ a.left.now d -ℤ on_darts (atℤ a.offer.now) d = rw (
      number_of_bits (atℤ c.loop-d.left d) (record { sfits = search rules }),
      number_of_bits flow (record { sfits = search rules }),
      not_yet d _ a.left.now c.loop-d.left c.loop-d.invariant (omega arith),
      own_flow (atℤ a.left.now d) (atℤ a.offer.now) d,
    ) at c.lowered_by.ensures in
    copy_step _ d _ _ _ c.loop-d.invariant (omega arith) (number_of_bits _ (record { sfits = c.lowered_by.type_inv }) ∙ new)
