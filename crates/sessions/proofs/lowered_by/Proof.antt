-- Each branch settles the test of the dart's parity.
use mathlib.Core.Path.{sym, ◌∙◌, subst}
use mir.Syntax.{w32}
use mir.Val.{SFits}
use Rattle.signed.proofs.Laws.{number_of_bits}
use Rattle.sessions.proofs.Lowering.{forth, back}
use Rattle.sessions.proofs.lowered_by.Statement.{statement}
use Rattle.sessions.proofs.lowered_by.Tie as tie

minus-requires : tie.Need-minus-requires
minus-requires c κs =
    let s = c in
    rw (number_of_bits _ s.ranges.limit, number_of_bits _ s.ranges.flow)
    (subst (SFits w32) (forth s.args.limit s.args.flow s.args.dart c.if-dart-eq0.true) s.requires)

returns : tie.Need-returns-then-dart-eq0
returns c =
    let s = c in
    number_of_bits _ (record { sfits = c.minus.type_inv }) ∙ (rw (number_of_bits _ s.ranges.limit, number_of_bits _ s.ranges.flow) at c.minus.ensures)
    ∙ sym (forth s.args.limit s.args.flow s.args.dart c.if-dart-eq0.true)

plus-requires : tie.Need-plus-requires
plus-requires c κs =
    let s = c in
    rw (number_of_bits _ s.ranges.limit, number_of_bits _ s.ranges.flow)
    (subst (SFits w32) (back s.args.limit s.args.flow s.args.dart c.if-dart-eq0.false) s.requires)

returns-2 : tie.Need-returns
returns-2 c =
    let s = c in
    number_of_bits _ (record { sfits = c.plus.type_inv }) ∙ (rw (number_of_bits _ s.ranges.limit, number_of_bits _ s.ranges.flow) at c.plus.ensures)
    ∙ sym (back s.args.limit s.args.flow s.args.dart c.if-dart-eq0.false)

pub lowered_by_spec : {M : Type 1} → statement M
lowered_by_spec = tie.close (tie.spec minus-requires returns plus-requires returns-2)
