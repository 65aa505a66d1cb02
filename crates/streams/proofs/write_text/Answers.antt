-- A write that took bytes took those that follow what was written before.
use Rattle.std.proofs.Common.{◌++◌, rules, sym, ap, ◌∙◌, subst, take}
use Rattle.std.proofs.lemmas.List.{take_rest}
use Rattle.std.specs.Io.KnownBytes.{Appends}
use Rattle.std.proofs.KnownBytes.{Appends-trans}
use lib.Seq.{take-add}
use Rattle.streams.proofs.write_text.Goals as goal

pub loop-at-preserved-in-Ok : goal.loop-at-preserved-in-Ok
loop-at-preserved-in-Ok g c =
    let from = c.loop-at.at in
    let n = c.in-Ok.n in
    let text = c.args.text.now in
    let joined = ap (λ l. take from text ++ take n l) (take_rest text from) ∙ sym (take-add from n text) in
    let written = Appends-trans _ _ _ _ _ c.loop-at.invariant.1 c.in-Ok.ensures.bytes in
    (search rules, subst (Appends _ _) joined written)
