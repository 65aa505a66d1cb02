-- Each way out is a law of `Writing`; the text's length is known before the first byte is written.
use mathlib.Core.Path.{◌≡◌, refl, sym, ◌∙◌, ap}
use mathlib.Core.List.{List, ◌++◌}
use Prim.Native.Nat.{ℕ, ◌-◌}
use native.Mathlib.Omega.{arith}
use lib.ListN.{length, take, drop}
use Rattle.std.proofs.lemmas.Result.{err_from_is_err_and}
use Rattle.refusals.proofs.Order.{said_yes, said_no}
use Rattle.arrays.specs.Maps.{drawing_of}
use Rattle.balance.proofs.Parts.{part_written}
use Rattle.texts.specs.inner.Placed.{Placed}
use Rattle.texts.proofs.Joined.{placed_front}
use Rattle.dimacs.proofs.Writing.{text_ends, text_negative, text_short, text_none}
use Rattle.dimacs.proofs.write.Goals as goal

-- the text laid into the part that is as long as it is, which is then given back
text-back : (n : ℕ) (out text y : List ℕ) (end : ℕ) → n ≡ length text → Placed 0 text (take (n - 0) out) y end → y ++ drop (n - 0) out ≡ text ++ drop end out
text-back n out text y end e h =
    let same : end ≡ n = omega (arith, h.1, e) in
    part_written n out text y (placed_front _ _ _ _ h ∙ ap (λ k. text ++ drop k (take (n - 0) out)) same) ∙ ap (λ k. text ++ drop k out) (sym same)

pub returns-in_err-check_ends : goal.returns-in_err-check_ends
returns-in_err-check_ends c =
    let p = err_from_is_err_and c.from_residual.result c.from_residual.ensures.1 in
    let a = c.args in
    let 𝓓 = drawing_of a.nodes a.edges a.outer a.tails.now a.rotations.now a.capacities.now in
    let ends = rw (c.from.ensures, c.from-2.ensures) at c.in_err-check_ends.ensures in
    rw (p.1, p.2) (text_ends 𝓓 a.source a.sink a.out.now _ _ ends, refl)

pub returns-then-some_negative : goal.returns-then-some_negative
returns-then-some_negative c =
    let a = c.args in
    let 𝓓 = drawing_of a.nodes a.edges a.outer a.tails.now a.rotations.now a.capacities.now in
    let two = rw (c.from.ensures, c.from-2.ensures) at c.in_ok-check_ends.ensures in
    rw c.refused.ensures (text_negative 𝓓 a.source a.sink a.out.now two (said_yes c.some_negative.ensures c.if-some_negative.true), refl)

pub returns-then-out-length : goal.returns-then-out-length
returns-then-out-length c =
    let a = c.args in
    let 𝓓 = drawing_of a.nodes a.edges a.outer a.tails.now a.rotations.now a.capacities.now in
    let two = rw (c.from.ensures, c.from-2.ensures) at c.in_ok-check_ends.ensures in
    let none = said_no c.some_negative.ensures c.if-some_negative.false in
    rw c.refused-then-out-length.ensures (text_short 𝓓 a.source a.sink a.out.now two none (omega arith), refl)

pub returns : goal.returns
returns c =
    let a = c.args in
    let 𝓓 = drawing_of a.nodes a.edges a.outer a.tails.now a.rotations.now a.capacities.now in
    let two = rw (c.from.ensures, c.from-2.ensures) at c.in_ok-check_ends.ensures in
    let none = said_no c.some_negative.ensures c.if-some_negative.false in (
      text_none 𝓓 a.source a.sink a.out.now two none (omega arith),
      omega arith,
      text-back c.text_length-length.result a.out.now _ _ _ c.text_length-length.ensures c.put_text.ensures,
    )
