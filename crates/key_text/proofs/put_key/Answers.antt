-- The key of the bytes read: the question is looked at first; where it is whole, the key is that of its question on the rest of the bytes.
use mathlib.Core.Path.{sym, ◌∙◌}
use native.Mathlib.Omega.{arith}
use Rattle.signed.proofs.Laws.{number_of_bits}
use Rattle.key_text.proofs.Pieces.{rest}
use Rattle.key_text.proofs.Answering.{question_whole, question_refused}
use Rattle.key_text.proofs.put_key.Goals as goal

pub returns-in-Err : goal.returns-in-Err
returns-in-Err c =
    question_refused c.args.input.now c.args.text.now c.put_refused.new.text c.put_refused.result _ _ c.in-Err.ensures c.put_refused.ensures
    c.put_refused.auto.text

pub read_u16-source-requires : goal.read_u16-source-requires
read_u16-source-requires c = let whole = question_whole c.args.input.now c.in_default.ensures in omega arith

pub read_u16-sink-requires : goal.read_u16-sink-requires
read_u16-sink-requires c = let whole = question_whole c.args.input.now c.in_default.ensures in omega arith

pub read_i32-value-requires : goal.read_i32-value-requires
read_i32-value-requires c = let whole = question_whole c.args.input.now c.in_default.ensures in omega arith

pub slice_bounds-put_answer-count : goal.slice_bounds-put_answer-count
slice_bounds-put_answer-count c = let whole = question_whole c.args.input.now c.in_default.ensures in omega (arith, c.record_length-after.ensures.0)

pub slice_bounds-put_answer-start : goal.slice_bounds-put_answer-start
slice_bounds-put_answer-start c = let whole = question_whole c.args.input.now c.in_default.ensures in omega (arith, c.record_length-after.ensures.0)

pub returns : goal.returns
returns c =
    let b = c.args.input.now in
    c.put_answer.ensures b c.in_default.ensures (rest b _ c.record_length-after.ensures.0) (sym c.read_u16-source.ensures) (sym c.read_u16-sink.ensures)
    (sym (number_of_bits _ (record { sfits = c.read_i32-value.type_inv }) ∙ c.read_i32-value.ensures))
