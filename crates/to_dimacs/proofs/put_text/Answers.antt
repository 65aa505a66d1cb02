-- The question is looked at first; where it is whole, the text is that of its ends on the rest of the bytes. Each way out is a law of `Exporting`.
use Rattle.std.proofs.Common.{sym, arith}
use Rattle.key_text.proofs.Pieces.{rest}
use Rattle.key_text.proofs.Answering.{question_whole}
use Rattle.to_dimacs.proofs.Exporting.{question_refused, text_written, text_refused}
use Rattle.to_dimacs.proofs.put_text.Goals as goal

pub returns-in-Err : goal.returns-in-Err
returns-in-Err c =
    question_refused c.args.input.now c.args.text.now c.put_refused.new.text c.put_refused.result c.in-Err.refusal.number c.in-Err.refusal.place
    c.in-Err.ensures c.put_refused.ensures

pub read_u16-source-requires : goal.read_u16-source-requires
read_u16-source-requires c = let whole = question_whole c.args.input.now c.in_default.ensures in omega arith

pub read_u16-sink-requires : goal.read_u16-sink-requires
read_u16-sink-requires c = let whole = question_whole c.args.input.now c.in_default.ensures in omega arith

pub slice_bounds-write_dimacs-count : goal.slice_bounds-write_dimacs-count
slice_bounds-write_dimacs-count c = let whole = question_whole c.args.input.now c.in_default.ensures in omega (arith, c.record_length-after.ensures.0)

pub slice_bounds-write_dimacs-start : goal.slice_bounds-write_dimacs-start
slice_bounds-write_dimacs-start c = let whole = question_whole c.args.input.now c.in_default.ensures in omega (arith, c.record_length-after.ensures.0)

pub returns-in-Ok : goal.returns-in-Ok
returns-in-Ok c =
    text_written c.args.input.now c.args.text.now c.in_default.ensures _ _ _ (sym (rest c.args.input.now _ c.record_length-after.ensures.0))
    c.read_u16-source.ensures c.read_u16-sink.ensures _ _ c.in-Ok.ensures

pub returns-in-Err-write_dimacs : goal.returns-in-Err-write_dimacs
returns-in-Err-write_dimacs c =
    text_refused c.args.input.now c.args.text.now c.in_default.ensures _ _ _ (sym (rest c.args.input.now _ c.record_length-after.ensures.0))
    c.read_u16-source.ensures c.read_u16-sink.ensures _ _ _ c.in-Err-write_dimacs.refusal c.in-Err-write_dimacs.ensures
    c.put_refused-in-Err-write_dimacs.ensures
