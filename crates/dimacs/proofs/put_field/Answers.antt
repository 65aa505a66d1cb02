-- A number, and the bytes behind it.
use Rattle.texts.proofs.Joined.{placed_then}
use Rattle.dimacs.proofs.put_field.Goals as goal

pub returns : goal.returns
returns c = placed_then _ _ _ _ _ _ _ _ c.put_decimal-end.ensures c.put_bytes.ensures c.requires
