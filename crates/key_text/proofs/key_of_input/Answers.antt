-- The key of the bytes read is the key of every input that begins with them, by `printed_whole`.
use Rattle.key_text.proofs.Begun.{printed_whole}
use Rattle.key_text.proofs.key_of_input.Goals as goal

pub returns : goal.returns
returns c = printed_whole c.args.buffer.now c.args.n _ _ _ c.requires.0 c.key_text.ensures
