-- What the program's own functions are proved with: no operation's contract and no printed statement rests on these.
pub mod Export
