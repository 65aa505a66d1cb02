-- What inner functions are proved with: no operation's contract and no printed statement rests on these.
pub mod Judged
pub mod Asked
pub mod Extremes
