-- What loops and inner functions are proved with: no operation's contract and no printed statement rests on these.
pub mod Starts
pub mod Given
pub mod Lent
