-- What loops and inner functions are proved with: no operation's contract and no printed statement rests on these.
pub mod Ends
pub mod Lent
pub mod Search
pub mod Decision
pub mod Named
pub mod LeastLength
