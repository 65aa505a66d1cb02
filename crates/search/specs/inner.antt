-- What loops and inner functions are proved with: no operation's contract and no printed statement rests on these.
pub mod OfMap
pub mod Walk
pub mod Settled
pub mod Answer
pub mod Progress
pub mod Ascending
pub mod Taking
