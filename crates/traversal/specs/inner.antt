-- What loops and inner functions are proved with: no operation's contract and no printed statement rests on these.
pub mod Mark
pub mod Spread
pub mod Forest
pub mod Rounds
pub mod FirstCome
