-- What loops and inner functions are proved with: no operation's contract and no printed statement rests on these.
pub mod Bracket
pub mod Narrowing
pub mod Maximum
pub mod Probing
pub mod Underway
