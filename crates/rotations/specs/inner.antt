-- What loops and inner functions are proved with: no operation's contract and no printed statement rests on these.
pub mod Holding
pub mod Marking
pub mod Register
pub mod Laying
pub mod Passing
