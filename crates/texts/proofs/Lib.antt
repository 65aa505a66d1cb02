-- Numbers in base ten: written from the right, with their length, and read back; pieces of text in a row.
pub mod Digits
pub mod Length
pub mod Pieces
pub mod Joined
pub mod Writing
pub mod Sign
pub mod ReadBack
pub mod Examples
