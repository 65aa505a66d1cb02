-- Sets of nodes as words: bits written in order, asked and counted.
pub mod Bits
pub mod Size
pub mod Writing
pub mod Examples
pub mod SameWords
