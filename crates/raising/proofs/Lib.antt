-- A drawing with one forward capacity replaced; the least that serves; the ways out of the operation; checks in front of it.
pub mod Examples
pub mod Raised
pub mod Seeking
pub mod Raising
pub mod After
