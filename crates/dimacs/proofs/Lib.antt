-- The DIMACS text: arcs and settings, the text read back, its greatest flow.
pub mod Arcs
pub mod Settling
pub mod Largest
pub mod Parting
pub mod ReadBack
pub mod Greatest
pub mod Posed
pub mod Length
pub mod Joined
pub mod Writing
pub mod Examples
