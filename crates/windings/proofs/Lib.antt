-- The parents followed round a ring, and that the number found is its winding.
pub mod Crossing
pub mod Round
pub mod WindingOfRing
pub mod Examples
