-- The least by the largest with the ends exchanged; the ways out of the operation; checks in front of it.
pub mod Exchanged
pub mod Ranging
pub mod After
