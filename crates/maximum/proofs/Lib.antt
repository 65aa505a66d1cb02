-- The bounds between probes, and the three ways in which they meet.
pub mod Gap
pub mod Joining
pub mod Bracketing
