-- Thresholds tried upwards: one whose cut is negative is found.
pub mod Above
pub mod Lowering
pub mod Choosing
pub mod Examples
pub mod OneThreshold
