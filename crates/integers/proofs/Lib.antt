-- Whole numbers by omega; sums, counting, injections.
pub mod Omega
pub mod Laws
pub mod Rounding
pub mod Tests
pub mod Sums
pub mod IntegerSums
pub mod Counting
pub mod Pigeonhole
pub mod Injections
pub mod Limits
