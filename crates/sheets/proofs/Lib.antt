-- Opening, reading and writing a sheet: each way out as a verdict of the whole list.
pub mod Opening
pub mod Accepted
pub mod Reading
pub mod Placing
pub mod PlacedRecords
pub mod Writing
pub mod ThereAndBack
pub mod Statements
