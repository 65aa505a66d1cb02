-- Practice sheets: a grid is sound and flat, so the sheet of every grid is accepted.
pub mod Sides
pub mod Coordinates
pub mod Labels
pub mod GridSound
pub mod GridFlat
pub mod Accepted
pub mod Writing
pub mod Statements
pub mod Examples
