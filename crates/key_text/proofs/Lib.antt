-- The key's text: its pieces in a row, its answer from Solve's, and that bytes behind the input do not matter.
pub mod Alike
pub mod Unread
pub mod Length
pub mod Answering
pub mod Demand3
pub mod Pieces
pub mod Begun
pub mod OneKey
pub mod Statements
