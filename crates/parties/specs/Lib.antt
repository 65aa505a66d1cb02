pub mod Shared
pub mod Start
pub mod Calls
pub mod Seen
pub mod Reached
pub mod Statements
pub mod Drops
pub mod inner
