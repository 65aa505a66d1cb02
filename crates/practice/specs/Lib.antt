pub mod Side
pub mod Grid
pub mod Seed
pub mod Practice
pub mod Statements
