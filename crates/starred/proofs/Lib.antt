-- The starred lines by computation: drawings, sets, answers and keys, and the table of all.
pub mod Sheets
pub mod Sets
pub mod Answers
pub mod Keys
pub mod Lines
pub mod Table
