-- A paper judged by numbers, papers marked one by one, and the printed statements.
pub mod Judging
pub mod Asking
pub mod Marking
pub mod Statements
