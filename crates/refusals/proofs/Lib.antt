-- Refusals in order: lists joined and in turn, at most one answer, tests that decide.
pub mod Order
pub mod Same
pub mod Examples
pub mod Decisions
