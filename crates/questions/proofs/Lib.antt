-- Solve, Largest and Mark on a sound drawing: what the refusals leave, and each way out.
pub mod Asked
pub mod Sets
pub mod Solving
pub mod Finding
pub mod Marking
pub mod After
pub mod OneAnswer
