pub mod Question
pub mod Answered
pub mod Solve
pub mod Largest
pub mod Mark
pub mod inner
