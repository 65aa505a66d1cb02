-- What a C program is told: every refusal has a number that is not 0, and a result says which answer it was.
pub mod Numbered
pub mod Paging
pub mod Refusals
pub mod Statements
pub mod OneAnswer
