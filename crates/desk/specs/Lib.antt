pub mod Paper
pub mod Class
pub mod Statements
pub mod inner
