pub mod Open
pub mod Read
pub mod Write
pub mod Statements
pub mod inner
