pub mod Question
pub mod Text
pub mod Key
pub mod Input
pub mod inner
pub mod OneKey
pub mod Statements
