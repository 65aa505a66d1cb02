pub mod Problem
pub mod Reading
pub mod Text
pub mod Drawn
pub mod Write
pub mod inner
