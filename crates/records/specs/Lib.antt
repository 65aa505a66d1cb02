pub mod Record
pub mod Check
pub mod Sheet
pub mod Encode
pub mod inner
