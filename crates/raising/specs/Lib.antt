pub mod Raised
pub mod Raise
pub mod inner
