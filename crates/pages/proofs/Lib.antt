pub mod Room
pub mod Stretches
pub mod Answering
pub mod Listing
pub mod After
