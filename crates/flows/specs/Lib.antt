pub mod ZeroFace
pub mod Settings
pub mod Parts
pub mod Levels
pub mod Highest
pub mod ProvingSet
pub mod Check
pub mod inner
