-- Trees climbed from both ends of a question, and the lengths that this gives.
pub mod Limits
pub mod Place
pub mod Carrying
pub mod Climbing
pub mod Filling
pub mod PathFlow
pub mod Examples
pub mod OneWay
