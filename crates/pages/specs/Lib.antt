pub mod Stretch
pub mod Question
pub mod Page
pub mod inner
