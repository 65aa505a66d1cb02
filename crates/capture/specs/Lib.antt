pub mod Entry
pub mod Window
pub mod Capture
pub mod inner
