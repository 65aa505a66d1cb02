pub mod Level
pub mod LevelsOf
pub mod SettingsOf
pub mod inner
