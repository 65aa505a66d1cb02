-- Both level operations: levels laid along the walk, the flows that levels give, and their ways out.
pub mod DartFlow
pub mod FillingLevels
pub mod LevelsOfMap
pub mod Level
pub mod LevelsFound
pub mod SettingsFound
pub mod Given
pub mod After
pub mod Examples
