pub mod MapChecks
pub mod inner
