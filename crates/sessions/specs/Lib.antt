pub mod Fit
pub mod Ask
