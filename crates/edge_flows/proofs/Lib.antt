-- The flows that potentials make fit, and are those of the darts.
pub mod Fitting
pub mod Examples
