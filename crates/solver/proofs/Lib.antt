-- One value decided: settled potentials are the highest flow, and a ring gives a proving set.
pub mod SettledFlows
pub mod Ringing
pub mod Preparing
pub mod Deciding
pub mod Naming
pub mod OneSet
pub mod LeastLength
