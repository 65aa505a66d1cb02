-- Orbits numbered by lowest member, and the checks 9 to 12.
pub mod Holding
pub mod Trail
pub mod Laying
pub mod Grouping
pub mod Numbering
pub mod Register
pub mod Whole
pub mod Steps
pub mod Walking
pub mod Order
pub mod Accepted
pub mod Examples
