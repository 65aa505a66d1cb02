-- The walk over the darts from one of them: its loop, and what it reaches.
pub mod Spreading
pub mod Reach
pub mod Forests
pub mod Rooting
pub mod Rounding
pub mod Coming
