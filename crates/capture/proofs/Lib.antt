-- What the reader finds; records checked in turn; the window taken; the checks that stand last; limits taken in phases; Largest on
-- them; what the least of a window is.
pub mod Reading
pub mod Checking
pub mod Taking
pub mod Lasting
pub mod Limits
pub mod Finding
pub mod Least
pub mod Lending
