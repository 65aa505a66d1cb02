-- Arrays as functions, and the loops that fill them.
pub mod Tabulate
pub mod FillLoops
