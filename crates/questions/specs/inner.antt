-- What loops and inner functions are proved with, and relations of which only that they have one end is of use: nothing here needs to be believed.
pub mod Named
pub mod Lent
