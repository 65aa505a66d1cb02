-- The round of a node and what is added along it; subtotals listed and added up, their sum the cut; a dart of each node; the ways out; examples.
pub mod Rounds
pub mod Adding
pub mod Cutting
pub mod Listing
pub mod Filling
pub mod Giving
pub mod Examples
