-- The cut of a set of flagged nodes, edge by edge, is that of the map.
pub mod Cuts
pub mod Adding
pub mod CutOfMap
