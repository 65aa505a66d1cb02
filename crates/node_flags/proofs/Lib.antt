-- Sets of nodes as flags: worked examples.
pub mod Examples
