-- Flows added up node by node, and the first edge or node at which given settings fail.
pub mod Tests
pub mod Lowest
pub mod Nets
pub mod Within
pub mod Balance
pub mod Parts
pub mod Examples
