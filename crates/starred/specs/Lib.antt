pub mod Drawings
pub mod Texts
pub mod Table
