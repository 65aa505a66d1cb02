-- The program's text.
pub mod Exporting
