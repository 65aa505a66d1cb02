pub mod Subtotal
pub mod Totals
pub mod inner
