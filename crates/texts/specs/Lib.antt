pub mod Decimal
pub mod Lines
pub mod Numeral
pub mod inner
