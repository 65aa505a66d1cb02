-- Little-endian fields: what is written is read, and every value has its bytes.
pub mod Bytes
pub mod Laws
pub mod Written
pub mod Examples
