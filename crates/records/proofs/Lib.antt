-- Records and fields of a sheet: the byte checks, what they leave, and the round trip.
pub mod Record
pub mod Heads
pub mod Fields
pub mod Drawing
pub mod KindOne
pub mod Bytes
pub mod ByteChecks
pub mod Examples
pub mod Places
pub mod SheetAgain
pub mod Encodable
pub mod Decode
pub mod EncodeAccepted
pub mod RoundTripExample
pub mod EdgeRead
