pub mod At
pub mod Filled
pub mod Maps
pub mod inner
