-- Heights laid along the walk are right on every dart.
pub mod FillingHeights
pub mod HeightsOfMap
pub mod Examples
pub mod OneHeight
