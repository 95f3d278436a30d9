pub mod PlacesCounted
pub mod WindowsCut
pub mod LinesSaid
