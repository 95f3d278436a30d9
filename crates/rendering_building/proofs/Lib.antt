pub mod BuildingLevels
pub mod BuildingReading
