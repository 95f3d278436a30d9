pub mod SideBounds
pub mod PartsMonths
pub mod WrittenAgain
pub mod ShapeExists
pub mod PartsExist
