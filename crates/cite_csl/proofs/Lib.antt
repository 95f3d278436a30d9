pub mod AsCite
pub mod DocumentRead
pub mod NamesNeeded
pub mod RefusedLines
pub mod WorksRead
mod Naming
mod Past
pub mod Outputs
pub mod RunSaid
pub mod SectionLine
