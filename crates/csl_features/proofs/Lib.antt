pub mod EachElement
pub mod Gathered
