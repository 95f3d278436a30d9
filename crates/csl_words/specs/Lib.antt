pub mod Looking
pub mod Printing
pub mod Elements
