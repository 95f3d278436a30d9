pub mod Keys
pub mod Values
pub mod Printed
pub mod Views
pub mod Laws
