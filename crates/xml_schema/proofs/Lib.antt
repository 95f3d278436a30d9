pub mod Firsts
pub mod Contents
pub mod Waits
pub mod Spaces
pub mod Words
pub mod Validity
pub mod Moved
