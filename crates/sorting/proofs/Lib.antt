pub mod MappedSorts
pub mod Sorts
pub mod StableSorts
