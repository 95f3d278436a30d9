pub mod Words
pub mod StopWords
pub mod Cases
pub mod Along
pub mod Laws
pub mod Views
