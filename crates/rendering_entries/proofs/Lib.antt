pub mod WorksLevels
pub mod WorksAnswers
pub mod LibraryAnswers
pub mod LibraryLabels
pub mod WrittenTexts
