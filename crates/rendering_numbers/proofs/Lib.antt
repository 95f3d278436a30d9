pub mod DigitsAscii
pub mod NumbersEndings
pub mod NumbersSeparators
pub mod NumbersValues
pub mod SuffixesAndLabelsValues
pub mod YearsValues
pub mod YearsWritten
