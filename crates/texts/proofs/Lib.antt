pub mod GrowingAppended
pub mod OptionalTexts
pub mod ReadingBounds
pub mod ReadingDigits
pub mod ReadingShorter
pub mod ReadingStarts
pub mod GrowingWritten
