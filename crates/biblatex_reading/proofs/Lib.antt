pub mod ReadingSteps
