pub mod AsWrittenHolds
pub mod CitationsCases
pub mod ContentsTokens
pub mod EndingTexts
pub mod JoiningSteps
pub mod MeetingTexts
pub mod StandaloneSteps
