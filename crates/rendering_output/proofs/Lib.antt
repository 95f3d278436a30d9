pub mod TargetsTaken
pub mod WritingCalls
pub mod WritingDeclared
pub mod WritingEscaped
pub mod WritingTags
