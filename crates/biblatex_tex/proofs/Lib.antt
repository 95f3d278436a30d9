pub mod TokenLexing
pub mod TokenPairing
pub mod AccentMarks
