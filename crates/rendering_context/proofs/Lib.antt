pub mod AnswersTexts
pub mod ContextCases
pub mod PagesFilled
pub mod VariablesIndices
