pub mod NamesSteps
pub mod NamesMembers
pub mod AnswersAll
pub mod NumbersLent
