pub mod Stages
pub mod Sources
pub mod CslLines
pub mod Sheets
pub mod FeatureLines
pub mod Answers
pub mod JoinedFaults
pub mod Views
