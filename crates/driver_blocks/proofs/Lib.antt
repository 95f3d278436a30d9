pub mod Alone
pub mod BlocksCases
pub mod RunsCut
pub mod RunsSteps
pub mod GatheredSteps
pub mod PutSteps
pub mod IndexedSteps
