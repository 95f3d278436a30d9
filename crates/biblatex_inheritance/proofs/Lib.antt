pub mod ResolvedDates
pub mod ResolvedReferences
pub mod ResolvedJoined
pub mod SolutionSteps
pub mod SolutionOrder
pub mod SolutionJoined
pub mod SolutionAlong
