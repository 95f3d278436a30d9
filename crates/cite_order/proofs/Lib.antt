pub mod EntriesInOrder
pub mod Keyless
pub mod ListedWorks
pub mod MarkersInOrder
pub mod NeededWorks
pub mod OnceAgreed
pub mod Requested
pub mod Stages
