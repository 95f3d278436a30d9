pub mod ShownMembers
pub mod ProgramFaults
pub mod ShownPlain
pub mod ProgramUnique
pub mod FlatApart
pub mod FlatFiles
