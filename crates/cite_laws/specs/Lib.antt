pub mod Verdicts
pub mod Ends
pub mod Local
pub mod Uncited
pub mod WrittenOut
pub mod Hidden
pub mod OtherNames
pub mod Printed
