pub mod NamesCases
pub mod NamesPeople
pub mod NamesDistinguished
pub mod Counting
pub mod KeysAlike
pub mod KeysOrdered
pub mod NamesShared
pub mod SharedStill
pub mod NamesakesCounted
pub mod FormsShared
mod FirstSteps
