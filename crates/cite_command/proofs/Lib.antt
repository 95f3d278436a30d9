pub mod OneLine
pub mod ProgramLines
pub mod ProgramServed
pub mod ProgramWords
