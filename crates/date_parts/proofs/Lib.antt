pub mod WrittenPadded
pub mod WrittenAgain
pub mod CalendarDays
