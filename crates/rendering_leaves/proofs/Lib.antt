pub mod PagesWithoutFormat
pub mod DatesInside
pub mod StatesAppended
pub mod SuffixesCased
pub mod LeavesAppended
pub mod QuotesInside
pub mod LinksHeld
pub mod WordsPrinted
