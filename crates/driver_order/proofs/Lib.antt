pub mod OrderedKeys
pub mod RequestsSorted
mod NumbersFound
mod KeysPrinted
mod RequestsNumbered
mod MadeEach
mod LocalesSeen
