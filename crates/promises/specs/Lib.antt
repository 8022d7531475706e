-- All that is promised, on two pages.
pub mod EntryPoints
pub mod Claims
