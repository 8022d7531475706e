-- Each promise, by its proof.
pub mod EntryPoints
pub mod Claims
