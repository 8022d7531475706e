-- The checks in the order in which the code makes them.
pub mod Refusals
