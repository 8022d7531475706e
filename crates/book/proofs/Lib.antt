-- The stages are the checks of a book in order, and a list that is copied over zeros.
pub mod InOrder
pub mod Copied
