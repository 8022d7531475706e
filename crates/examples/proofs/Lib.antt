-- The examples, worked out.
pub mod Examples
pub mod Books
