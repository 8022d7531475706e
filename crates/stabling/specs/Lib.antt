-- Examples of books of edition 2, and of trains put away in a siding.
pub mod Sidings
