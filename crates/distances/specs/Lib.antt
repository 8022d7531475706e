-- Examples of books of edition 3, and of running times.
pub mod Positions
pub mod Times
