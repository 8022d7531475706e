-- Bytes by value, at most so many.
pub mod Bytes
