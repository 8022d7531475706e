-- The law of the test of positions.
pub mod Ordered
