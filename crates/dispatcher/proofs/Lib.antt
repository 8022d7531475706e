-- The definitions in the order in which the code goes through them.
pub mod Sent
pub mod Batched
pub mod Outcomes
