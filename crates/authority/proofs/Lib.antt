-- The granting in the order in which the code goes through it.
pub mod GrantTest
pub mod Askers
pub mod Working
