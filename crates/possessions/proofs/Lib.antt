-- The examples with gangs, evaluated.
pub mod Gangs
