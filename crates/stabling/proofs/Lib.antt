-- The examples with sidings, evaluated.
pub mod Sidings
