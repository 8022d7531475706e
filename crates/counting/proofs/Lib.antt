-- The examples with high counts, evaluated.
pub mod Evaluated
