-- The examples with repeats, evaluated.
pub mod Evaluated
