-- The examples of place reports, evaluated.
pub mod Evaluated
