-- The examples with positions and running times, evaluated.
pub mod Evaluated
