-- The journeys, evaluated.
pub mod Evaluated
