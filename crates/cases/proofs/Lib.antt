-- The further examples, evaluated.
pub mod Further
