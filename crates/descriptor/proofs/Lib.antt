-- Laws of an input that is read in parts.
pub mod Parts
