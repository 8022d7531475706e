-- The version of the library. What its calls mean is in `calls`.
pub mod Version
