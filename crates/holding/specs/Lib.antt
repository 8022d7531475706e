-- Words of the code that tells who holds what.
pub mod Types
pub mod Holders
