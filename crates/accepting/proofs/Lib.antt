-- The laws of an accepted frame, as the code works on it.
pub mod Declining
pub mod Lending
