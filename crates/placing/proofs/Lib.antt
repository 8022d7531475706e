-- The laws that the proofs of the functions cite: bytes copied, and a buffer filled.
pub mod Copying
pub mod Filled
