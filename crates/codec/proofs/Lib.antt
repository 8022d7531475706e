-- The laws that the proofs of the functions cite: a journal written.
pub mod Writing
