-- The laws that the proofs of the functions cite: what comes after the trains, written.
pub mod Ending
