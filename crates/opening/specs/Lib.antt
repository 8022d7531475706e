-- The types that the opening's proofs speak of, and its outcome. What it is to do is in `rules`.
pub mod Types
pub mod Outcome
