-- The cases of a running time, and the claims about it.
pub mod Cases
pub mod Claims
