-- The running time between two posts, and the claims about it. Read in this order; `Claims` is proved in
-- `proofs/Claims.antt`. Letters: b a book's bytes, p q posts, v a speed, t a time.
pub mod Timing
pub mod Claims
