-- Where a place report puts a unit, and the claims about it. Read in this order; `Claims` is proved in
-- `proofs/Claims.antt`. Letters: b a book's bytes, l its line, n posts, ps positions, p q posts, i a section, x a
-- number of metres, m a c whole metres, r a report, or a post beside p and q, k a number of a refusal.
pub mod Metres
pub mod Locating
pub mod Claims
