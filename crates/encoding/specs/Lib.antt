-- Which bytes stand for a unit, a line, a state, a journal, a running time and a place. Read in this order; `RoundTrip`
-- has the claims, and the file of `proofs/` of that name their proofs. Letters: b bytes, u a unit, l a line, s a state,
-- x a train, r a record, t a time, a a place, p q posts, i a section, n a number.
pub mod Types
pub mod UnitBytes
pub mod Parts
pub mod LineBytes
pub mod StateBytes
pub mod JournalBytes
pub mod TimeBytes
pub mod PlaceBytes
pub mod RoundTrip
