-- What the unit does. Read in this order; `Validity`, `Refusals` and `History` have the claims, proved in `proofs/` in
-- files of the same names. Letters: u a unit, t its train, a its start, e its end, p a phase or a post, b a button, m a
-- move, f the bytes of a frame.
pub mod Types
pub mod State
pub mod Making
pub mod Pressing
pub mod Hearing
pub mod Validity
pub mod Refusals
pub mod History
