-- What the entry points for C and Rust mean: what each call answers and leaves in the buffers that it is lent. The
-- layouts are in `encoding`. Read in this order; `HandedOn` and `CallRuns` have the claims on the two ends, proved in
-- the files of `proofs/` of the same names, `PlanningCalls` that on the running time (`proofs/TimeTold`), and
-- `PlaceCalls` that on place reports (`proofs/PlaceTold`). Letters: b bytes, u a unit, l a line, s a state, x a train
-- or a number of metres, r a record, t a time, k a kind of report, p q posts, i a section, n a number.
pub mod Types
pub mod Word
pub mod UnitCalls
pub mod BoxCalls
pub mod PlanningCalls
pub mod PlaceCalls
pub mod HandedOn
pub mod CallRuns
