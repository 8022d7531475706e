-- Words of the entry points' code. What they are to do is in `rules`.
pub mod Types
pub mod Step
