-- The laws of the line's definitions, and the claims about its book, its sidings and its positions.
pub mod Travel
pub mod Holding
pub mod WellFormed
pub mod InOrder
pub mod Bytes
pub mod ReadingLaws
pub mod Claims
pub mod Sidings
pub mod Positions
pub mod Positioned
