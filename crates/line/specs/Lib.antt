-- What the numbers of a line mean. Read in this order.
pub mod Refusal
pub mod Sorts
pub mod Route
pub mod Line
pub mod Positions
pub mod Book
pub mod Holding
pub mod Claims
