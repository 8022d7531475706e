-- Where a number of metres is on a line, the nearest of all posts, and the claims about place reports.
pub mod Reached
pub mod Placed
pub mod Cases
pub mod Nearest
pub mod Told
pub mod SameValue
pub mod Claims
