-- Which track a train gets, and how the code answers it. Read in this order.
pub mod Tracks
pub mod Answers
