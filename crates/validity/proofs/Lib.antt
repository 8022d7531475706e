-- The tests of a state: the tracks held at a post, the records of the trains, and all of them in the code's order.
pub mod OwnTracks
pub mod Records
pub mod Tested
