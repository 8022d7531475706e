-- The laws of tracks counted, of the choice of a track, and of sets of tracks.
pub mod Counting
pub mod Choice
pub mod Sets
