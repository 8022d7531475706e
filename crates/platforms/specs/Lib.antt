-- Examples of the tracks that trains have.
pub mod Tracks
