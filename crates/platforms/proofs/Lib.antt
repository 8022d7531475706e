-- The examples with tracks, evaluated.
pub mod Tracks
