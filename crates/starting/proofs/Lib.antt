-- The laws of the tracks that trains take at the opening.
pub mod StartTracks
