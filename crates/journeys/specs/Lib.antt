-- Journeys over the channel, 02, card 9: `Reading` says how they are read.
pub mod Reading
pub mod Journeys
