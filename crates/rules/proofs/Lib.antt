-- The laws of the definitions, for any state and any table, right or altered.
pub mod Trains
pub mod Validity
pub mod FreeTrack
pub mod Changes
pub mod Reached
pub mod Oldest
pub mod Possessions
pub mod Grants
pub mod Settling
pub mod Acceptance
pub mod Frames
pub mod Refusals
pub mod Repeats
pub mod Counts
pub mod Taking
pub mod Starting
pub mod OpeningCases
