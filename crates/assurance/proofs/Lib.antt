-- The whole list of frames: what ties state, journal and observer together, that every frame keeps it, and that it says
-- what is claimed.
pub mod Logging
pub mod Invariant
pub mod Standstill
pub mod Steps
pub mod Accept
pub mod Records
pub mod Exchanged
pub mod Tracking
pub mod Opened
pub mod Ran
pub mod Told
pub mod WholeList
