-- Words of the code of the granting.
pub mod Types
pub mod Asking
pub mod GrantTrack
pub mod Progress
