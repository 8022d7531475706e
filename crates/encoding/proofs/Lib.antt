-- The laws of the layouts; `RoundTrip` proves the claims of `specs/`.
pub mod Parts
pub mod Units
pub mod Fields
pub mod Statuses
pub mod Reading
pub mod Journals
pub mod RoundTrip
