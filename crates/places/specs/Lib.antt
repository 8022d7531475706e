-- Examples of place reports.
pub mod Places
