-- What a frame that is accepted must meet, and a repeat's answers as the code holds them. What it does is in `rules`.
pub mod Types
pub mod Acceptable
pub mod Repeating
