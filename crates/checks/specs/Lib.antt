-- Words of the code of the checks. Which checks a frame must pass is in `rules`.
pub mod Types
pub mod Messages
