-- What the desk prints: `Lines` has the lines, `Text` what the code holds of them.
pub mod Types
pub mod Text
pub mod Lines
