-- The argument: a piece comes byte by byte (`Pieces`); what comes after the book is cut into frames (`Frames`); so
-- what is printed is the paper's transcript (`Transcript`).
pub mod Pieces
pub mod Frames
pub mod Transcript
