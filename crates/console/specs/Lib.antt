-- `Run`: from frame to frame. `Piece` and `Console`: what the code keeps between two bytes. `Transcript`: what is to be
-- printed for an input, in the paper's words, and the claim that it is.
pub mod Types
pub mod Run
pub mod Piece
pub mod Console
pub mod Transcript
