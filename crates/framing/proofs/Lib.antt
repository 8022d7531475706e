-- The laws that the proof of `read` cites; those of what a frame reads as are in `frame`.
pub mod Cases
