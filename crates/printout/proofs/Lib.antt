-- Laws of texts and of the lines that are written in them.
pub mod Room
pub mod Decimals
pub mod Records
