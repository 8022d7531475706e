-- Laws of bytes that come one by one.
pub mod Room
