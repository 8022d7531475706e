-- The law that the proof of `quangevit_answer` cites; those of the other calls are in `calls`.
pub mod Answering
