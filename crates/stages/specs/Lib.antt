-- The words of the functions that read a book. What a book says and when it is refused is in `line`.
pub mod Stages
