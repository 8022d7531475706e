-- The test of a line's form.
pub mod FormTest
