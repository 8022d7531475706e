-- Words of the code that tests a state.
pub mod Types
pub mod Tests
