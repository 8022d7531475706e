-- The laws of the definitions in `specs/`, each in the file of its definition's name; `Tests` has the laws of Bools
-- that the kit does not have, `Members` those of lists, `Sums` those of sums below a bound, and `First` those of a
-- bound's first number.
pub mod Tests
pub mod Members
pub mod Below
pub mod Sums
pub mod Check
pub mod Part
pub mod Tabulate
pub mod Update
pub mod Bits
pub mod Word
pub mod First
