-- Further examples for 02, card 4: runs under local responsibility.
pub mod Gangs
