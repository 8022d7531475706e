-- Examples for 02, card 7: counts at and above 229, the most records that one frame adds there, and the most that a
-- line of two posts with one train can log.
pub mod Limit
pub mod AllAtOnce
pub mod Shuttle
