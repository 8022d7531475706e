-- Cab and desk taken together, 02, card 9. Read in this order: `Together` states the card's claim, readable alone with
-- the files before it; `Channel` says what the channel can do, and `Alone` that each end does in the pair what it does
-- by itself.
-- Letters: p a pair, q the pair after it or a post, t u trains and their units, e an event, n a frame's number among
-- those sent, f its bytes, i what the box gets, c what a unit gets.
pub mod Types
pub mod Pair
pub mod Channel
pub mod Alone
pub mod Together
