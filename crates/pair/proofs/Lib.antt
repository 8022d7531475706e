-- The claims over both ends. `Link` ties one train's record at the box, its unit and the messages ever sent together,
-- and `Pool` says what is known of the frames sent; `Box` and `Units` show that what happens at either end keeps that,
-- and `Kept` that every event does. `Channel`, `Alone` and `Together` prove the claims of their names.
pub mod Link
pub mod Pool
pub mod Box
pub mod Units
pub mod Channel
pub mod Kept
pub mod Alone
pub mod Together
