-- Examples of frames that are sent again: at the box, in the cab, and over the radio between the two.
pub mod AtTheBox
pub mod InTheCab
pub mod OverTheRadio
