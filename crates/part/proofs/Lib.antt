-- What a buffer holds with bytes put into it, or with none where they do not fit.
pub mod Written
