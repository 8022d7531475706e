-- Further examples, beside the paper's own in `examples`: altered tables, stores that are not blank, full posts, which
-- number comes first.
pub mod Further
