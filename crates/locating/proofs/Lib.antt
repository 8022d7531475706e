-- The machine's comparisons as those of exact values.
pub mod Exact
