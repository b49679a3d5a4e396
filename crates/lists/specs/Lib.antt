-- Definitions for sums, squares, rows, result lists and tests over a count.
pub mod Fold
pub mod Squares
pub mod Tab
pub mod Row
pub mod Laid
pub mod All
